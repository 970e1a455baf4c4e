-- The rows of a whole program at other places.
use Rattle.std.proofs.Common.{◌≡◌, ℕ, ◌+◌, ◌-◌, Bool, List, [], ◌∷◌, ◌++◌, length, codes, map, Option, Some, None, unwrap_or, option_map, if◌then◌else◌, refl, sym, subst, ap, ap₂, ◌∙◌, arith}
use Rattle.std.proofs.lemmas.Slice.Eq.{bytes_eq-Decides}
use Rattle.mc_span.specs.declared.span.Span.{Span}
use Rattle.mc_lex.specs.Tokens.{Tok}
use Rattle.mc_tree.specs.Tree.{Item}
use Rattle.mc_tree.specs.Tree as tree
use Rattle.mc_typed.specs.Tree as t
use Rattle.mc_steps.specs.Points.{Points, no_points, ◌⊕◌, points_of_all, points_of_function, all_complete}
use Rattle.mc_probe.specs.Maps.{Map, exit_bit, statement_bit, label_bit}
use Rattle.mc_probe.specs.Switches.{switches_all}
use Rattle.mc_probe.specs.Table.{At, put_statements, decisions_in, put_function, put_functions, instrumented}
use Rattle.reread_law_texts.specs.alike.Moves.{Move, AllFit, moved_span}
use Rattle.reread_law_texts.specs.alike.Trees.{moved_unit}
use Rattle.types_rules.specs.Typing.{typing_of}
use Rattle.reread_law_places.specs.natural.Laws.{TypingsMove}
use Rattle.reread_law_places.specs.natural.Moved.{moved_typed_statements, moved_function, moved_functions, moved_program}
use Rattle.reread_law_places.specs.natural.Settled.{settled_statements, settled_function, settled_functions, settled}
use Rattle.reread_law_places.specs.still.Unplaced.{unplaced}
use Rattle.reread_law_places.proofs.Still.Points.{complete_same, all_points_same, function_points_same, all_switches_same}
use Rattle.reread_law_places.proofs.Still.Put.{still, SameNumbers, functions_kept}
use Rattle.reread_law_places.proofs.Still.Placeless.{functions_still}
use Rattle.reread_law_places.proofs.Still.Maps as maps
use Rattle.reread_law_rows.specs.inserted.Rows.{rows_in_statements}
use Rattle.reread_law_printed.specs.parts.Stands.{IsFunctionAmong, AreAmong}
use Rattle.reread_law_printed.specs.parts.Moved.{moved_row, IsMoved, AreMoved}
use Rattle.laws_types.specs.SourceUnits.{AreFunctionsOf, ProgramsHaveTheirSource}
use Rattle.laws_types.specs.SourceUnits as of
use Rattle.reread_law_printed.specs.shifted.Laws.{RowsAreMoved}
use Rattle.reread_law_printed.proofs.Shifted.Counting.{decisions_same, complete_clear, all_points_clear, all_switches_clear, function_points_clear, decisions_clear}
use Rattle.reread_law_printed.proofs.Shifted.Bodies.{over, statements_carry}
use Rattle.reread_law_printed.proofs.Shifted.Settling.{statements_rows}

-- what is the same at other places, and without some of them, is the same of two parts that differ
-- in places alone
told : {A B : Type 0} (F : A → B) (move clear : A → A) → ((x : A) → F (clear x) ≡ F x) → ((x : A) → F (move x) ≡ F x) → (a b : A) → clear b ≡ clear (move a) → F b ≡ F a
told F move clear cleared same a b e = sym (cleared b) ∙ (ap F e ∙ (cleared (move a) ∙ same a))

-- the counters at the start of a body
abbrev first_at : (v : Map) (decisions : ℕ) (points : Points) (k : ℕ) → At v decisions
first_at v decisions points k = record {
  exit = exit_bit v points.exits;
  statement = statement_bit v points.statements;
  label = label_bit v points.labels;
  decision = 0;
  switch = k;
}

-- ---- the brace that closes a body

abbrev span : ℕ → ℕ → Span
span start end = record { start = start; end = end }

less_one : (a b : ℕ) → a ≡ b + 1 → a - 1 ≡ b
less_one a b e = omega (arith, e)

module _ (move : Move) where
  -- each closing brace has one byte, also where it is moved to
  abbrev Braces : List t.Function → Type 0
  Braces [] = Unit {0}
  Braces (f ∷ fs) = (move.end f.closing.end ≡ move.start f.closing.start + 1) × Braces fs

  -- one is where the other is moved to
  abbrev Closed : List t.Function → List t.Function → Type 0
  Closed [] [] = Unit {0}
  Closed [] (g ∷ gs) = ⊥
  Closed (f ∷ fs) [] = ⊥
  Closed (f ∷ fs) (g ∷ gs) = (g.closing ≡ moved_span move f.closing) × Closed fs gs

  fit_after : (xs ys : List Tok) → AllFit move (xs ++ ys) → AllFit move ys
  fit_after [] ys h = h
  fit_after (x ∷ xs) ys h = fit_after xs ys h.1

  braces : (m : Map) (number decisions : ℕ) (points : Points) (fs : List t.Function) (ts : List Tok) → AllFit move ts
      → AreAmong (put_functions m number decisions points fs) ts → Braces fs
  braces m number decisions points [] ts fits h = tt
  braces m number decisions points (f ∷ fs) ts fits h =
      let q : IsFunctionAmong ts (put_function m number decisions points f) = h.0 in
      let all : AllFit move (q.before ++ q.name ∷ (q.parameters ++ q.opening ∷ (q.inside ++ q.closing ∷ q.after))) = subst (λ us. AllFit move us) q.all fits in
      let from_name : AllFit move (q.name ∷ (q.parameters ++ q.opening ∷ (q.inside ++ q.closing ∷ q.after))) = fit_after q.before (q.name ∷ (q.parameters ++ q.opening ∷ (q.inside ++ q.closing ∷ q.after))) all in
      let from_brace : AllFit move (q.opening ∷ (q.inside ++ q.closing ∷ q.after)) = fit_after q.parameters (q.opening ∷ (q.inside ++ q.closing ∷ q.after)) from_name.1 in
      let at_end : AllFit move (q.closing ∷ q.after) = fit_after q.inside (q.closing ∷ q.after) from_brace.1 in
      let one : length q.closing.text ≡ 1 = ap (λ text. length text) ((bytes_eq-Decides q.closing.text (codes "}")).0 q.closing_is) in (
        ap move.end (sym q.closing_end) ∙ (at_end.0 ∙ ap₂ (λ (a b : ℕ). move.start a + b) q.closing_start one),
        braces m (number + 1) (decisions + decisions_in f) (points ⊕ points_of_function f) fs q.after at_end.1 h.1,
      )

  closed : (unit : List Item) (fs gs : List t.Function) → AreFunctionsOf unit fs → AreFunctionsOf (moved_unit move unit) gs → Braces fs → Closed fs gs
  closed [] _ _ of.no_functions of.no_functions b = tt
  closed (tree.Declared d ∷ rest) fs gs (of.declared h) (of.declared k) b = closed rest fs gs h k b
  closed (tree.Defined words (tree.object stars name all at) body place ∷ rest) fs gs h k b = elim h [ ]
  closed (tree.Defined words (tree.function stars name given at) body place ∷ rest) [] gs h k b = elim h [ ]
  closed (tree.Defined words (tree.function stars name given at) body place ∷ rest) (f ∷ fs) [] h k b = elim k [ ]
  closed (tree.Defined words (tree.function stars name given at) body place ∷ rest) (f ∷ fs) (g ∷ gs) (of.defined own h) (of.defined other k) b =
      let end : place.end ≡ f.closing.end = sym (ap (λ (s : Span). s.end) own.closing) in
      let start : move.end place.end - 1 ≡ move.start f.closing.start = ap (λ (n : ℕ). move.end n - 1) end ∙ less_one (move.end f.closing.end) (move.start f.closing.start) b.0 in
      (other.closing ∙ ap₂ (λ (x y : ℕ). span x y) start (ap move.end end), closed rest fs gs h k b.1)

  -- ---- functions

  module _ (m w : Map) (same : SameNumbers m w) where
    first_same : (decisions : ℕ) (points : Points) (k : ℕ) → over move m w same decisions (first_at m decisions points k) ≡ first_at w decisions points k
    first_same decisions points k = λ i. record {
      exit = sym same.exits i + points.exits;
      statement = sym same.statements i + points.statements;
      label = sym same.labels i + points.labels;
      decision = 0;
      switch = k;
    }

    decisions_alike : (f g : t.Function) → settled_function g ≡ settled_function (moved_function move f) → decisions_in g ≡ decisions_in f
    decisions_alike = told decisions_in (moved_function move) settled_function decisions_clear (decisions_same move)

    points_alike : (f g : t.Function) → settled_function g ≡ settled_function (moved_function move f) → points_of_function g ≡ points_of_function f
    points_alike = told points_of_function (moved_function move) settled_function function_points_clear (function_points_same move)

    rows_moved : (decisions : ℕ) (points : Points) (j k : ℕ) (a b : t.Statements) → j ≡ k → settled_statements b ≡ settled_statements (moved_typed_statements move a)
        → rows_in_statements (put_statements w decisions 0 (first_at w decisions points j) b) []
        ≡ map (moved_row move) (rows_in_statements (put_statements m decisions 0 (first_at m decisions points k) a) [])
    rows_moved decisions points j k a b alike e =
        ap (λ (n : ℕ). rows_in_statements (put_statements w decisions 0 (first_at w decisions points n) b) []) alike
        ∙ (sym (statements_rows w decisions 0 (first_at w decisions points k) b [])
        ∙ (ap (λ (all : t.Statements). rows_in_statements (put_statements w decisions 0 (first_at w decisions points k) all) []) e
        ∙ (statements_rows w decisions 0 (first_at w decisions points k) (moved_typed_statements move a) []
        ∙ (ap (λ (at : At w decisions). rows_in_statements (put_statements w decisions 0 at (moved_typed_statements move a)) []) (sym (first_same decisions points k))
        ∙ statements_carry move m w same decisions 0 (first_at m decisions points k) a []))))

    function_moved : (number decisions : ℕ) (points : Points) (f g : t.Function) → settled_function g ≡ settled_function (moved_function move f)
        → g.closing ≡ moved_span move f.closing → IsMoved move (put_function m number decisions points f) (put_function w number decisions points g)
    function_moved number decisions points f g e c =
        let body : settled_statements g.body ≡ settled_statements (moved_typed_statements move f.body) = ap (λ (x : t.Function). x.body) e in
        let complete : all_complete g.body ≡ all_complete f.body = told all_complete (moved_typed_statements move) settled_statements complete_clear (complete_same move) f.body g.body body in
        let all_points : points_of_all g.body ≡ points_of_all f.body = told points_of_all (moved_typed_statements move) settled_statements all_points_clear (all_points_same move) f.body g.body body in
        let all_switches : switches_all g.body ≡ switches_all f.body = told switches_all (moved_typed_statements move) settled_statements all_switches_clear (all_switches_same move) f.body g.body body in
        record {
          name = ap (λ (x : t.Function). x.name_span) e;
          closing = c;
          registers = ap₂ (λ (x y : ℕ). x + y) (decisions_alike f g e) all_switches;
          entry = refl;
          exit = ap₂ (λ (b : Bool) (x : ℕ). if b then Some x else None) complete
              (ap₂ (λ (x : ℕ) (y : Points). x + (points.exits + y.exits)) same.exits all_points);
          rows = rows_moved decisions points (decisions_in g) (decisions_in f) f.body g.body (decisions_alike f g e) body;
        }

    abbrev first_of : t.Function → List t.Function → t.Function
    first_of f [] = f
    first_of f (g ∷ gs) = g

    abbrev rest_of : List t.Function → List t.Function
    rest_of [] = []
    rest_of (g ∷ gs) = gs

    functions_moved : (number decisions : ℕ) (points : Points) (fs gs : List t.Function) → settled_functions gs ≡ settled_functions (moved_functions move fs)
        → Closed fs gs → AreMoved move (put_functions m number decisions points fs) (put_functions w number decisions points gs)
    functions_moved number decisions points [] [] e c = tt
    functions_moved number decisions points [] (g ∷ gs) e c = absurd c
    functions_moved number decisions points (f ∷ fs) [] e c = absurd c
    functions_moved number decisions points (f ∷ fs) (g ∷ gs) e c =
        let one : settled_function g ≡ settled_function (moved_function move f) = ap (first_of (settled_function g)) e in
        let before : List _ = put_functions m (number + 1) (decisions + decisions_in f) (points ⊕ points_of_function f) fs in (
          function_moved number decisions points f g one c.0,
          subst (λ (k : ℕ). AreMoved move before (put_functions w (number + 1) (decisions + k) (points ⊕ points_of_function g) gs)) (sym (decisions_alike f g one))
              (subst (λ (x : Points). AreMoved move before (put_functions w (number + 1) (decisions + decisions_in f) (points ⊕ x) gs)) (sym (points_alike f g one))
              (functions_moved (number + 1) (decisions + decisions_in f) (points ⊕ points_of_function f) fs gs (ap rest_of e) c.1)),
        )

-- ---- programs

own : (m : Map) → SameNumbers m m
own m = record { exits = refl; statements = refl; labels = refl; bases = λ k. refl; increments = λ k c. refl }

trees_alike : (move : Move) (p q : t.Program) (m w : Map) → SameNumbers m w → w.bits ≡ m.bits → settled q ≡ settled (moved_program move p)
    → unplaced (instrumented w q) ≡ unplaced (instrumented m p)
trees_alike move p q m w same bits e = λ i. record {
  program = record {
    functions = (functions_kept w w (own w) 0 0 no_points q.functions
        ∙ (ap (put_functions w 0 0 no_points) (functions_still move p q e)
        ∙ sym (functions_kept m w same 0 0 no_points p.functions))) i;
    statics = ap (λ (x : t.Program). x.statics) e i;
    structures = ap (λ (x : t.Program). x.structures) e i;
  };
  bits = bits i;
}

-- a moved unit has the moved program, but for the places that are cut out of others
same_program : TypingsMove → (move : Move) (unit : List Item) (p q : t.Program) → typing_of unit ≡ Some p → typing_of (moved_unit move unit) ≡ Some q → settled q ≡ settled (moved_program move p)
same_program moves move unit p q typed moved =
    ap (λ (o : Option t.Program). unwrap_or o (settled q))
    (sym (ap (option_map settled) moved) ∙ (moves move unit ∙ ap (λ (o : Option t.Program). option_map settled (option_map (moved_program move) o)) typed))

pub rows_are_moved : ProgramsHaveTheirSource → TypingsMove → RowsAreMoved
rows_are_moved source moves move tokens unit p q m fits among typed moved h =
    let e : settled q ≡ settled (moved_program move p) = same_program moves move unit p q typed moved in
    let s : moved_functions still q.functions ≡ moved_functions still p.functions = functions_still move p q e in
    let w : Map = maps.there p q m s h in
    let same : SameNumbers m w = maps.numbers p q m s h in (
      w,
      maps.is_map p q m s h,
      refl,
      trees_alike move p q m w same refl e,
      functions_moved move m w same 0 0 no_points p.functions q.functions (ap (λ (x : t.Program). x.functions) e)
          (closed move unit p.functions q.functions (source unit p typed) (source (moved_unit move unit) q moved)
          (braces move m 0 0 no_points p.functions tokens fits among)),
    )
