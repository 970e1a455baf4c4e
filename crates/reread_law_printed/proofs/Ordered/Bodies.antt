-- The order of the rows of initializers, declarations and statements: one case for each rule of what
-- they have of their source.
use Rattle.std.proofs.Common.{◌≡◌, ◌≤◌, ℕ, ◌+◌, ◌-◌, Bool, true, false, if◌then◌else◌, List, [], ◌∷◌, Option, Some, None, refl, sym, ap, subst, arith}
use Rattle.mc_span.specs.declared.span.Span.{Span}
use Rattle.mc_tree.specs.Tree.{Expression, Expressions, InitDeclarator, Declaration, BlockItems, span_of_statement}
use Rattle.mc_tree.specs.Tree as tree
use Rattle.mc_typed.specs.declared.probes.Probe.TheVariants as probe
use Rattle.mc_typed.specs.Tree.{Effect, Declarator, Statements}
use Rattle.mc_typed.specs.Tree as typed
use Rattle.decide_rules.specs.declared.role.Role.TheVariants.{Plain}
use Rattle.decide_rules.specs.Nodes as nodes
use Rattle.decide_rules.specs.Counts.{roots}
use Rattle.mc_steps.specs.Points.{initializes, has_default}
use Rattle.mc_probe.specs.Maps.{Map}
use Rattle.mc_probe.specs.Table.{Loose, At, past, mark_unless_default, put_effects, put_initializer, put_initializers, put_initial, put_declarators, put_start, put_optional, put_return, put_statement, put_statements}
use Rattle.reread_pieces.specs.declared.piece.What.TheVariants as what
use Rattle.reread_law_rows.specs.inserted.Rows.{Row, Rows, row, counted_declaration, absent_default, rows_in_effects, rows_in_initializer, rows_in_initializers, rows_in_initial, rows_in_declarators, rows_in_start, rows_in_optional, rows_in_return, rows_in_statement, rows_in_statements}
use Rattle.reread_law_printed.specs.parts.Stands.{AreInOrder}
use Rattle.laws_types.specs.SourceUnits.{IsInitializerOf, AreInitializersOf, AreObjectsOf, AreDeclaredBy, AreClausesOf, ArePartOf, IsStartOf, IsTestOf, IsReturnOf, AreStatementsOf, AreItemsOf, joined, span_of_declaration}
use Rattle.laws_types.specs.SourceUnits as of
use Rattle.reread_law_rows.proofs.Signed.Bodies.{bare_rows}
use Rattle.reread_law_printed.specs.ordered.Laws.{RowsAreInOrder}
use Rattle.reread_law_printed.specs.ordered.Nested.{HoldsAll, InOptional, InInitializer, InInitializers, InObjects, InDeclaration, InStart, NestedStatement, InBlock}
use Rattle.reread_law_printed.proofs.Ordered.Going.{le, same, Goes, nothing, followed, wider, forward, initializer_forward, objects_forward}
use Rattle.reread_law_printed.proofs.Ordered.Values.{number, operand, structure, effect}

-- ---- statements in braces, and rows that are there or not

-- the probe, what it encloses, and its end
braced : (b : ℕ) (span : Span) {s e : ℕ} {mine : Rows} → span.start ≤ s → e ≤ span.end → Goes s e mine
    → Goes span.start span.end (λ later. row (what.Statement b) span (mine (row what.StatementEnd span later)))
braced b span h l g = record {
  goes = λ from to later f k.
      (f, g.goes span.start to (row what.StatementEnd span later) h (λ x c. (le c l, k span.end (same span.end))));
}

declared_at : (b : Bool) (n : ℕ) (span : Span) (from to : ℕ) (later : List Row) → from ≤ span.start → ((f : ℕ) → f ≤ span.start → AreInOrder f later to)
    → AreInOrder from (counted_declaration (if b then Some n else None) span later) to
declared_at true n span from to later h k = (h, k span.start (same span.start))
declared_at false n span from to later h k = k from h

absent_at : (m : Map) (first : ℕ) (b : Bool) (at : At m first) (span : Span) → {s : ℕ} → s ≤ span.end → Goes s span.end (absent_default (mark_unless_default m first b at) span)
absent_at m first true at span l = nothing l
absent_at m first false at span l = record { goes = λ from to later f k. (le f l, k span.end (same span.end)) }

label_at : (r bit : ℕ) (span : Span) {s : ℕ} → s ≤ span.end → Goes s span.end (row (what.Label r bit) span)
label_at r bit span l = record { goes = λ from to later f k. (le f l, k span.end (same span.end)) }

-- ---- places that go forward

optional_forward : {from to : ℕ} (a : Option Expression) → InOptional from a to → from ≤ to
optional_forward None h = h
optional_forward (Some a) h = le h.0 (le (forward a h.2) h.1)

declaration_forward : {from to : ℕ} (d : Declaration) → InDeclaration from d to → from ≤ to
declaration_forward (tree.declaration words ds span) h = le h.0 (le (objects_forward ds h.1) h.2)

start_forward : {from to : ℕ} (s : tree.ForStart) → InStart from s to → from ≤ to
start_forward (tree.StartsLocal d) h = declaration_forward d h
start_forward (tree.StartsExpression a) h = optional_forward a h

six_less : (a b c : ℕ) → a + 6 ≤ b → b ≤ c - 1 → a ≤ c
six_less a b c h l = omega (arith, h, l)

mutual
  forward_statement : (s : tree.Statement) → NestedStatement s → (span_of_statement s).start ≤ (span_of_statement s).end
  forward_statement (tree.Compound b span) h = forward_block b h
  forward_statement (tree.Null span) h = h
  forward_statement (tree.ExpressionStatement a span) h = le h.0 (le (forward a h.2) h.1)
  forward_statement (tree.If a s span) h = le h.0 (le (forward a h.1) (le h.2.0 (le (forward_statement s h.2.1) h.2.2)))
  forward_statement (tree.IfElse a s u span) h = le h.0 (le (forward a h.1) (le h.2 (le (forward_statement s h.3) (le h.4.0 (le (forward_statement u h.4.1) h.4.2)))))
  forward_statement (tree.Switch a s span) h = le h.0 (le (forward a h.1) (le h.2.0 (le (forward_statement s h.2.1) h.2.2)))
  forward_statement (tree.While a s span) h = le h.0 (le (forward a h.1) (le h.2.0 (le (forward_statement s h.2.1) h.2.2)))
  forward_statement (tree.DoWhile s a span) h = le h.0 (le (forward_statement s h.1) (optional_forward (Some a) h.2))
  forward_statement (tree.For start a b s span) h =
      le (start_forward start h.3) (le (optional_forward a h.4) (le (optional_forward b h.5) (le h.6.0 (le (forward_statement s h.6.1) h.6.2))))
  forward_statement (tree.Case a label s span) h = le h.0 (le h.1.0 (le (forward_statement s h.1.1) h.1.2))
  forward_statement (tree.Default label s span) h = le h.0 (le h.1.0 (le (forward_statement s h.1.1) h.1.2))
  forward_statement (tree.Label name s span) h = le h.0 (le (forward_statement s h.1) h.2)
  forward_statement (tree.Goto name span) h = h
  forward_statement (tree.Break span) h = h
  forward_statement (tree.Continue span) h = h
  forward_statement (tree.Return None span) h = h
  forward_statement (tree.Return (Some a) span) h =
      six_less span.start (span.end - 1) span.end (optional_forward (Some a) h) (same (span.end - 1))

  forward_block : {from to : ℕ} (b : BlockItems) → InBlock from b to → from ≤ to
  forward_block tree.no_block_items h = h
  forward_block (tree.local d rest) h = le (declaration_forward d h.1) (forward_block rest h.2)
  forward_block (tree.statement s rest) h = le h.0 (le (forward_statement s h.1) (forward_block rest h.2))

module _ (m : Map) (first : ℕ) where
  -- ---- initializers and declarations

  mutual
    initial : {i : tree.Initializer} {x : typed.Initializer} {from to : ℕ} → IsInitializerOf i x → InInitializer from i to → (d : ℕ)
        → Goes from to (rows_in_initializer (put_initializer m first d x))
    initial (of.number_initial h) k d = wider k.0 k.1 (operand m first h k.2 [] (Loose Plain) _)
    initial (of.structure_initial h) k d = wider k.0 k.1 (structure m first h k.2 _)
    initial (of.list_initial h) k d = initials h k _
    initial (of.in_braces h) k d = initials h k _
    initial {i = i} (of.zero_initial {e = e} h) k d = record {
      goes = λ from to later f g.
          subst (λ rs. AreInOrder from rs to) (sym (bare_rows e later)) (g from (le f (initializer_forward i k)));
    }

    initials : {items : tree.Initializers} {all : typed.Initializers} {from to : ℕ} → AreInitializersOf items all → InInitializers from items to → (d : ℕ)
        → Goes from to (rows_in_initializers (put_initializers m first d all))
    initials of.no_initials k d = nothing k
    initials (of.initials h l) k d = followed (initial h k.1 _) (same _) (initials l k.2 _)

  objects : {ds : List InitDeclarator} {all : List Declarator} {from to : ℕ} → AreObjectsOf ds all → InObjects from ds to → (d : ℕ)
      → Goes from to (rows_in_declarators (put_declarators m first d all))
  objects of.no_objects k d = nothing k
  objects (of.object_bare {d = x} {all = all} e h) k d = record {
    goes = λ from to later f g.
        let n : ℕ = d + roots Plain (nodes.initial x.value) in
        subst (λ (v : Option typed.Initializer). AreInOrder from (rows_in_initial (put_initial m first d v) (rows_in_declarators (put_declarators m first n all) later)) to)
        (sym e) ((objects h k n).goes from to later f g);
  }
  objects (of.object_initialized {d = x} {all = all} h e l) k d = record {
    goes = λ from to later f g.
        let n : ℕ = d + roots Plain (nodes.initial x.value) in
        subst (λ (v : Option typed.Initializer). AreInOrder from (rows_in_initial (put_initial m first d v) (rows_in_declarators (put_declarators m first n all) later)) to)
        (sym e) ((followed (initial h k.1 d) (same k.0) (objects l k.2 n)).goes from to later f g);
  }
  objects (of.function_bare h) k d = objects h k _
  objects (of.function_initialized {value = value} h) k d = wider (initializer_forward value k.1) (same _) (objects h k.2 _)

  -- of a declaration at its place
  declared : (from to : ℕ) {x : Declaration} {all : List Declarator} → AreDeclaredBy x all → InDeclaration from x to → (d : ℕ)
      → Goes (span_of_declaration x).start to (rows_in_declarators (put_declarators m first d all))
  declared from to {x = tree.declaration words ds span} of.kept_apart k d = nothing (le (objects_forward ds k.1) k.2)
  declared from to (of.automatic e h) k d = wider (same _) k.2 (objects h k.1 _)

  starts : (from to : ℕ) (x : Declaration) → InDeclaration from x to → from ≤ (span_of_declaration x).start
  starts from to (tree.declaration words ds span) k = k.0

  -- ---- parts of statements

  clauses : {all : Expressions} {xs : List Effect} {from to : ℕ} → AreClausesOf all xs → HoldsAll from all to → (d : ℕ)
      → Goes from to (rows_in_effects (put_effects m first d xs))
  clauses of.no_clauses k d = nothing k
  clauses (of.clauses h l) k d = wider k.0 (same _) (followed (effect m first h k.1 _) (same _) (clauses l k.2 _))

  part : {a : Option Expression} {xs : List Effect} {from to : ℕ} → ArePartOf a xs → InOptional from a to → (d : ℕ)
      → Goes from to (rows_in_effects (put_effects m first d xs))
  part of.no_part k d = nothing k
  part (of.one_clause h) k d = wider k.0 k.1 (effect m first h k.2 _)
  part (of.more_clauses h) k d = wider k.0 k.1 (clauses h k.2 _)

  start : {s : tree.ForStart} {x : typed.ForStart} {from to : ℕ} → IsStartOf s x → InStart from s to → (d : ℕ)
      → Goes from to (rows_in_start (put_start m first d x))
  start {from = from} {to = to} (of.start_declaration {d = x} h) k d = wider (starts from to x k) (same _) (declared from to h k _)
  start (of.start_clauses h) k d = part h k _

  test : {a : Option Expression} {e : Option typed.Expression} {from to : ℕ} → IsTestOf a e → InOptional from a to → (d : ℕ)
      → Goes from to (rows_in_optional (put_optional m first d e))
  test of.no_test k d = nothing k
  test (of.one_test h) k d = wider k.0 k.1 (number m first h k.2 [] _ _)

  -- with its exit
  valued : (b : ℕ) (span : Span) {s e : ℕ} {mine : Rows} → span.start + 6 ≤ s → e ≤ span.end - 1 → span.start ≤ span.end → Goes s e mine
      → Goes span.start span.end (λ later. row what.Value span (mine (row (what.ValueEnd b) span later)))
  valued b span h l w g = record {
    goes = λ from to later f k.
        (f, g.goes (span.start + 6) to (row (what.ValueEnd b) span later) h (λ x c. (le c l, k span.end (same span.end))));
  }

  returned : {a : Option Expression} {v : typed.ReturnValue} (span : Span) → IsReturnOf a v → NestedStatement (tree.Return a span) → (d b : ℕ)
      → Goes span.start span.end (rows_in_return (Some b) span (put_return m first d v))
  returned span of.return_nothing k d b = record { goes = λ from to later f g. (f, (k, g span.end (same span.end))) }
  returned {a = Some a} span (of.return_number h) k d b =
      valued b span k.0 k.1 (forward_statement (tree.Return (Some a) span) k) (operand m first h k.2 [] (Loose Plain) _)
  returned {a = Some a} span (of.return_structure h) k d b =
      valued b span k.0 k.1 (forward_statement (tree.Return (Some a) span) k) (structure m first h k.2 _)

  -- ---- statements

  -- after all of these
  abbrev past_all : Statements → At m first → At m first
  past_all typed.no_statements at = at
  past_all (typed.statements s rest) at = past_all rest (past m first s at)

  joined_rows : (some all : Statements) (r : ℕ) (at : At m first) (mine : List Row)
      → rows_in_statements (put_statements m first r at (joined some all)) mine
      ≡ rows_in_statements (put_statements m first r at some) (rows_in_statements (put_statements m first r (past_all some at) all) mine)
  joined_rows typed.no_statements all r at mine = refl
  joined_rows (typed.statements s rest) all r at mine =
      ap (λ rs. rows_in_statement (put_statement m first r at s) rs) (joined_rows rest all r (past m first s at) mine)

  mutual
    stated : {s : tree.Statement} {all : Statements} → AreStatementsOf s all → NestedStatement s → (r : ℕ) (at : At m first)
        → Goes (span_of_statement s).start (span_of_statement s).end (rows_in_statements (put_statements m first r at all))
    stated (of.compound h) k r at = items h k r at
    stated (of.null_statement {span = span}) k r at = braced _ span (same span.start) k (nothing (same span.start))
    stated (of.effect_statement {span = span} h) k r at = braced _ span k.0 k.1 (effect m first h k.2 _)
    stated (of.if_statement {span = span} h l) k r at =
        braced _ span k.0 (same span.end) (followed (number m first h k.1 [] _ _) (same _) (wider k.2.0 k.2.2 (stated l k.2.1 _ _)))
    stated (of.if_else_statement {span = span} h l n) k r at =
        braced _ span k.0 (same span.end) (followed (number m first h k.1 [] _ _) k.2 (followed (stated l k.3 _ _) (same _) (wider k.4.0 k.4.2 (stated n k.4.1 _ _))))
    stated (of.switch_statement {all = all} {span = span} h l) k r at =
        braced _ span k.0 (same span.end)
        (followed (operand m first h k.1 (probe.Switch at.switch ∷ []) (Loose Plain) _) (same _)
        (followed (wider k.2.0 k.2.2 (stated l k.2.1 at.switch _)) (same span.end) (absent_at m first (has_default all) at span (same span.end))))
    stated (of.while_statement {span = span} h l) k r at =
        braced _ span k.0 (same span.end) (followed (number m first h k.1 [] _ _) (same _) (wider k.2.0 k.2.2 (stated l k.2.1 _ _)))
    stated (of.do_statement {span = span} h l) k r at =
        braced _ span k.0 (same span.end) (followed (stated h k.1 _ _) (same _) (wider k.2.0 k.2.1 (number m first l k.2.2 [] _ _)))
    stated (of.for_statement {span = span} h l n j) k r at =
        braced _ span (same span.start) (same span.end)
        (followed (start h k.3 _) (same k.0) (followed (test l k.4 _) (same k.1) (followed (part n k.5 _) (same k.2) (wider k.6.0 k.6.2 (stated j k.6.1 _ _)))))
    stated (of.case_label {label = label} ty h e f l) k r at =
        followed (label_at r at.label label k.0) (same label.end) (wider k.1.0 k.1.2 (stated l k.1.1 _ _))
    stated (of.default_label {label = label} h) k r at =
        followed (label_at r at.label label k.0) (same label.end) (wider k.1.0 k.1.2 (stated h k.1.1 _ _))
    stated (of.break_statement {span = span}) k r at = braced _ span (same span.start) k (nothing (same span.start))
    stated (of.continue_statement {span = span}) k r at = braced _ span (same span.start) k (nothing (same span.start))
    stated (of.return_statement {span = span} h) k r at = braced _ span (same span.start) (same span.end) (returned span h k _ _)

    items : {b : BlockItems} {all : Statements} {from to : ℕ} → AreItemsOf b all → InBlock from b to → (r : ℕ) (at : At m first)
        → Goes from to (rows_in_statements (put_statements m first r at all))
    items of.no_items k r at = nothing k
    items (of.local_item {d = x} {ds = ds} h l) k r at = record {
      goes = λ from to later f g.
          declared_at (initializes ds) at.statement (span_of_declaration x) from to _ (le f (starts _ k.0 x k.1))
          (λ c b. (followed (declared _ k.0 h k.1 _) (same k.0) (items l k.2 _ _)).goes c to later b g);
    }
    items (of.statement_item {some = some} {all = all} h l) k r at = record {
      goes = λ from to later f g.
          subst (λ rs. AreInOrder from rs to) (sym (joined_rows some all r at later))
          ((followed (stated h k.1 r at) (same _) (items l k.2 r (past_all some at))).goes from to later (le f k.0) g);
    }

pub rows_are_in_order : RowsAreInOrder
rows_are_in_order m first r at b all from to h k = (items m first h k r at).goes from to [] (same from) (λ f c. c)
