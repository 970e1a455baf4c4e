-- Rows of initializers, declarations and statements side by side: one case for each rule of what they
-- have of their source.
use Rattle.std.proofs.Common.{◌≡◌, ◌≤◌, ℕ, ◌+◌, ◌-◌, Bool, true, false, if◌then◌else◌, List, [], ◌∷◌, Option, Some, None, refl, sym, ap, subst, arith}
use Rattle.mc_span.specs.declared.span.Span.{Span}
use Rattle.mc_lex.specs.Tokens.{Tok}
use Rattle.mc_tree.specs.Tree.{Expression, Expressions, InitDeclarator, Declaration, BlockItems, span_of_statement}
use Rattle.mc_tree.specs.Tree as tree
use Rattle.mc_typed.specs.declared.probes.Probe.TheVariants as probe
use Rattle.mc_typed.specs.Tree.{Effect, Declarator, Statements}
use Rattle.mc_typed.specs.Tree as typed
use Rattle.decide_rules.specs.declared.role.Role.TheVariants.{Plain}
use Rattle.decide_rules.specs.Nodes as nodes
use Rattle.decide_rules.specs.Counts.{roots}
use Rattle.mc_steps.specs.Points.{initializes, has_default}
use Rattle.mc_probe.specs.Maps.{Map}
use Rattle.mc_probe.specs.Table.{Loose, At, past, put_effects, put_initializer, put_initializers, put_initial, put_declarators, put_start, put_optional, put_statement, put_statements}
use Rattle.reread_pieces.specs.declared.piece.What.TheVariants as what
use Rattle.reread_law_rows.specs.inserted.Rows.{Row, Rows, counted_declaration, rows_in_effects, rows_in_initializer, rows_in_initializers, rows_in_initial, rows_in_declarators, rows_in_start, rows_in_optional, rows_in_statement, rows_in_statements}
use Rattle.laws_types.specs.SourceUnits.{IsInitializerOf, AreInitializersOf, AreObjectsOf, AreDeclaredBy, AreClausesOf, ArePartOf, IsStartOf, IsTestOf, AreStatementsOf, AreItemsOf, joined, span_of_declaration}
use Rattle.laws_types.specs.SourceUnits as of
use Rattle.reread_law_rows.proofs.Signed.Bodies.{bare_rows}
use Rattle.reread_law_printed.specs.placed.Separate.{AreSeparateAfter}
use Rattle.reread_law_printed.specs.ordered.Nested.{HoldsAll, InOptional, InInitializer, InInitializers, InObjects, InDeclaration, InStart, NestedStatement, InBlock}
use Rattle.laws_reread.proofs.Ready.{le, same, put, is_later, Goes, nothing, followed, wider, braced, braced_switch, labelled, returned, valued}
use Rattle.laws_reread.proofs.Around.{silent, next, wide, forward, initializer_forward, objects_forward}
use Rattle.laws_reread.proofs.Values.{number, operand, structure, effect}
use Rattle.laws_reread.proofs.Laid.{AreFar, IsLaid, AreLaid, objects_far}
use Rattle.laws_reread.proofs.Labels.{HasLabels, HaveLabels}

-- ---- places that go forward

optional_forward : {from to : ℕ} (a : Option Expression) → InOptional from a to → from ≤ to
optional_forward None h = h
optional_forward (Some a) h = le h.0 (le (forward a h.2) h.1)

declaration_forward : {from to : ℕ} (d : Declaration) → InDeclaration from d to → from ≤ to
declaration_forward (tree.declaration words ds span) h = le h.0 (le (objects_forward ds h.1) h.2)

start_forward : {from to : ℕ} (s : tree.ForStart) → InStart from s to → from ≤ to
start_forward (tree.StartsLocal d) h = declaration_forward d h
start_forward (tree.StartsExpression a) h = optional_forward a h

six_less : (a b c : ℕ) → a + 6 ≤ b → b ≤ c - 1 → a ≤ c
six_less a b c h l = omega (arith, h, l)

mutual
  forward_statement : (s : tree.Statement) → NestedStatement s → (span_of_statement s).start ≤ (span_of_statement s).end
  forward_statement (tree.Compound b span) h = block_forward b h
  forward_statement (tree.Null span) h = h
  forward_statement (tree.ExpressionStatement a span) h = le h.0 (le (forward a h.2) h.1)
  forward_statement (tree.If a s span) h = le h.0 (le (forward a h.1) (le h.2.0 (le (forward_statement s h.2.1) h.2.2)))
  forward_statement (tree.IfElse a s u span) h = le h.0 (le (forward a h.1) (le h.2 (le (forward_statement s h.3) (le h.4.0 (le (forward_statement u h.4.1) h.4.2)))))
  forward_statement (tree.Switch a s span) h = le h.0 (le (forward a h.1) (le h.2.0 (le (forward_statement s h.2.1) h.2.2)))
  forward_statement (tree.While a s span) h = le h.0 (le (forward a h.1) (le h.2.0 (le (forward_statement s h.2.1) h.2.2)))
  forward_statement (tree.DoWhile s a span) h = le h.0 (le (forward_statement s h.1) (optional_forward (Some a) h.2))
  forward_statement (tree.For start a b s span) h =
      le (start_forward start h.3) (le (optional_forward a h.4) (le (optional_forward b h.5) (le h.6.0 (le (forward_statement s h.6.1) h.6.2))))
  forward_statement (tree.Case a label s span) h = le h.0 (le h.1.0 (le (forward_statement s h.1.1) h.1.2))
  forward_statement (tree.Default label s span) h = le h.0 (le h.1.0 (le (forward_statement s h.1.1) h.1.2))
  forward_statement (tree.Label name s span) h = le h.0 (le (forward_statement s h.1) h.2)
  forward_statement (tree.Goto name span) h = h
  forward_statement (tree.Break span) h = h
  forward_statement (tree.Continue span) h = h
  forward_statement (tree.Return None span) h = h
  forward_statement (tree.Return (Some a) span) h =
      six_less span.start (span.end - 1) span.end (optional_forward (Some a) h) (same (span.end - 1))

  pub block_forward : {from to : ℕ} (b : BlockItems) → InBlock from b to → from ≤ to
  block_forward tree.no_block_items h = h
  block_forward (tree.local d rest) h = le (declaration_forward d h.1) (block_forward rest h.2)
  block_forward (tree.statement s rest) h = le h.0 (le (forward_statement s h.1) (block_forward rest h.2))

module _ (tokens : List Tok) (b : Bool) (high : ℕ) (m : Map) (first : ℕ) where
  -- from one byte to another
  abbrev Step : ℕ → ℕ → Rows → Type 0
  Step s e mine = Goes tokens b high s high e mine

  -- ---- initializers and declarations

  mutual
    initial : {i : tree.Initializer} {x : typed.Initializer} {from to : ℕ} → IsInitializerOf i x → InInitializer from i to → (d : ℕ)
        → Step from to (rows_in_initializer (put_initializer m first d x))
    initial (of.number_initial h) k d = wide k.0 k.1 (operand tokens b high m first h k.2 [] (Loose Plain) _)
    initial (of.structure_initial h) k d = wide k.0 k.1 (structure tokens b high m first h k.2 _)
    initial (of.list_initial h) k d = initials h k _
    initial (of.in_braces h) k d = initials h k _
    initial {i = i} {from = from} (of.zero_initial {e = e} h) k d = record {
      goes = λ v at later f g.
          subst (λ rs. AreSeparateAfter tokens v at rs) (sym (bare_rows e later)) ((silent {n = high} (initializer_forward i k)).goes v at later f g);
    }

    initials : {items : tree.Initializers} {all : typed.Initializers} {from to : ℕ} → AreInitializersOf items all → InInitializers from items to → (d : ℕ)
        → Step from to (rows_in_initializers (put_initializers m first d all))
    initials of.no_initials k d = silent k
    initials (of.initials h l) k d = next (initial h k.1 _) (same _) (initials l k.2 _)

  objects : {ds : List InitDeclarator} {all : List Declarator} {from to : ℕ} → AreObjectsOf ds all → InObjects from ds to → (d : ℕ)
      → Step from to (rows_in_declarators (put_declarators m first d all))
  objects of.no_objects k d = silent k
  objects (of.object_bare {d = x} {all = all} e h) k d = record {
    goes = λ w at later f g.
        let n : ℕ = d + roots Plain (nodes.initial x.value) in
        subst (λ (v : Option typed.Initializer). AreSeparateAfter tokens w at (rows_in_initial (put_initial m first d v) (rows_in_declarators (put_declarators m first n all) later)))
        (sym e) ((objects h k n).goes w at later f g);
  }
  objects (of.object_initialized {d = x} {all = all} h e l) k d = record {
    goes = λ w at later f g.
        let n : ℕ = d + roots Plain (nodes.initial x.value) in
        subst (λ (v : Option typed.Initializer). AreSeparateAfter tokens w at (rows_in_initial (put_initial m first d v) (rows_in_declarators (put_declarators m first n all) later)))
        (sym e) ((next (initial h k.1 d) (same k.0) (objects l k.2 n)).goes w at later f g);
  }
  objects (of.function_bare h) k d = objects h k _
  objects (of.function_initialized {value = value} h) k d = wide (initializer_forward value k.1) (same _) (objects h k.2 _)

  -- of a declaration at its place
  declared : (from to : ℕ) {x : Declaration} {all : List Declarator} → AreDeclaredBy x all → InDeclaration from x to → (d : ℕ)
      → Step (span_of_declaration x).start to (rows_in_declarators (put_declarators m first d all))
  declared from to {x = tree.declaration words ds span} of.kept_apart k d = silent (le (objects_forward ds k.1) k.2)
  declared from to (of.automatic e h) k d = wide (same _) k.2 (objects h k.1 _)

  starts : (from to : ℕ) (x : Declaration) → InDeclaration from x to → from ≤ (span_of_declaration x).start
  starts from to (tree.declaration words ds span) k = k.0

  -- ---- parts of statements

  clauses : {all : Expressions} {xs : List Effect} {from to : ℕ} → AreClausesOf all xs → HoldsAll from all to → (d : ℕ)
      → Step from to (rows_in_effects (put_effects m first d xs))
  clauses of.no_clauses k d = silent k
  clauses (of.clauses h l) k d = wide k.0 (same _) (next (effect tokens b high m first h k.1 _) (same _) (clauses l k.2 _))

  part : {a : Option Expression} {xs : List Effect} {from to : ℕ} → ArePartOf a xs → InOptional from a to → (d : ℕ)
      → Step from to (rows_in_effects (put_effects m first d xs))
  part of.no_part k d = silent k
  part (of.one_clause h) k d = wide k.0 k.1 (effect tokens b high m first h k.2 _)
  part (of.more_clauses h) k d = wide k.0 k.1 (clauses h k.2 _)

  start : {s : tree.ForStart} {x : typed.ForStart} {from to : ℕ} → IsStartOf s x → InStart from s to → (d : ℕ)
      → Step from to (rows_in_start (put_start m first d x))
  start {from = from} {to = to} (of.start_declaration {d = x} h) k d = wide (starts from to x k) (same _) (declared from to h k _)
  start (of.start_clauses h) k d = part h k _

  test : {a : Option Expression} {e : Option typed.Expression} {from to : ℕ} → IsTestOf a e → InOptional from a to → (d : ℕ)
      → Step from to (rows_in_optional (put_optional m first d e))
  test of.no_test k d = silent k
  test (of.one_test h) k d = wide k.0 k.1 (number tokens b high m first h k.2 [] _ _)

module _ (tokens : List Tok) (m : Map) (first : ℕ) where
  -- from one byte to another, both counted statements and expressions
  abbrev Stretch : Bool → ℕ → ℕ → Rows → Type 0
  Stretch b s e mine = Goes tokens b s s e e mine

  -- a declaration in a block, which has a row where it initializes an object
  local_rows : (b has : Bool) (from : ℕ) (span : Span) {ds : List InitDeclarator} {all : List Declarator} → AreObjectsOf ds all → initializes all ≡ has → from ≤ span.start → InObjects span.start ds span.end → AreFar tokens span ds
      → (bit d : ℕ) → Stretch b from span.end (λ later. counted_declaration (if has then Some bit else None) span (rows_in_declarators (put_declarators m first d all) later))
  local_rows b true from span h e l k f bit d =
      let far = objects_far tokens span span.start span.end h e k f in
      record {
        goes = λ v at later x rest.
            put (what.Declaration bit) span _ x l (is_later tokens b _ _ v at (what.Declaration bit) span l x.ready)
            ((objects tokens b span.end m first h far.objects d).goes (what.Declaration bit) span later (record { past = far.past; ready = far.two }) rest);
      }
  local_rows b false from span {ds = ds} h e l k f bit d =
      wider (le l (objects_forward ds k)) l (same span.end) (same span.end) (objects tokens b span.end m first h k d)

  -- ---- statements

  -- after all of these
  abbrev past_all : Statements → At m first → At m first
  past_all typed.no_statements at = at
  past_all (typed.statements s rest) at = past_all rest (past m first s at)

  joined_rows : (some all : Statements) (r : ℕ) (at : At m first) (mine : List Row)
      → rows_in_statements (put_statements m first r at (joined some all)) mine
      ≡ rows_in_statements (put_statements m first r at some) (rows_in_statements (put_statements m first r (past_all some at) all) mine)
  joined_rows typed.no_statements all r at mine = refl
  joined_rows (typed.statements s rest) all r at mine =
      ap (λ rs. rows_in_statement (put_statement m first r at s) rs) (joined_rows rest all r (past m first s at) mine)

  mutual
    stated : (b : Bool) {s : tree.Statement} {all : Statements} → AreStatementsOf s all → NestedStatement s → IsLaid tokens s → HasLabels b s → (r : ℕ) (at : At m first)
        → Stretch b (span_of_statement s).start (span_of_statement s).end (rows_in_statements (put_statements m first r at all))
    stated b (of.compound h) k i q r at = items b h k i q r at
    stated b (of.null_statement {span = span}) k i q r at = braced _ span i (same span.end) k (nothing (same span.end) (same span.start))
    stated b (of.effect_statement {span = span} h) k i q r at = braced _ span i (same span.end) k.1 (wide k.0 (same _) (effect tokens true span.end m first h k.2 _))
    stated b (of.if_statement {s = s} {span = span} h l) k i q r at =
        braced _ span i.0 k.2.2 k.2.2
        (followed (wide k.0 (same _) (number tokens true (span_of_statement s).start m first h k.1 [] _ _)) (same _) k.2.0 (stated true l k.2.1 i.1 q _ _))
    stated b (of.if_else_statement {s = s} {span = span} h l n) k i q r at =
        braced _ span i.0 k.4.2 k.4.2
        (followed (wide k.0 (same _) (number tokens true (span_of_statement s).start m first h k.1 [] _ _)) (same _) k.2
        (followed (stated true l k.3 i.1 q.0 _ _) k.4.0 k.4.0 (stated true n k.4.1 i.2 q.1 _ _)))
    stated b (of.switch_statement {body = s} {all = all} {span = span} h l) k i q r at =
        braced_switch m first (has_default all) at _ span i.0 k.2.2 k.2.2
        (followed (wide k.0 (same _) (operand tokens true (span_of_statement s).start m first h k.1 (probe.Switch at.switch ∷ []) (Loose Plain) _)) (same _) k.2.0 (stated true l k.2.1 i.1 q at.switch _))
    stated b (of.while_statement {s = s} {span = span} h l) k i q r at =
        braced _ span i.0 k.2.2 k.2.2
        (followed (wide k.0 (same _) (number tokens true (span_of_statement s).start m first h k.1 [] _ _)) (same _) k.2.0 (stated true l k.2.1 i.1 q _ _))
    stated b (of.do_statement {a = a} {s = s} {span = span} h l) k i q r at =
        braced _ span i.0 (optional_forward (Some a) k.2) k.2.1
        (followed (wider (same _) k.0 (same _) (same _) (stated true h k.1 i.1 q _ _)) (same _) k.2.0 (number tokens true (span_of_statement s).end m first l k.2.2 [] _ _))
    stated b (of.for_statement {s = s} {span = span} h l n j) k i q r at =
        braced _ span i.0 k.6.2 k.6.2
        (followed
        (next (start tokens true (span_of_statement s).start m first h k.3 _) (same k.0)
        (next (test tokens true (span_of_statement s).start m first l k.4 _) (same k.1) (part tokens true (span_of_statement s).start m first n k.5 _)))
        (same _) k.6.0 (stated true j k.6.1 i.1 q _ _))
    stated b (of.case_label {label = label} ty h e f l) k i q r at =
        wider (same _) (same _) k.1.2 k.1.2 (followed (labelled r at.label label q.0 i.0 k.0) k.1.0 k.1.0 (stated b l k.1.1 i.1 q.1 _ _))
    stated b (of.default_label {label = label} h) k i q r at =
        wider (same _) (same _) k.1.2 k.1.2 (followed (labelled r at.label label q.0 i.0 k.0) k.1.0 k.1.0 (stated b h k.1.1 i.1 q.1 _ _))
    stated b (of.break_statement {span = span}) k i q r at = braced _ span i (same span.end) k (nothing (same span.end) (same span.start))
    stated b (of.continue_statement {span = span}) k i q r at = braced _ span i (same span.end) k (nothing (same span.end) (same span.start))
    stated b (of.return_statement {span = span} of.return_nothing) k i q r at = returned _ _ span
    stated b (of.return_statement {a = Some a} {span = span} (of.return_number h)) k i q r at =
        valued _ _ span k.0 k.1 (operand tokens true 0 m first h k.2 [] (Loose Plain) _)
    stated b (of.return_statement {a = Some a} {span = span} (of.return_structure h)) k i q r at =
        valued _ _ span k.0 k.1 (structure tokens true 0 m first h k.2 _)

    pub items : (b : Bool) {list : BlockItems} {all : Statements} {from to : ℕ} → AreItemsOf list all → InBlock from list to → AreLaid tokens list → HaveLabels b list → (r : ℕ) (at : At m first)
        → Stretch b from to (rows_in_statements (put_statements m first r at all))
    items b of.no_items k i q r at = nothing k k
    items b {list = tree.local (tree.declaration words inits span) rest} {from = from} (of.local_item of.kept_apart l) k i q r at =
        let f : from ≤ k.0 = declaration_forward (tree.declaration words inits span) k.1 in
        wider f f (same _) (same _) (items b l k.2 i.1 q r _)
    items b {from = from} (of.local_item {ds = ds} (of.automatic {span = span} e h) l) k i q r at =
        followed (local_rows b (initializes ds) from span h refl k.1.0 k.1.1 i.0 at.statement at.decision) k.1.2 k.1.2 (items b l k.2 i.1 q r _)
    items b (of.statement_item {some = some} {all = all} h l) k i q r at = record {
      goes = λ v place later f g.
          subst (λ rs. AreSeparateAfter tokens v place rs) (sym (joined_rows some all r at later))
          ((followed (wider k.0 k.0 (same _) (same _) (stated b h k.1 i.0 q.0 r at)) (same _) (same _) (items b l k.2 i.1 q.1 r (past_all some at))).goes v place later f g);
    }
