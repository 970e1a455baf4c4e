-- The rows that the table puts for declarations, statements and functions are those of the tree of
-- the source.
use Rattle.std.proofs.Common.{◌≡◌, ℕ, ◌+◌, ◌==◌, Bool, true, false, not, ◌&&◌, ◌||◌, List, [], ◌∷◌, Option, Some, None, is_some, if◌then◌else◌, refl, sym, ap, ap₂, subst, ◌∙◌}
use Rattle.mc_span.specs.declared.span.Span.{Span}
use Rattle.mc_tree.specs.declared.declarations.specifier_word.SpecifierWord.TheVariants as word
use Rattle.mc_tree.specs.Tree.{Expression, Expressions, Specifiers, Initializer, Initializers, InitDeclarator, Declaration, ForStart, Statement, BlockItems, Item}
use Rattle.mc_tree.specs.Tree as tree
use Rattle.mc_grammar.specs.WordSets.{some_word}
use Rattle.mc_typed.specs.declared.probes.Probe.{Probe}
use Rattle.mc_typed.specs.declared.probes.Probe.TheVariants as probe
use Rattle.mc_typed.specs.Tree.{Place, FunctionCall, Arguments, Argument, StructureValue, Effect, Declarator, Statements, Function}
use Rattle.mc_typed.specs.Tree as typed
use Rattle.mc_typed.specs.Sound.{labels_of}
use Rattle.reread_pieces.specs.declared.piece.What.TheVariants as what
use Rattle.decide_rules.specs.declared.role.Role.TheVariants.{Controlling, Plain}
use Rattle.decide_rules.specs.Nodes.{Node}
use Rattle.decide_rules.specs.Nodes as nodes
use Rattle.decide_rules.specs.Roots.{is_root}
use Rattle.decide_rules.specs.Conditions.{is_operator}
use Rattle.decide_rules.specs.Counts.{roots, roots_in}
use Rattle.mc_steps.specs.Points.{Points, ◌⊕◌, points_of_all, points_of_function, all_complete}
use Rattle.mc_steps.specs.Points as points
use Rattle.mc_steps.specs.Statements.{has_label}
use Rattle.reread_probes.specs.Statements.{has_static, initializes, is_counted_local, is_default, default_among, has_default, lacks_default}
use Rattle.reread_probes.specs.Statements as shape
use Rattle.mc_probe.specs.Bare.{bare_place, bare_expression, bare_structure, bare_call, bare_argument, bare_arguments}
use Rattle.mc_probe.specs.Tree as probed
use Rattle.mc_probe.specs.Maps.{Map, entry_bit, exit_bit, statement_bit, label_bit}
use Rattle.mc_probe.specs.Table.{Stand, Loose, InTree, round_condition, round, inner, base_of, increment_of, mapped, put, put_effects, put_initializer, put_initializers, put_initial, put_declarators, put_start, put_optional, put_return, At, decided, past, within, in_switch, mark_unless_default, put_statement, put_statements, decisions_in, put_function, put_functions}
use Rattle.reread_law_rows.specs.inserted.Rows.{Row, row, extent, rows, rows_in_place, rows_in_structure, rows_in_call, rows_in_argument, rows_in_arguments, rows_in_effects, rows_in_initializer, rows_in_initializers, rows_in_initial, rows_in_declarators, rows_in_start, rows_in_optional, counted_declaration, absent_default, with_exit, rows_in_statement, rows_in_statements, register_row, entry_row, exit_row, rows_in_functions}
use Rattle.laws_types.specs.Source.{IsOperandOf}
use Rattle.laws_types.specs.Source as of
use Rattle.laws_types.specs.SourceUnits.{IsInitializerOf, AreInitializersOf, AreObjectsOf, AreDeclaredBy, AreClausesOf, ArePartOf, IsStartOf, IsTestOf, IsReturnOf, AreStatementsOf, AreItemsOf, AreFunctionsOf, alone, joined, keeps_apart}
use Rattle.laws_types.specs.SourceUnits as of_units
use Rattle.reread_law_rows.proofs.Taken.Puts.{Puts, PutsAll, PutsInitial, PutsInitials, PutsDeclarators, PutsDeclaration, PutsOptional, PutsStart, PutsDefault, PutsInside, PutsStatement, PutsBlock, whole, BeginsAnew, PutsRegisters, PutsExit, PutsUnit}
use Rattle.reread_law_rows.proofs.Taken.Puts as puts
use Rattle.reread_law_rows.proofs.Taken.Expressions.{seat, number_seat, one_round, place_extent, call_extent, number_puts, operand_puts, structure_puts, effect_puts}

-- ---- a tree without probes has no rows

mutual
  bare_in_place : (place : Place) (later : List Row) → rows_in_place (bare_place place) later ≡ later
  bare_in_place (typed.Local slot span) later = refl
  bare_in_place (typed.Static slot span) later = refl
  bare_in_place (typed.Parameter array stride index span) later = bare_rows index later
  bare_in_place (typed.Item array n stride index span) later =
      bare_in_place array (rows (bare_expression index) later) ∙ bare_rows index later
  bare_in_place (typed.Member structure i offset span) later = bare_in_place structure later

  bare_rows : (e : typed.Expression) (later : List Row) → rows (bare_expression e) later ≡ later
  bare_rows (typed.Constant v a span) later = refl
  bare_rows (typed.Read place a) later = bare_in_place place later
  bare_rows (typed.Unary operator a e span) later = bare_rows e later
  bare_rows (typed.Convert a written e span) later = bare_rows e later
  bare_rows (typed.Not e span) later = bare_rows e later
  bare_rows (typed.Binary operator a e f span) later = bare_rows e (rows (bare_expression f) later) ∙ bare_rows f later
  bare_rows (typed.Logic operator e f span) later = bare_rows e (rows (bare_expression f) later) ∙ bare_rows f later
  bare_rows (typed.Choice e f g a span) later =
      bare_rows e (rows (bare_expression f) (rows (bare_expression g) later))
      ∙ bare_rows f (rows (bare_expression g) later) ∙ bare_rows g later
  bare_rows (typed.Call k a) later = bare_in_call k later
  bare_rows (typed.Input span) later = refl

  bare_in_structure : (value : StructureValue) (later : List Row) → rows_in_structure (bare_structure value) later ≡ later
  bare_in_structure (typed.Stored place) later = bare_in_place place later
  bare_in_structure (typed.Returned k) later = bare_in_call k later

  bare_in_call : (k : FunctionCall) (later : List Row) → rows_in_call (bare_call k) later ≡ later
  bare_in_call (typed.call f given result span) later = bare_in_arguments given later

  bare_in_argument : (a : Argument) (later : List Row) → rows_in_argument (bare_argument a) later ≡ later
  bare_in_argument (typed.NumberArgument e) later = bare_rows e later
  bare_in_argument (typed.StructureArgument value copy) later = bare_in_structure value later
  bare_in_argument (typed.ArrayArgument place n) later = bare_in_place place later
  bare_in_argument (typed.AgainArgument array span) later = refl

  bare_in_arguments : (all : Arguments) (later : List Row) → rows_in_arguments (bare_arguments all) later ≡ later
  bare_in_arguments typed.no_arguments later = refl
  bare_in_arguments (typed.arguments a rest) later =
      bare_in_argument a (rows_in_arguments (bare_arguments rest) later) ∙ bare_in_arguments rest later

-- ---- declarations that count

or_false : (a b : Bool) → a ≡ false → (a || b) ≡ true → b ≡ true
or_false false b e h = h
or_false true b e h = absurd (cc)

statics : (all : Specifiers) → some_word keeps_apart all ≡ false → has_static all ≡ false
statics tree.no_specifiers h = refl
statics (tree.specifiers (tree.Word word.Static span) rest) h = absurd (cc)
statics (tree.specifiers (tree.Word word.Typedef span) rest) h = absurd (cc)
statics (tree.specifiers (tree.Word x span) rest) h = statics rest h
statics (tree.specifiers x rest) h = statics rest h

some_value : (o : Option typed.Initializer) → o ≡ None → is_some o ≡ false
some_value None e = refl
some_value (Some i) e = absurd (cc)

objects_initialize : {ds : List InitDeclarator} {all : List Declarator} → AreObjectsOf ds all
    → points.initializes all ≡ true → initializes ds ≡ true
objects_initialize of_units.no_objects h = absurd (cc)
objects_initialize (of_units.object_bare {d = d} {all = all} e p) h =
    objects_initialize p (or_false (is_some d.value) (points.initializes all) (some_value d.value e) h)
objects_initialize (of_units.object_initialized i e p) h = refl
objects_initialize (of_units.function_bare p) h = objects_initialize p h
objects_initialize (of_units.function_initialized p) h = refl

counts_local : {d : Declaration} {all : List Declarator} → AreDeclaredBy d all → points.initializes all ≡ true
    → is_counted_local d ≡ true
counts_local of_units.kept_apart h = absurd (cc)
counts_local (of_units.automatic {words = words} {ds = ds} e p) h =
    ap₂ (λ x y. not x && y) (statics words e) (objects_initialize p h)

-- ---- the `default` of a `switch`

statement_default : {s : Statement} {some : Statements} → AreStatementsOf s some → (more : Statements)
    → has_label None (labels_of (joined some more)) ≡ (is_default s || has_label None (labels_of more))
statement_default (of_units.compound p) more = refl
statement_default of_units.null_statement more = refl
statement_default (of_units.effect_statement p) more = refl
statement_default (of_units.if_statement p q) more = refl
statement_default (of_units.if_else_statement p q r) more = refl
statement_default (of_units.switch_statement p q) more = refl
statement_default (of_units.while_statement p q) more = refl
statement_default (of_units.do_statement p q) more = refl
statement_default (of_units.for_statement p q r v) more = refl
statement_default (of_units.case_label t p e k q) more = statement_default q more
statement_default (of_units.default_label p) more = refl
statement_default of_units.break_statement more = refl
statement_default of_units.continue_statement more = refl
statement_default (of_units.return_statement p) more = refl

items_default : {b : BlockItems} {all : Statements} → AreItemsOf b all → default_among b ≡ points.has_default all
items_default of_units.no_items = refl
items_default (of_units.local_item h p) = items_default p
items_default (of_units.statement_item {s = s} {all = all} h p) =
    ap (λ x. is_default s || x) (items_default p) ∙ sym (statement_default h all)

abbrev items_of : Statements → Statements
items_of (typed.statements (typed.Compound all at) rest) = all
items_of s = s

body_default : {s : Statement} {some all : Statements} {at : Span} → AreStatementsOf s some
    → some ≡ alone (typed.Compound all at) → has_default s ≡ points.has_default all
body_default (of_units.compound {all = all} p) e = items_default p ∙ ap (λ x. points.has_default (items_of x)) e
body_default of_units.null_statement e = absurd (cc)
body_default (of_units.effect_statement p) e = absurd (cc)
body_default (of_units.if_statement p q) e = absurd (cc)
body_default (of_units.if_else_statement p q r) e = absurd (cc)
body_default (of_units.switch_statement p q) e = absurd (cc)
body_default (of_units.while_statement p q) e = absurd (cc)
body_default (of_units.do_statement p q) e = absurd (cc)
body_default (of_units.for_statement p q r v) e = absurd (cc)
body_default (of_units.case_label t p k l q) e = absurd (cc)
body_default (of_units.default_label p) e = absurd (cc)
body_default of_units.break_statement e = absurd (cc)
body_default of_units.continue_statement e = absurd (cc)
body_default (of_units.return_statement p) e = absurd (cc)

module _ (m : Map) (first : ℕ) where
  -- ---- where the value of a `switch` stands

  if_extent : (b : Bool) (q : Probe) (x y : probed.Expression) → extent x ≡ extent y
      → extent (if b then probed.Probe q x else y) ≡ extent y
  if_extent true q x y e = e
  if_extent false q x y e = refl

  else_extent : (b : Bool) (q : Probe) (x : probed.Expression) → extent (if b then x else probed.Probe q x) ≡ extent x
  else_extent true q x = refl
  else_extent false q x = refl

  round_extent : (st : Stand) (d : ℕ) (node : Node) (x : probed.Expression) → extent (round m first st d node x) ≡ extent x
  round_extent (Loose role) d node x =
      if_extent (is_root role node) (probe.Decision d (base_of (mapped m first d))) (round_condition m first d 0 node x) x
      (else_extent (is_operator node) (probe.Condition d 0 (increment_of (mapped m first d) 0)) x)
  round_extent (InTree k c) d node x = else_extent (is_operator node) (probe.Condition k 0 (increment_of (mapped m first k) c)) x

  put_extent : (st : Stand) (d : ℕ) (e : typed.Expression) → extent (put m first st d e) ≡ typed.span_of e
  put_extent st d (typed.Constant v a span) = round_extent st d (nodes.expression (typed.Constant v a span)) _
  put_extent st d (typed.Read place a) =
      round_extent st d (nodes.expression (typed.Read place a)) _
      ∙ place_extent m first (inner st d (nodes.expression (typed.Read place a))) place
  put_extent st d (typed.Unary operator a e span) = round_extent st d (nodes.expression (typed.Unary operator a e span)) _
  put_extent st d (typed.Convert a written e span) = round_extent st d (nodes.expression (typed.Convert a written e span)) _
  put_extent st d (typed.Not e span) = round_extent st d (nodes.expression (typed.Not e span)) _
  put_extent st d (typed.Binary operator a e f span) = round_extent st d (nodes.expression (typed.Binary operator a e f span)) _
  put_extent st d (typed.Logic operator e f span) = round_extent st d (nodes.expression (typed.Logic operator e f span)) _
  put_extent st d (typed.Choice e f g a span) = round_extent st d (nodes.expression (typed.Choice e f g a span)) _
  put_extent st d (typed.Call k a) =
      round_extent st d (nodes.expression (typed.Call k a)) _
      ∙ call_extent m first (inner st d (nodes.expression (typed.Call k a))) k
  put_extent st d (typed.Input span) = round_extent st d (nodes.expression (typed.Input span)) _

  operand_seat : {a : Expression} {e : typed.Expression} → IsOperandOf a e → typed.span_of e ≡ seat a
  operand_seat (of.as_it_is p) = number_seat p
  operand_seat (of.converted p) = number_seat p

  switch_puts : {a : Expression} {e : typed.Expression} → IsOperandOf a e → (r d : ℕ) (later : List Row)
      → Puts a (rows (probed.Probe (probe.Switch r) (put m first (Loose Plain) d e)) later) later
  switch_puts {a = a} {e = e} p r d later =
      one_round m first (probe.Switch r) a (put m first (Loose Plain) d e) (put_extent (Loose Plain) d e ∙ operand_seat p)
      (operand_puts m first p (Loose Plain) d) [] later

  -- ---- declarations

  mutual
    initial_puts : {i : Initializer} {x : typed.Initializer} → IsInitializerOf i x → (d : ℕ) (later : List Row)
        → PutsInitial i (rows_in_initializer (put_initializer m first d x) later) later
    initial_puts (of_units.number_initial p) d later = puts.single (operand_puts m first p (Loose Plain) d [] later)
    initial_puts (of_units.structure_initial p) d later = puts.single (structure_puts m first p d later)
    initial_puts (of_units.list_initial p) d later = puts.braced (initials_puts p d later)
    initial_puts (of_units.in_braces p) d later = puts.braced (initials_puts p d later)
    initial_puts (of_units.zero_initial {a = a} {e = e} {span = span} p) d later =
        subst (λ z. PutsInitial (tree.Braced (tree.initializers (tree.Single a) tree.no_initializers) span) z later)
        (sym (bare_rows e later)) puts.initial_without

    initials_puts : {all : Initializers} {xs : typed.Initializers} → AreInitializersOf all xs → (d : ℕ) (later : List Row)
        → PutsInitials all (rows_in_initializers (put_initializers m first d xs) later) later
    initials_puts of_units.no_initials d later = puts.no_initials
    initials_puts (of_units.initials {i = i} {all = all} p q) d later =
        let next = d + roots Plain (nodes.initializer i) in
        puts.initials (initial_puts p d (rows_in_initializers (put_initializers m first next all) later)) (initials_puts q next later)

  objects_puts : {ds : List InitDeclarator} {all : List Declarator} → AreObjectsOf ds all → (d : ℕ) (later : List Row)
      → PutsDeclarators ds (rows_in_declarators (put_declarators m first d all) later) later
  objects_puts of_units.no_objects d later = puts.no_declarators
  objects_puts (of_units.object_bare {stars = stars} {name = name} {lengths = lengths} {span = span} {rest = rest} {all = all} e p) d later =
      subst (λ v. PutsDeclarators (tree.bare (tree.object stars name lengths span) ∷ rest)
      (rows_in_initial (put_initial m first d v) (rows_in_declarators (put_declarators m first (d + roots Plain (nodes.initial v)) all) later)) later)
      (sym e) (puts.declared (objects_puts p (d + roots Plain (nodes.initial None)) later))
  objects_puts (of_units.object_initialized {stars = stars} {name = name} {lengths = lengths} {span = span} {value = value} {i = i} {rest = rest}
      {all = all} h e p) d later =
      let next = d + roots Plain (nodes.initial (Some i)) in
      subst (λ v. PutsDeclarators (tree.initialized (tree.object stars name lengths span) value ∷ rest)
      (rows_in_initial (put_initial m first d v) (rows_in_declarators (put_declarators m first (d + roots Plain (nodes.initial v)) all) later)) later)
      (sym e) (puts.initialized (initial_puts h d (rows_in_declarators (put_declarators m first next all) later)) (objects_puts p next later))
  objects_puts (of_units.function_bare p) d later = puts.declared (objects_puts p d later)
  objects_puts (of_units.function_initialized p) d later = puts.initialized puts.initial_without (objects_puts p d later)

  declared_puts : {one : Declaration} {all : List Declarator} → AreDeclaredBy one all → (d : ℕ) (later : List Row)
      → PutsDeclaration one (rows_in_declarators (put_declarators m first d all) later) later
  declared_puts of_units.kept_apart d later = puts.declaration_without
  declared_puts (of_units.automatic e p) d later = puts.declaration (objects_puts p d later)

  -- ---- parts of statements

  clauses_puts : {all : Expressions} {xs : List Effect} → AreClausesOf all xs → (d : ℕ) (later : List Row)
      → PutsAll all (rows_in_effects (put_effects m first d xs) later) later
  clauses_puts of_units.no_clauses d later = puts.no_expressions
  clauses_puts (of_units.clauses {x = x} {all = all} p q) d later =
      let next = d + roots Plain (nodes.effect x) in
      puts.expressions (effect_puts m first p d (rows_in_effects (put_effects m first next all) later)) (clauses_puts q next later)

  part_puts : {a : Option Expression} {xs : List Effect} → ArePartOf a xs → (d : ℕ) (later : List Row)
      → PutsOptional a (rows_in_effects (put_effects m first d xs) later) later
  part_puts of_units.no_part d later = puts.nothing
  part_puts (of_units.one_clause p) d later = puts.something (effect_puts m first p d later)
  part_puts (of_units.more_clauses p) d later = puts.something (puts.comma (clauses_puts p d later))

  start_puts : {s : ForStart} {x : typed.ForStart} → IsStartOf s x → (d : ℕ) (later : List Row)
      → PutsStart s (rows_in_start (put_start m first d x) later) later
  start_puts (of_units.start_declaration p) d later = puts.starts_local (declared_puts p d later)
  start_puts (of_units.start_clauses p) d later = puts.starts_expression (part_puts p d later)

  test_puts : {a : Option Expression} {e : Option typed.Expression} → IsTestOf a e → (d : ℕ) (later : List Row)
      → PutsOptional a (rows_in_optional (put_optional m first d e) later) later
  test_puts of_units.no_test d later = puts.nothing
  test_puts (of_units.one_test p) d later = puts.something (number_puts m first p (Loose Controlling) d [] later)

  return_puts : {a : Option Expression} {v : typed.ReturnValue} → IsReturnOf a v → (b d : ℕ) (span : Span) (later : List Row)
      → PutsInside (tree.Return a span) (with_exit b span (put_return m first d v) later) later
  return_puts of_units.return_nothing b d span later = puts.return_nothing
  return_puts (of_units.return_number p) b d span later =
      puts.return_value (operand_puts m first p (Loose Plain) d [] (row (what.ValueEnd b) span later))
  return_puts (of_units.return_structure p) b d span later =
      puts.return_value (structure_puts m first p d (row (what.ValueEnd b) span later))

  default_puts : (s : Statement) (b : Bool) (at : At m first) (later : List Row) → lacks_default s ≡ not b
      → PutsDefault s (absent_default (mark_unless_default m first b at) (tree.span_of_statement s) later) later
  default_puts s true at later e = puts.no_default e
  default_puts s false at later e = puts.absent_default e

  local_puts : (b : Bool) (n : ℕ) (d : Declaration) (span : Span) (rest : BlockItems) {inside mid later : List Row}
      → shape.span_of_declaration d ≡ span → (b ≡ true → is_counted_local d ≡ true)
      → PutsDeclaration d inside mid → PutsBlock rest mid later
      → PutsBlock (tree.local d rest) (counted_declaration (if b then Some n else None) span inside) later
  local_puts true n d span rest {inside = inside} {later = later} e h p q =
      subst (λ (s : Span). PutsBlock (tree.local d rest) (row (what.Declaration n) s inside) later) e (puts.counted_local (h refl) p q)
  local_puts false n d span rest e h p q = puts.local p q

  -- ---- statements

  abbrev past_all : Statements → At m first → At m first
  past_all typed.no_statements at = at
  past_all (typed.statements s rest) at = past_all rest (past m first s at)

  joined_rows : (some all : Statements) (r : ℕ) (at : At m first) (later : List Row)
      → rows_in_statements (put_statements m first r at (joined some all)) later
      ≡ rows_in_statements (put_statements m first r at some) (rows_in_statements (put_statements m first r (past_all some at) all) later)
  joined_rows typed.no_statements all r at later = refl
  joined_rows (typed.statements s rest) all r at later =
      ap (rows_in_statement (put_statement m first r at s)) (joined_rows rest all r (past m first s at) later)

  mutual
    statement_puts : {s : Statement} {some : Statements} → AreStatementsOf s some → (r : ℕ) (at : At m first) (later : List Row)
        → PutsStatement s (rows_in_statements (put_statements m first r at some) later) later
    statement_puts (of_units.compound p) r at later = puts.compound (items_puts p r at later)
    statement_puts of_units.null_statement r at later = puts.counted puts.null (puts.no_default refl)
    statement_puts (of_units.effect_statement {span = span} p) r at later =
        puts.counted (puts.effect (effect_puts m first p at.decision (row what.StatementEnd span later))) (puts.no_default refl)
    statement_puts (of_units.if_statement {e = e} {u = u} {span = span} p q) r at later =
        let end = row what.StatementEnd span later in
        let next = decided m first (roots Controlling (nodes.expression e)) (within m first at) in
        puts.counted (puts.if_only
        (number_puts m first p (Loose Controlling) at.decision [] (rows_in_statement (put_statement m first r next u) end))
        (statement_puts q r next end)) (puts.no_default refl)
    statement_puts (of_units.if_else_statement {e = e} {u = u} {v = v} {span = span} p q k) r at later =
        let end = row what.StatementEnd span later in
        let second = decided m first (roots Controlling (nodes.expression e)) (within m first at) in
        let third = past m first u second in
        puts.counted (puts.if_else
        (number_puts m first p (Loose Controlling) at.decision []
        (rows_in_statement (put_statement m first r second u) (rows_in_statement (put_statement m first r third v) end)))
        (statement_puts q r second (rows_in_statement (put_statement m first r third v) end))
        (statement_puts k r third end)) (puts.no_default refl)
    statement_puts (of_units.switch_statement {a = a} {body = body} {e = e} {all = all} {span = span} p q) r at later =
        let end = row what.StatementEnd span later in
        let has = points.has_default all in
        let next = decided m first (roots Plain (nodes.expression e)) (in_switch m first has at) in
        let mid = absent_default (mark_unless_default m first has at) span end in
        puts.counted (puts.switch
        (switch_puts p at.switch at.decision (rows_in_statements (put_statements m first at.switch next all) mid))
        (statement_puts q at.switch next mid))
        (default_puts (tree.Switch a body span) has at end (ap not (body_default q refl)))
    statement_puts (of_units.while_statement {a = a} {e = e} {u = u} {span = span} p q) r at later =
        let end = row what.StatementEnd span later in
        let start = roots Plain (nodes.start (typed.StartEffects [])) in
        let next = decided m first (start + roots Plain (nodes.optional_test (Some e)) + roots_in (nodes.effects [])) (within m first at) in
        puts.counted (puts.while
        (number_puts m first p (Loose Controlling) (at.decision + start) [] (rows_in_statement (put_statement m first r next u) end))
        (statement_puts q r next end)) (puts.no_default refl)
    statement_puts (of_units.do_statement {e = e} {u = u} {span = span} p q) r at later =
        let end = row what.StatementEnd span later in
        let next = at.decision + roots Plain (nodes.statement u) in
        puts.counted (puts.do_while
        (statement_puts p r (within m first at) (rows (put m first (Loose Controlling) next e) end))
        (number_puts m first q (Loose Controlling) next [] end)) (puts.no_default refl)
    statement_puts (of_units.for_statement {first = begin} {e = e} {step = step} {u = u} {span = span} p q k v) r at later =
        let end = row what.StatementEnd span later in
        let second = at.decision + roots Plain (nodes.start begin) in
        let third = second + roots Plain (nodes.optional_test e) in
        let next = decided m first (roots Plain (nodes.start begin) + roots Plain (nodes.optional_test e) + roots_in (nodes.effects step))
        (within m first at) in
        let after = rows_in_statement (put_statement m first r next u) end in
        let steps = rows_in_effects (put_effects m first third step) after in
        puts.counted (puts.for
        (start_puts p at.decision (rows_in_optional (put_optional m first second e) steps))
        (test_puts q second steps) (part_puts k third after) (statement_puts v r next end)) (puts.no_default refl)
    statement_puts (of_units.case_label {label = label} {w = w} t p e k q) r at later =
        puts.case_label (statement_puts q r (past m first (typed.Label (Some w) label) at) later)
    statement_puts (of_units.default_label {label = label} q) r at later =
        puts.default_label (statement_puts q r (past m first (typed.Label None label) at) later)
    statement_puts of_units.break_statement r at later = puts.counted puts.break (puts.no_default refl)
    statement_puts of_units.continue_statement r at later = puts.counted puts.continue (puts.no_default refl)
    statement_puts (of_units.return_statement {span = span} p) r at later =
        puts.counted (return_puts p at.exit at.decision span (row what.StatementEnd span later)) (puts.no_default refl)

    items_puts : {b : BlockItems} {all : Statements} → AreItemsOf b all → (r : ℕ) (at : At m first) (later : List Row)
        → PutsBlock b (rows_in_statements (put_statements m first r at all) later) later
    items_puts of_units.no_items r at later = puts.no_items
    items_puts (of_units.local_item {d = tree.declaration words list span} {rest = rest} {ds = ds} {all = all} h p) r at later =
        let one = tree.declaration words list span in
        let next = past m first (typed.Declaration ds span) at in
        let mid = rows_in_statements (put_statements m first r next all) later in
        local_puts (points.initializes ds) at.statement one span rest refl (counts_local h)
        (declared_puts h at.decision mid) (items_puts p r next later)
    items_puts (of_units.statement_item {s = s} {rest = rest} {some = some} {all = all} h p) r at later =
        subst (λ z. PutsBlock (tree.statement s rest) z later) (sym (joined_rows some all r at later))
        (puts.statement
        (statement_puts h r at (rows_in_statements (put_statements m first r (past_all some at) all) later))
        (items_puts p r (past_all some at) later))

-- ---- functions

registers_put : (b : Bool) (n e : ℕ) (name : Span) (end : ℕ) (later : List Row)
    → PutsRegisters name end (if b then whole (what.Entry e) name end later
    else whole (what.Registers n) name end (whole (what.Entry e) name end later)) later
registers_put true n e name end later = puts.no_registers
registers_put false n e name end later = puts.registers

exit_puts : (b : Bool) (f : probed.Function) (e : ℕ) (later : List Row)
    → PutsExit f.name_span f.closing.end (exit_row f (if b then Some e else None) later) later
exit_puts true f e later = puts.exit
exit_puts false f e later = puts.no_exit

anew_by : (b : Bool) (n e : ℕ) (name : Span) (end : ℕ) (later : List Row)
    → BeginsAnew (if b then whole (what.Entry e) name end later
    else whole (what.Registers n) name end (whole (what.Entry e) name end later))
anew_by true n e name end later = (refl, refl)
anew_by false n e name end later = (refl, refl)

functions_anew : (m : Map) (number decisions : ℕ) (before : Points) (fs : List Function)
    → BeginsAnew (rows_in_functions (put_functions m number decisions before fs) [])
functions_anew m number decisions before [] = tt
functions_anew m number decisions before (f ∷ fs) =
    let x = put_function m number decisions before f in
    anew_by (x.registers == 0) x.registers (entry_bit m number) f.name_span f.closing.end
    (rows_in_statements x.body (exit_row x x.exit
    (rows_in_functions (put_functions m (number + 1) (decisions + decisions_in f) (before ⊕ points_of_function f) fs) [])))

module _ (m : Map) where
  pub unit_puts : {unit : List Item} {fs : List Function} → AreFunctionsOf unit fs → (number decisions : ℕ) (before : Points)
      → PutsUnit unit (rows_in_functions (put_functions m number decisions before fs) [])
  unit_puts of_units.no_functions number decisions before = puts.no_functions
  unit_puts (of_units.declared p) number decisions before = puts.declared_item (unit_puts p number decisions before)
  unit_puts (of_units.defined {name = name} {span = span} {body = body} {f = f} {fs = fs} h p) number decisions before =
      let x = put_function m number decisions before f in
      let later = rows_in_functions (put_functions m (number + 1) (decisions + decisions_in f) (before ⊕ points_of_function f) fs) [] in
      let after = exit_row x x.exit later in
      let inside = rows_in_statements x.body after in
      let end = ap (λ (s : Span). s.end) h.closing in
      puts.defined
      (subst (λ (s : Span). PutsRegisters s span.end (register_row x (entry_row x x.entry inside)) inside) h.place
      (subst (λ n. PutsRegisters f.name_span n (register_row x (entry_row x x.entry inside)) inside) end
      (registers_put (x.registers == 0) x.registers (entry_bit m number) f.name_span f.closing.end inside)))
      (items_puts m decisions h.items 0 (record {
        exit = exit_bit m before.exits;
        statement = statement_bit m before.statements;
        label = label_bit m before.labels;
        decision = 0;
        switch = decisions_in f;
      }) after)
      (subst (λ (s : Span). PutsExit s span.end after later) h.place
      (subst (λ n. PutsExit f.name_span n after later) end
      (exit_puts (all_complete f.body) x (exit_bit m (before.exits + (points_of_all f.body).exits)) later)))
      (functions_anew m (number + 1) (decisions + decisions_in f) (before ⊕ points_of_function f) fs)
      (unit_puts p (number + 1) (decisions + decisions_in f) (before ⊕ points_of_function f))
