-- The brackets of initializers, declarations and statements: one case for each rule of what they have
-- of their source.
use Rattle.std.proofs.Common.{◌≡◌, ◌≤◌, ℕ, ◌+◌, Bool, true, false, if◌then◌else◌, List, [], ◌∷◌, Option, Some, None, refl, sym, ap, subst, ◌∙◌, arith}
use Rattle.mc_span.specs.declared.span.Span.{Span}
use Rattle.mc_tree.specs.Tree.{Expression, Expressions, InitDeclarator, Declaration, BlockItems}
use Rattle.mc_tree.specs.Tree as tree
use Rattle.mc_typed.specs.declared.probes.Probe.TheVariants as probe
use Rattle.mc_typed.specs.Tree.{Place, FunctionCall, Arguments, Argument, StructureValue, Effect, Declarator, Statement, Statements}
use Rattle.mc_typed.specs.Tree as typed
use Rattle.decide_rules.specs.declared.role.Role.TheVariants.{Plain}
use Rattle.decide_rules.specs.Nodes as nodes
use Rattle.decide_rules.specs.Counts.{roots}
use Rattle.mc_steps.specs.Points.{initializes, has_default}
use Rattle.mc_probe.specs.Maps.{Map}
use Rattle.mc_probe.specs.Bare.{bare_place, bare_expression, bare_structure, bare_call, bare_argument, bare_arguments}
use Rattle.mc_probe.specs.Table.{Loose, At, past, mark_unless_default, put_effects, put_initializer, put_initializers, put_initial, put_declarators, put_start, put_optional, put_return, put_statement, put_statements}
use Rattle.reread_law_texts.specs.weave.Brackets.{Brackets}
use Rattle.reread_law_texts.specs.brackets.Signs.{Sign, signs_in_expressions, signs_in_optional, signs_in_initializer, signs_in_initializers, signs_in_init_declarators, signs_in_declaration, signs_in_start, signs_in_statement, signs_in_block}
use Rattle.reread_law_rows.specs.inserted.Rows.{Row, rows, rows_in_place, rows_in_structure, rows_in_call, rows_in_argument, rows_in_arguments, rows_in_effects, rows_in_initializer, rows_in_initializers, rows_in_initial, rows_in_declarators, rows_in_start, rows_in_optional, rows_in_return, counted_declaration, absent_default, rows_in_statement, rows_in_statements}
use Rattle.reread_law_texts.specs.apart.Places.{spans, spans_in_expressions, spans_in_optional, spans_in_initializer, spans_in_initializers, spans_in_init_declarators, spans_in_declaration, spans_in_start, spans_in_statement, spans_in_block, statement_spans, statement_spans_in_block}
use Rattle.laws_types.specs.SourceUnits.{IsInitializerOf, AreInitializersOf, AreObjectsOf, AreDeclaredBy, AreClausesOf, ArePartOf, IsStartOf, IsTestOf, IsReturnOf, AreStatementsOf, AreItemsOf, joined}
use Rattle.laws_types.specs.SourceUnits as of
use Rattle.reread_law_rows.proofs.Signed.Signed.{Level, Signed, opens_none, closes, braces_open, braces_close, other}
use Rattle.reread_law_rows.proofs.Signed.Silent.{silent, silent_in_specifiers, silent_in_lengths, silent_in_parameters, silent_in_initializer, silent_in_declaration}
use Rattle.reread_law_rows.proofs.Signed.Values.{none, number, operand, structure, effect}

-- ---- a tree without probes has no rows

mutual
  bare_place_rows : (place : Place) (mine : List Row) → rows_in_place (bare_place place) mine ≡ mine
  bare_place_rows (typed.Local slot span) mine = refl
  bare_place_rows (typed.Static slot span) mine = refl
  bare_place_rows (typed.Parameter array stride index span) mine = bare_rows index mine
  bare_place_rows (typed.Item array n stride index span) mine = bare_place_rows array (rows (bare_expression index) mine) ∙ bare_rows index mine
  bare_place_rows (typed.Member structure i offset span) mine = bare_place_rows structure mine

  pub bare_rows : (e : typed.Expression) (mine : List Row) → rows (bare_expression e) mine ≡ mine
  bare_rows (typed.Constant v a span) mine = refl
  bare_rows (typed.Read place a) mine = bare_place_rows place mine
  bare_rows (typed.Unary operator a e span) mine = bare_rows e mine
  bare_rows (typed.Convert a written e span) mine = bare_rows e mine
  bare_rows (typed.Not e span) mine = bare_rows e mine
  bare_rows (typed.Binary operator a e f span) mine = bare_rows e (rows (bare_expression f) mine) ∙ bare_rows f mine
  bare_rows (typed.Logic operator e f span) mine = bare_rows e (rows (bare_expression f) mine) ∙ bare_rows f mine
  bare_rows (typed.Choice e f g a span) mine =
      bare_rows e (rows (bare_expression f) (rows (bare_expression g) mine)) ∙ bare_rows f (rows (bare_expression g) mine) ∙ bare_rows g mine
  bare_rows (typed.Call k a) mine = bare_call_rows k mine
  bare_rows (typed.Input span) mine = refl

  bare_structure_rows : (value : StructureValue) (mine : List Row) → rows_in_structure (bare_structure value) mine ≡ mine
  bare_structure_rows (typed.Stored place) mine = bare_place_rows place mine
  bare_structure_rows (typed.Returned k) mine = bare_call_rows k mine

  bare_call_rows : (k : FunctionCall) (mine : List Row) → rows_in_call (bare_call k) mine ≡ mine
  bare_call_rows (typed.call f given result span) mine = bare_arguments_rows given mine

  bare_argument_rows : (x : Argument) (mine : List Row) → rows_in_argument (bare_argument x) mine ≡ mine
  bare_argument_rows (typed.NumberArgument e) mine = bare_rows e mine
  bare_argument_rows (typed.StructureArgument value copy) mine = bare_structure_rows value mine
  bare_argument_rows (typed.ArrayArgument place n) mine = bare_place_rows place mine
  bare_argument_rows (typed.AgainArgument array span) mine = refl

  bare_arguments_rows : (all : Arguments) (mine : List Row) → rows_in_arguments (bare_arguments all) mine ≡ mine
  bare_arguments_rows typed.no_arguments mine = refl
  bare_arguments_rows (typed.arguments a rest) mine = bare_argument_rows a (rows_in_arguments (bare_arguments rest) mine) ∙ bare_arguments_rows rest mine

one : 1 ≤ 1
one = omega arith

-- ---- rows without brackets

declaration_row : (w : Brackets) (b : Bool) (n : ℕ) (span : Span) {o : List Level} {own held : List Span} {mine : List Row} {ps : List Sign}
    → Signed w o own held mine ps → Signed w o own held (counted_declaration (if b then Some n else None) span mine) ps
declaration_row w true n span t = other w _ refl refl (λ later. refl) t
declaration_row w false n span t = t

absent_row : (w : Brackets) (m : Map) (first : ℕ) (b : Bool) (at : At m first) (span : Span) {o : List Level} {own held : List Span} {mine : List Row} {ps : List Sign}
    → Signed w o own held mine ps → Signed w o own held (absent_default (mark_unless_default m first b at) span mine) ps
absent_row w m first true at span t = t
absent_row w m first false at span t = other w _ refl refl (λ later. refl) t

module _ (w : Brackets) (m : Map) (first : ℕ) where
  -- ---- initializers and declarations

  mutual
    pub initial : {i : tree.Initializer} {x : typed.Initializer} → IsInitializerOf i x → (d : ℕ) {o : List Level} {own held : List Span} {mine : List Row} {ps : List Sign}
        → Signed w o own held mine ps → Signed w o (spans_in_initializer i own) held (rows_in_initializer (put_initializer m first d x) mine) (signs_in_initializer w i ps)
    initial (of.number_initial h) d t = operand w m first h [] (Loose Plain) _ none t
    initial (of.structure_initial h) d t = structure w m first h _ t
    initial (of.list_initial h) d t = initials h _ t
    initial (of.in_braces h) d t = initials h _ t
    initial (of.zero_initial {a = a} {e = e} h) d {o = o} {own = own} {held = held} {mine = mine} {ps = ps} t =
        subst (λ rs. Signed w o (spans a own) held rs (signs_in_initializer w (tree.Single a) ps)) (sym (bare_rows e mine)) (silent w a t)

    pub initials : {items : tree.Initializers} {all : typed.Initializers} → AreInitializersOf items all → (d : ℕ) {o : List Level} {own held : List Span} {mine : List Row} {ps : List Sign}
        → Signed w o own held mine ps → Signed w o (spans_in_initializers items own) held (rows_in_initializers (put_initializers m first d all) mine) (signs_in_initializers w items ps)
    initials of.no_initials d t = t
    initials (of.initials h l) d t = initial h _ (initials l _ t)

  pub objects : {ds : List InitDeclarator} {all : List Declarator} → AreObjectsOf ds all → (d : ℕ) {o : List Level} {own held : List Span} {mine : List Row} {ps : List Sign}
      → Signed w o own held mine ps → Signed w o (spans_in_init_declarators ds own) held (rows_in_declarators (put_declarators m first d all) mine) (signs_in_init_declarators w ds ps)
  objects of.no_objects d t = t
  objects (of.object_bare {lengths = lengths} {d = x} {rest = rest} {all = all} e h) d {o = o} {own = own} {held = held} {mine = mine} {ps = ps} t =
      let k : ℕ = d + roots Plain (nodes.initial x.value) in
      silent_in_lengths w lengths
      (subst (λ v. Signed w o (spans_in_init_declarators rest own) held (rows_in_initial (put_initial m first d v) (rows_in_declarators (put_declarators m first k all) mine)) (signs_in_init_declarators w rest ps))
      (sym e) (objects h k t))
  objects (of.object_initialized {lengths = lengths} {value = value} {i = i} {d = x} {rest = rest} {all = all} h e l) d {o = o} {own = own} {held = held} {mine = mine} {ps = ps} t =
      let k : ℕ = d + roots Plain (nodes.initial x.value) in
      silent_in_lengths w lengths
      (subst (λ v. Signed w o (spans_in_initializer value (spans_in_init_declarators rest own)) held (rows_in_initial (put_initial m first d v) (rows_in_declarators (put_declarators m first k all) mine)) (signs_in_initializer w value (signs_in_init_declarators w rest ps)))
      (sym e) (initial h d (objects l k t)))
  objects (of.function_bare {given = given} h) d t = silent_in_parameters w given (objects h _ t)
  objects (of.function_initialized {given = given} {value = value} h) d t = silent_in_parameters w given (silent_in_initializer w value (objects h _ t))

  pub declared : {x : Declaration} {all : List Declarator} → AreDeclaredBy x all → (d : ℕ) {o : List Level} {own held : List Span} {mine : List Row} {ps : List Sign}
      → Signed w o own held mine ps → Signed w o (spans_in_declaration x own) held (rows_in_declarators (put_declarators m first d all) mine) (signs_in_declaration w x ps)
  declared (of.kept_apart {d = x}) d t = silent_in_declaration w x t
  declared (of.automatic {words = words} e h) d t = silent_in_specifiers w words (objects h _ t)

  -- ---- parts of statements

  pub clauses : {all : Expressions} {xs : List Effect} → AreClausesOf all xs → (d : ℕ) {o : List Level} {own held : List Span} {mine : List Row} {ps : List Sign}
      → Signed w o own held mine ps → Signed w o (spans_in_expressions all own) held (rows_in_effects (put_effects m first d xs) mine) (signs_in_expressions w all ps)
  clauses of.no_clauses d t = t
  clauses (of.clauses h l) d t = effect w m first h _ (clauses l _ t)

  pub part : {a : Option Expression} {xs : List Effect} → ArePartOf a xs → (d : ℕ) {o : List Level} {own held : List Span} {mine : List Row} {ps : List Sign}
      → Signed w o own held mine ps → Signed w o (spans_in_optional a own) held (rows_in_effects (put_effects m first d xs) mine) (signs_in_optional w a ps)
  part of.no_part d t = t
  part (of.one_clause h) d t = effect w m first h _ t
  part (of.more_clauses {span = span} h) d t = opens_none w span (clauses h _ (closes w 0 span t))

  pub start : {s : tree.ForStart} {x : typed.ForStart} → IsStartOf s x → (d : ℕ) {o : List Level} {own held : List Span} {mine : List Row} {ps : List Sign}
      → Signed w o own held mine ps → Signed w o (spans_in_start s own) held (rows_in_start (put_start m first d x) mine) (signs_in_start w s ps)
  start (of.start_declaration h) d t = declared h _ t
  start (of.start_clauses h) d t = part h _ t

  pub test : {a : Option Expression} {e : Option typed.Expression} → IsTestOf a e → (d : ℕ) {o : List Level} {own held : List Span} {mine : List Row} {ps : List Sign}
      → Signed w o own held mine ps → Signed w o (spans_in_optional a own) held (rows_in_optional (put_optional m first d e) mine) (signs_in_optional w a ps)
  test of.no_test d t = t
  test (of.one_test h) d t = number w m first h [] _ _ none t

  -- with its exit
  pub returned : {a : Option Expression} {v : typed.ReturnValue} → IsReturnOf a v → (d b : ℕ) (span : Span) {o : List Level} {own held : List Span} {mine : List Row} {ps : List Sign}
      → Signed w o own held mine ps → Signed w o (spans_in_optional a own) held (rows_in_return (Some b) span (put_return m first d v) mine) (signs_in_optional w a ps)
  returned of.return_nothing d b span t = other w _ refl refl (λ later. refl) (other w _ refl refl (λ later. refl) t)
  returned (of.return_number h) d b span t = other w _ refl refl (λ later. refl) (operand w m first h [] (Loose Plain) _ none (other w _ refl refl (λ later. refl) t))
  returned (of.return_structure h) d b span t = other w _ refl refl (λ later. refl) (structure w m first h _ (other w _ refl refl (λ later. refl) t))

  -- ---- statements

  -- after all of these
  abbrev pub past_all : Statements → At m first → At m first
  past_all typed.no_statements at = at
  past_all (typed.statements s rest) at = past_all rest (past m first s at)

  joined_rows : (some all : Statements) (r : ℕ) (at : At m first) (mine : List Row)
      → rows_in_statements (put_statements m first r at (joined some all)) mine
      ≡ rows_in_statements (put_statements m first r at some) (rows_in_statements (put_statements m first r (past_all some at) all) mine)
  joined_rows typed.no_statements all r at mine = refl
  joined_rows (typed.statements s rest) all r at mine =
      ap (λ rs. rows_in_statement (put_statement m first r at s) rs) (joined_rows rest all r (past m first s at) mine)

  mutual
    pub stated : {s : tree.Statement} {all : Statements} → AreStatementsOf s all → (r : ℕ) (at : At m first) {o : List Level} {own held : List Span} {mine : List Row} {ps : List Sign}
        → Signed w o own held mine ps → Signed w o (spans_in_statement s own) (statement_spans s held) (rows_in_statements (put_statements m first r at all) mine) (signs_in_statement w s ps)
    stated (of.compound h) r at t = items h r at t
    stated (of.null_statement {span = span}) r at t = braces_open w _ span (braces_close w span t)
    stated (of.effect_statement {span = span} h) r at t = braces_open w _ span (effect w m first h _ (braces_close w span t))
    stated (of.if_statement {span = span} h l) r at t = braces_open w _ span (number w m first h [] _ _ none (stated l _ _ (braces_close w span t)))
    stated (of.if_else_statement {span = span} h l k) r at t =
        braces_open w _ span (number w m first h [] _ _ none (stated l _ _ (stated k _ _ (braces_close w span t))))
    stated (of.switch_statement {all = all} {span = span} h l) r at t =
        braces_open w _ span
        (operand w m first h (probe.Switch at.switch ∷ []) (Loose Plain) _ one (stated l at.switch _ (absent_row w m first (has_default all) at span (braces_close w span t))))
    stated (of.while_statement {span = span} h l) r at t = braces_open w _ span (number w m first h [] _ _ none (stated l _ _ (braces_close w span t)))
    stated (of.do_statement {span = span} h l) r at t = braces_open w _ span (stated h _ _ (number w m first l [] _ _ none (braces_close w span t)))
    stated (of.for_statement {span = span} h l k n) r at t =
        braces_open w _ span (start h _ (test l _ (part k _ (stated n _ _ (braces_close w span t)))))
    stated (of.case_label {a = a} ty h e f l) r at t = silent w a (other w _ refl refl (λ later. refl) (stated l _ _ t))
    stated (of.default_label h) r at t = other w _ refl refl (λ later. refl) (stated h _ _ t)
    stated (of.break_statement {span = span}) r at t = braces_open w _ span (braces_close w span t)
    stated (of.continue_statement {span = span}) r at t = braces_open w _ span (braces_close w span t)
    stated (of.return_statement {span = span} h) r at t = braces_open w _ span (returned h _ _ span (braces_close w span t))

    pub items : {b : BlockItems} {all : Statements} → AreItemsOf b all → (r : ℕ) (at : At m first) {o : List Level} {own held : List Span} {mine : List Row} {ps : List Sign}
        → Signed w o own held mine ps → Signed w o (spans_in_block b own) (statement_spans_in_block b held) (rows_in_statements (put_statements m first r at all) mine) (signs_in_block w b ps)
    items of.no_items r at t = t
    items (of.local_item {d = x} {ds = ds} h l) r at t =
        declaration_row w (initializes ds) at.statement (of.span_of_declaration x) (declared h _ (items l _ _ t))
    items (of.statement_item {s = s} {rest = rest} {some = some} {all = all} h l) r at {o = o} {own = own} {held = held} {mine = mine} {ps = ps} t =
        subst (λ rs. Signed w o (spans_in_statement s (spans_in_block rest own)) (statement_spans s (statement_spans_in_block rest held)) rs (signs_in_statement w s (signs_in_block w rest ps)))
        (sym (joined_rows some all r at mine)) (stated h r at (items l r (past_all some at) t))
