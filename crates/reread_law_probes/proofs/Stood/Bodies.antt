-- The places of initializers, declarations and statements are among those of their source: one case
-- for each rule of what they have of it.
use Rattle.std.proofs.Common.{◌≡◌, ℕ, ◌+◌, List, [], ◌∷◌, Option, refl, sym, ap, subst}
use Rattle.mc_span.specs.declared.span.Span.{Span}
use Rattle.mc_tree.specs.Tree.{Expression, Expressions, InitDeclarator, Declaration, BlockItems}
use Rattle.mc_tree.specs.Tree as tree
use Rattle.mc_typed.specs.Tree.{Effect, Declarator, Statements}
use Rattle.mc_typed.specs.Tree as typed
use Rattle.decide_rules.specs.declared.role.Role.TheVariants.{Controlling, Plain}
use Rattle.decide_rules.specs.Nodes as nodes
use Rattle.decide_rules.specs.Counts.{roots}
use Rattle.mc_probe.specs.Maps.{Map}
use Rattle.mc_probe.specs.Table.{Loose, At, past, put_effects, put_initializer, put_initializers, put_initial, put_declarators, put_start, put_optional, put_return, put_statement, put_statements}
use Rattle.reread_law_probes.specs.put.Places.{in_effects, in_initializer, in_initializers, in_initial, in_declarators, in_start, in_optional, in_value, in_statement, in_statements}
use Rattle.laws_types.specs.SourceUnits.{IsInitializerOf, AreInitializersOf, AreObjectsOf, AreDeclaredBy, AreClausesOf, ArePartOf, IsStartOf, IsTestOf, IsReturnOf, AreStatementsOf, AreItemsOf, joined}
use Rattle.laws_types.specs.SourceUnits as of
use Rattle.reread_law_probes.specs.stood.Stands.{stands_in_expressions, stands_in_optional, stands_in_initializer, stands_in_initializers, stands_in_init_declarators, stands_in_declaration, stands_in_start, stands_in_statement, stands_in_block}
use Rattle.reread_law_probes.proofs.Stood.Counted.{Within, skip}
use Rattle.reread_law_probes.proofs.Stood.Values.{skipped, number, operand, structure, effect}

-- ---- what a program has nothing of

mutual
  skipped_initializer : (i : tree.Initializer) {held later own : List Span} → Within held later own → Within held later (stands_in_initializer i own)
  skipped_initializer (tree.Single a) t = skipped a t
  skipped_initializer (tree.Braced all span) t = skipped_initializers all t

  skipped_initializers : (all : tree.Initializers) {held later own : List Span} → Within held later own → Within held later (stands_in_initializers all own)
  skipped_initializers tree.no_initializers t = t
  skipped_initializers (tree.initializers one rest) t = skipped_initializer one (skipped_initializers rest t)

skipped_declarators : (all : List InitDeclarator) {held later own : List Span} → Within held later own → Within held later (stands_in_init_declarators all own)
skipped_declarators [] t = t
skipped_declarators (tree.bare d ∷ rest) t = skipped_declarators rest t
skipped_declarators (tree.initialized d value ∷ rest) t = skipped_initializer value (skipped_declarators rest t)

pub skipped_declaration : (d : Declaration) {held later own : List Span} → Within held later own → Within held later (stands_in_declaration d own)
skipped_declaration (tree.declaration words all span) t = skipped_declarators all t

module _ (m : Map) (first : ℕ) where
  -- ---- initializers and declarations

  mutual
    initial : {i : tree.Initializer} {x : typed.Initializer} → IsInitializerOf i x → (d : ℕ) {held later own : List Span}
        → Within held later own → Within held (in_initializer (put_initializer m first d x) later) (stands_in_initializer i own)
    initial (of.number_initial h) d t = operand m first h (Loose Plain) d t
    initial (of.structure_initial h) d t = structure m first h d t
    initial (of.list_initial h) d t = initials h d t
    initial (of.in_braces h) d t = initials h d t
    initial (of.zero_initial {a = a} h) d t = skipped a t

    initials : {items : tree.Initializers} {all : typed.Initializers} → AreInitializersOf items all → (d : ℕ) {held later own : List Span}
        → Within held later own → Within held (in_initializers (put_initializers m first d all) later) (stands_in_initializers items own)
    initials of.no_initials d t = t
    initials (of.initials h l) d t = initial h d (initials l _ t)

  objects : {ds : List InitDeclarator} {all : List Declarator} → AreObjectsOf ds all → (d : ℕ) {held later own : List Span}
      → Within held later own → Within held (in_declarators (put_declarators m first d all) later) (stands_in_init_declarators ds own)
  objects of.no_objects d t = t
  objects (of.object_bare {d = x} {rest = rest} {all = all} e h) d {held = held} {later = later} {own = own} t =
      let k : ℕ = d + roots Plain (nodes.initial x.value) in
      subst (λ v. Within held (in_initial (put_initial m first d v) (in_declarators (put_declarators m first k all) later)) (stands_in_init_declarators rest own))
      (sym e) (objects h k t)
  objects (of.object_initialized {value = value} {d = x} {rest = rest} {all = all} h e l) d {held = held} {later = later} {own = own} t =
      let k : ℕ = d + roots Plain (nodes.initial x.value) in
      subst (λ v. Within held (in_initial (put_initial m first d v) (in_declarators (put_declarators m first k all) later)) (stands_in_initializer value (stands_in_init_declarators rest own)))
      (sym e) (initial h d (objects l k t))
  objects (of.function_bare h) d t = objects h d t
  objects (of.function_initialized {value = value} h) d t = skipped_initializer value (objects h d t)

  declared : {x : Declaration} {all : List Declarator} → AreDeclaredBy x all → (d : ℕ) {held later own : List Span}
      → Within held later own → Within held (in_declarators (put_declarators m first d all) later) (stands_in_declaration x own)
  declared (of.kept_apart {d = x}) d t = skipped_declaration x t
  declared (of.automatic e h) d t = objects h d t

  -- ---- parts of statements

  clauses : {all : Expressions} {xs : List Effect} → AreClausesOf all xs → (d : ℕ) {held later own : List Span}
      → Within held later own → Within held (in_effects (put_effects m first d xs) later) (stands_in_expressions all own)
  clauses of.no_clauses d t = t
  clauses (of.clauses h l) d t = effect m first h d (clauses l _ t)

  part : {a : Option Expression} {xs : List Effect} → ArePartOf a xs → (d : ℕ) {held later own : List Span}
      → Within held later own → Within held (in_effects (put_effects m first d xs) later) (stands_in_optional a own)
  part of.no_part d t = t
  part (of.one_clause h) d t = effect m first h d t
  part (of.more_clauses {span = span} h) d t = skip span (clauses h d t)

  start : {s : tree.ForStart} {x : typed.ForStart} → IsStartOf s x → (d : ℕ) {held later own : List Span}
      → Within held later own → Within held (in_start (put_start m first d x) later) (stands_in_start s own)
  start (of.start_declaration h) d t = declared h d t
  start (of.start_clauses h) d t = part h d t

  test : {a : Option Expression} {e : Option typed.Expression} → IsTestOf a e → (d : ℕ) {held later own : List Span}
      → Within held later own → Within held (in_optional (put_optional m first d e) later) (stands_in_optional a own)
  test of.no_test d t = t
  test (of.one_test h) d t = number m first h (Loose Controlling) d t

  returned : {a : Option Expression} {v : typed.ReturnValue} → IsReturnOf a v → (d : ℕ) {held later own : List Span}
      → Within held later own → Within held (in_value (put_return m first d v) later) (stands_in_optional a own)
  returned of.return_nothing d t = t
  returned (of.return_number h) d t = operand m first h (Loose Plain) d t
  returned (of.return_structure h) d t = structure m first h d t

  -- ---- statements

  -- after all of these
  abbrev past_all : Statements → At m first → At m first
  past_all typed.no_statements at = at
  past_all (typed.statements s rest) at = past_all rest (past m first s at)

  joined_places : (some all : Statements) (r : ℕ) (at : At m first) (later : List Span)
      → in_statements (put_statements m first r at (joined some all)) later
      ≡ in_statements (put_statements m first r at some) (in_statements (put_statements m first r (past_all some at) all) later)
  joined_places typed.no_statements all r at later = refl
  joined_places (typed.statements s rest) all r at later =
      ap (λ ps. in_statement (put_statement m first r at s) ps) (joined_places rest all r (past m first s at) later)

  mutual
    stated : {s : tree.Statement} {all : Statements} → AreStatementsOf s all → (r : ℕ) (at : At m first) {held later own : List Span}
        → Within held later own → Within held (in_statements (put_statements m first r at all) later) (stands_in_statement s own)
    stated (of.compound h) r at t = items h r at t
    stated of.null_statement r at t = t
    stated (of.effect_statement h) r at t = effect m first h _ t
    stated (of.if_statement h l) r at t = number m first h (Loose Controlling) _ (stated l _ _ t)
    stated (of.if_else_statement h l n) r at t = number m first h (Loose Controlling) _ (stated l _ _ (stated n _ _ t))
    stated (of.switch_statement h l) r at t = operand m first h (Loose Plain) _ (stated l at.switch _ t)
    stated (of.while_statement h l) r at t = number m first h (Loose Controlling) _ (stated l _ _ t)
    stated (of.do_statement h l) r at t = stated h _ _ (number m first l (Loose Controlling) _ t)
    stated (of.for_statement h l k n) r at t = start h _ (test l _ (part k _ (stated n _ _ t)))
    stated (of.case_label {a = a} ty h e f l) r at t = skipped a (stated l _ _ t)
    stated (of.default_label h) r at t = stated h _ _ t
    stated of.break_statement r at t = t
    stated of.continue_statement r at t = t
    stated (of.return_statement h) r at t = returned h _ t

    pub items : {b : BlockItems} {all : Statements} → AreItemsOf b all → (r : ℕ) (at : At m first) {held later own : List Span}
        → Within held later own → Within held (in_statements (put_statements m first r at all) later) (stands_in_block b own)
    items of.no_items r at t = t
    items (of.local_item h l) r at t = declared h _ (items l _ _ t)
    items (of.statement_item {s = s} {rest = rest} {some = some} {all = all} h l) r at {held = held} {later = later} {own = own} t =
        subst (λ ps. Within held ps (stands_in_statement s (stands_in_block rest own)))
        (sym (joined_places some all r at later)) (stated h r at (items l r (past_all some at) t))
