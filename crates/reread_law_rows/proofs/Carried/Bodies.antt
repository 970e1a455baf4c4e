-- The rows of initializers, declarations and statements: one case for each rule of what they have
-- of their source.
use Rattle.std.proofs.Common.{◌≡◌, ℕ, ◌+◌, Bool, true, false, if◌then◌else◌, List, [], ◌∷◌, Option, Some, None, refl, sym, ap, subst}
use Rattle.mc_span.specs.declared.span.Span.{Span}
use Rattle.mc_lex.specs.Tokens.{Tok}
use Rattle.mc_tree.specs.Tree.{Expression, Expressions, InitDeclarator, Declaration, BlockItems}
use Rattle.mc_tree.specs.Tree as tree
use Rattle.mc_typed.specs.declared.probes.Probe.TheVariants as probe
use Rattle.mc_typed.specs.Tree.{Effect, Declarator, Statements}
use Rattle.mc_typed.specs.Tree as typed
use Rattle.decide_rules.specs.declared.role.Role.TheVariants.{Plain}
use Rattle.decide_rules.specs.Nodes as nodes
use Rattle.decide_rules.specs.Counts.{roots}
use Rattle.mc_steps.specs.Points.{initializes, has_default}
use Rattle.mc_probe.specs.Maps.{Map}
use Rattle.mc_probe.specs.Table.{Loose, At, past, mark_unless_default, put_effects, put_initializer, put_initializers, put_initial, put_declarators, put_start, put_optional, put_return, put_statement, put_statements}
use Rattle.reread_law_rows.specs.inserted.Rows.{Row, counted_declaration, absent_default, rows_in_effects, rows_in_initializer, rows_in_initializers, rows_in_initial, rows_in_declarators, rows_in_start, rows_in_optional, rows_in_return, rows_in_statement, rows_in_statements}
use Rattle.reread_law_rows.specs.inserted.Fits.{IsDeclarationAmong, IsSwitchAmong}
use Rattle.laws_types.specs.SourceUnits.{IsInitializerOf, AreInitializersOf, AreObjectsOf, AreDeclaredBy, AreClausesOf, ArePartOf, IsStartOf, IsTestOf, IsReturnOf, AreStatementsOf, AreItemsOf, joined, span_of_declaration}
use Rattle.laws_types.specs.SourceUnits as of
use Rattle.reread_law_rows.specs.fitting.Fitting.{FitsIn, FitInExpressions, FitsInOptional, FitsInInitializer, FitInInitializers, FitInObjects, FitsInDeclaration, FitsAsLocal, FitsInStart, FitsInStatement, FitInBlock}
use Rattle.reread_law_rows.proofs.Signed.Bodies.{bare_rows}
use Rattle.reread_law_rows.proofs.Carried.Sitting.{Sit, some}
use Rattle.reread_law_rows.proofs.Carried.Values.{number, operand, structure, effect}

-- ---- rows that are there or not

declaration_row : (ts : List Tok) (b : Bool) (n : ℕ) (span : Span) {mine : List Row} → IsDeclarationAmong ts span → Sit ts mine
    → Sit ts (counted_declaration (if b then Some n else None) span mine)
declaration_row ts true n span h t = some h t
declaration_row ts false n span h t = t

absent_row : (ts : List Tok) (m : Map) (first : ℕ) (b : Bool) (at : At m first) (span : Span) {mine : List Row} → IsSwitchAmong ts span → Sit ts mine
    → Sit ts (absent_default (mark_unless_default m first b at) span mine)
absent_row ts m first true at span h t = t
absent_row ts m first false at span h t = some h t

local_row : (ts : List Tok) {x : Declaration} {ds : List Declarator} → AreDeclaredBy x ds → (n : ℕ) {mine : List Row} → FitsAsLocal ts x → Sit ts mine
    → Sit ts (counted_declaration (if initializes ds then Some n else None) (span_of_declaration x) mine)
local_row ts of.kept_apart n h t = t
local_row ts (of.automatic {ds = []} e of.no_objects) n h t = t
local_row ts (of.automatic {ds = one ∷ rest} {all = all} {span = span} e l) n h t = declaration_row ts (initializes all) n span h t

module _ (ts : List Tok) (m : Map) (first : ℕ) where
  -- ---- initializers and declarations

  mutual
    initial : {i : tree.Initializer} {x : typed.Initializer} → IsInitializerOf i x → FitsInInitializer ts i → (d : ℕ) {mine : List Row}
        → Sit ts mine → Sit ts (rows_in_initializer (put_initializer m first d x) mine)
    initial (of.number_initial h) k d t = operand ts m first h k [] (Loose Plain) _ t
    initial (of.structure_initial h) k d t = structure ts m first h k _ t
    initial (of.list_initial h) k d t = initials h k _ t
    initial (of.in_braces h) k d t = initials h k _ t
    initial (of.zero_initial {e = e} h) k d {mine = mine} t = subst (λ rs. Sit ts rs) (sym (bare_rows e mine)) t

    initials : {items : tree.Initializers} {all : typed.Initializers} → AreInitializersOf items all → FitInInitializers ts items → (d : ℕ) {mine : List Row}
        → Sit ts mine → Sit ts (rows_in_initializers (put_initializers m first d all) mine)
    initials of.no_initials k d t = t
    initials (of.initials h l) k d t = initial h k.0 _ (initials l k.1 _ t)

  objects : {ds : List InitDeclarator} {all : List Declarator} → AreObjectsOf ds all → FitInObjects ts ds → (d : ℕ) {mine : List Row}
      → Sit ts mine → Sit ts (rows_in_declarators (put_declarators m first d all) mine)
  objects of.no_objects k d t = t
  objects (of.object_bare {d = x} {all = all} e h) k d {mine = mine} t =
      let n : ℕ = d + roots Plain (nodes.initial x.value) in
      subst (λ (v : Option typed.Initializer). Sit ts (rows_in_initial (put_initial m first d v) (rows_in_declarators (put_declarators m first n all) mine)))
      (sym e) (objects h k n t)
  objects (of.object_initialized {d = x} {all = all} h e l) k d {mine = mine} t =
      let n : ℕ = d + roots Plain (nodes.initial x.value) in
      subst (λ (v : Option typed.Initializer). Sit ts (rows_in_initial (put_initial m first d v) (rows_in_declarators (put_declarators m first n all) mine)))
      (sym e) (initial h k.0 d (objects l k.1 n t))
  objects (of.function_bare h) k d t = objects h k _ t
  objects (of.function_initialized h) k d t = objects h k.1 _ t

  declared : {x : Declaration} {all : List Declarator} → AreDeclaredBy x all → FitsInDeclaration ts x → (d : ℕ) {mine : List Row}
      → Sit ts mine → Sit ts (rows_in_declarators (put_declarators m first d all) mine)
  declared of.kept_apart k d t = t
  declared (of.automatic e h) k d t = objects h k _ t

  -- ---- parts of statements

  clauses : {all : Expressions} {xs : List Effect} → AreClausesOf all xs → FitInExpressions ts all → (d : ℕ) {mine : List Row}
      → Sit ts mine → Sit ts (rows_in_effects (put_effects m first d xs) mine)
  clauses of.no_clauses k d t = t
  clauses (of.clauses h l) k d t = effect ts m first h k.0 _ (clauses l k.1 _ t)

  part : {a : Option Expression} {xs : List Effect} → ArePartOf a xs → FitsInOptional ts a → (d : ℕ) {mine : List Row}
      → Sit ts mine → Sit ts (rows_in_effects (put_effects m first d xs) mine)
  part of.no_part k d t = t
  part (of.one_clause h) k d t = effect ts m first h k _ t
  part (of.more_clauses h) k d t = clauses h k.1 _ t

  start : {s : tree.ForStart} {x : typed.ForStart} → IsStartOf s x → FitsInStart ts s → (d : ℕ) {mine : List Row}
      → Sit ts mine → Sit ts (rows_in_start (put_start m first d x) mine)
  start (of.start_declaration h) k d t = declared h k _ t
  start (of.start_clauses h) k d t = part h k _ t

  test : {a : Option Expression} {e : Option typed.Expression} → IsTestOf a e → FitsInOptional ts a → (d : ℕ) {mine : List Row}
      → Sit ts mine → Sit ts (rows_in_optional (put_optional m first d e) mine)
  test of.no_test k d t = t
  test (of.one_test h) k d t = number ts m first h k [] _ _ t

  -- ---- statements

  -- after all of these
  abbrev past_all : Statements → At m first → At m first
  past_all typed.no_statements at = at
  past_all (typed.statements s rest) at = past_all rest (past m first s at)

  joined_rows : (some all : Statements) (r : ℕ) (at : At m first) (mine : List Row)
      → rows_in_statements (put_statements m first r at (joined some all)) mine
      ≡ rows_in_statements (put_statements m first r at some) (rows_in_statements (put_statements m first r (past_all some at) all) mine)
  joined_rows typed.no_statements all r at mine = refl
  joined_rows (typed.statements s rest) all r at mine =
      ap (λ rs. rows_in_statement (put_statement m first r at s) rs) (joined_rows rest all r (past m first s at) mine)

  mutual
    stated : {s : tree.Statement} {all : Statements} → AreStatementsOf s all → FitsInStatement ts s → (r : ℕ) (at : At m first) {mine : List Row}
        → Sit ts mine → Sit ts (rows_in_statements (put_statements m first r at all) mine)
    stated (of.compound h) k r at t = items h k r at t
    stated of.null_statement k r at t = some k (some tt t)
    stated (of.effect_statement h) k r at t = some k.0 (effect ts m first h k.1 _ (some tt t))
    stated (of.if_statement h l) k r at t = some k.0 (number ts m first h k.1 [] _ _ (stated l k.2 _ _ (some tt t)))
    stated (of.if_else_statement h l n) k r at t = some k.0 (number ts m first h k.1 [] _ _ (stated l k.2 _ _ (stated n k.3 _ _ (some tt t))))
    stated (of.switch_statement {all = all} {span = span} h l) k r at t = some k.0 (operand ts m first h k.2 (probe.Switch at.switch ∷ []) (Loose Plain) _ (stated l k.3 at.switch _ (absent_row ts m first (has_default all) at span k.1 (some tt t))))
    stated (of.while_statement h l) k r at t = some k.0 (number ts m first h k.1 [] _ _ (stated l k.2 _ _ (some tt t)))
    stated (of.do_statement h l) k r at t = some k.0 (stated h k.1 _ _ (number ts m first l k.2 [] _ _ (some tt t)))
    stated (of.for_statement h l n j) k r at t = some k.0 (start h k.1 _ (test l k.2 _ (part n k.3 _ (stated j k.4 _ _ (some tt t)))))
    stated (of.case_label ty h e f l) k r at t = some k.0 (stated l k.1 _ _ t)
    stated (of.default_label h) k r at t = some k.0 (stated h k.1 _ _ t)
    stated of.break_statement k r at t = some k (some tt t)
    stated of.continue_statement k r at t = some k (some tt t)
    stated (of.return_statement of.return_nothing) k r at t = some k.0 (some k.1 (some tt (some tt t)))
    stated (of.return_statement (of.return_number h)) k r at t = some k.0 (some k.1 (operand ts m first h k.2 [] (Loose Plain) _ (some tt (some tt t))))
    stated (of.return_statement (of.return_structure h)) k r at t = some k.0 (some k.1 (structure ts m first h k.2 _ (some tt (some tt t))))

    pub items : {b : BlockItems} {all : Statements} → AreItemsOf b all → FitInBlock ts b → (r : ℕ) (at : At m first) {mine : List Row}
        → Sit ts mine → Sit ts (rows_in_statements (put_statements m first r at all) mine)
    items of.no_items k r at t = t
    items (of.local_item h l) k r at t = local_row ts h at.statement k.0 (declared h k.1 _ (items l k.2 _ _ t))
    items (of.statement_item {some = first} {all = all} h l) k r at {mine = mine} t =
        subst (λ rs. Sit ts rs) (sym (joined_rows first all r at mine)) (stated h k.0 r at (items l k.1 r (past_all first at) t))
