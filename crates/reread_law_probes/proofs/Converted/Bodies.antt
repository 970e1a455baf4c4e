-- Initializers, declarations and statements: one case for each rule of what they have of their source.
use Rattle.std.proofs.Common.{sym, subst, true, List, Option, Some, None}
use Rattle.mc_tree.specs.Tree.{Expression, Expressions, InitDeclarator, Declaration, BlockItems}
use Rattle.mc_tree.specs.Tree as tree
use Rattle.mc_typed.specs.Layout.{ObjectType, Scalar, Array, Structure, Members, no_members, members}
use Rattle.mc_typed.specs.Sound.{Scope, Around, inside, in_loop, in_switch, type_of, object_type_at, IsInitializer, AreElements, AreMembers, IsInitial, AreDeclarators, AreClauses, IsStart, IsTest, IsReturn, AreStatements}
use Rattle.mc_typed.specs.Tree.{Effect, Declarator, ResultType, NoResult, NumberResult, StructureResult, Statement, Statements}
use Rattle.mc_typed.specs.Tree as typed
use Rattle.reread_law_probes.specs.put.Conversions.{ConvertsEffects, ConvertsInitializer, ConvertsInitializers, ConvertsInitial, ConvertsDeclarators, ConvertsStart, ConvertsOptional, ConvertsValue, ConvertsStatements}
use Rattle.laws_types.specs.Exact.{IsExactInitializer, AreExactInitializers, IsExactInitial, AreExactDeclarators, AreExactClauses, IsExactStart, IsExactTest, IsExactReturn, AreExactStatements}
use Rattle.laws_types.specs.SourceUnits.{IsInitializerOf, AreInitializersOf, AreObjectsOf, AreDeclaredBy, AreClausesOf, ArePartOf, IsStartOf, IsTestOf, IsReturnOf, AreStatementsOf, AreItemsOf, joined}
use Rattle.laws_types.specs.SourceUnits as of
use Rattle.reread_law_probes.proofs.Converted.Values.{written, number, operand, structure, effect}

-- ---- one list of statements after another

exact_joined : (some all : Statements) → AreExactStatements (joined some all)
    → AreExactStatements some × AreExactStatements all
exact_joined typed.no_statements all h = (tt, h)
exact_joined (typed.statements s rest) all h =
    let x = exact_joined rest all h.1 in ((h.0, x.0), x.1)

sound_joined : (c : Scope) (w : Around) (some all : Statements) → AreStatements (joined some all) c w
    → AreStatements some c w × AreStatements all c w
sound_joined c w typed.no_statements all h = (tt, h)
sound_joined c w (typed.statements s rest) all h =
    let x = sound_joined c w rest all h.1 in ((h.0, x.0), x.1)

joined_stand : (some all : Statements) → ConvertsStatements some → ConvertsStatements all
    → ConvertsStatements (joined some all)
joined_stand typed.no_statements all h l = l
joined_stand (typed.statements s rest) all h l = (h.0, joined_stand rest all h.1 l)

module _ (c : Scope) where
  -- ---- initializers and declarations

  mutual
    initial : {i : tree.Initializer} {y : typed.Initializer} → IsInitializerOf i y → (u : ObjectType)
        → IsExactInitializer y → IsInitializer y u c → ConvertsInitializer y
    initial (of.number_initial h) (Scalar a) x s = operand c h x.1 s.0
    initial (of.number_initial h) (Array n u) x s = absurd s
    initial (of.number_initial h) (Structure k ms) x s = absurd s
    initial (of.structure_initial h) u x s = structure c h x s.0
    initial (of.list_initial h) (Scalar a) x s = absurd s
    initial (of.list_initial h) (Array n u) x s = elements h u x s.2
    initial (of.list_initial h) (Structure k ms) x s = given_members h ms x s.1
    initial (of.in_braces h) u x s = (elements h u (x, tt) (s, tt)).0
    initial (of.zero_initial h) u x s = tt

    elements : {items : tree.Initializers} {all : typed.Initializers} → AreInitializersOf items all
        → (u : ObjectType) → AreExactInitializers all → AreElements all u c → ConvertsInitializers all
    elements of.no_initials u x s = tt
    elements (of.initials h l) u x s = (initial h u x.0 s.0, elements l u x.1 s.1)

    given_members : {items : tree.Initializers} {all : typed.Initializers} → AreInitializersOf items all
        → (ms : Members) → AreExactInitializers all → AreMembers all ms c → ConvertsInitializers all
    given_members of.no_initials ms x s = tt
    given_members (of.initials h l) no_members x s = absurd s
    given_members (of.initials h l) (members u ms) x s = (initial h u x.0 s.0, given_members l ms x.1 s.1)

  initialized : {i : tree.Initializer} {y : typed.Initializer} → IsInitializerOf i y
      → (o : Option ObjectType) → IsExactInitializer y → IsInitial (Some y) o c → ConvertsInitializer y
  initialized h None x s = absurd s
  initialized h (Some u) x s = initial h u x s

  objects : {ds : List InitDeclarator} {all : List Declarator} → AreObjectsOf ds all
      → AreExactDeclarators all → AreDeclarators all c → ConvertsDeclarators all
  objects of.no_objects x s = tt
  objects (of.object_bare e h) x s = (subst ConvertsInitial (sym e) tt, objects h x.1 s.1)
  objects (of.object_initialized {d = d} h e l) x s =
      let o : Option ObjectType = object_type_at c.objects d.slot.object in (
        subst ConvertsInitial (sym e)
            (initialized h o (subst IsExactInitial e x.0) (subst (λ v. IsInitial v o c) e s.0.2)),
        objects l x.1 s.1,
      )
  objects (of.function_bare h) x s = objects h x s
  objects (of.function_initialized h) x s = objects h x s

  declared : {d : Declaration} {all : List Declarator} → AreDeclaredBy d all → AreExactDeclarators all
      → AreDeclarators all c → ConvertsDeclarators all
  declared of.kept_apart x s = tt
  declared (of.automatic e h) x s = objects h x s

  -- ---- parts of statements

  clauses : {all : Expressions} {ys : List Effect} → AreClausesOf all ys → AreExactClauses ys
      → AreClauses ys c → ConvertsEffects ys
  clauses of.no_clauses x s = tt
  clauses (of.clauses h l) x s = (effect c h true x.0 s.0, clauses l x.1 s.1)

  part : {a : Option Expression} {ys : List Effect} → ArePartOf a ys → AreExactClauses ys
      → AreClauses ys c → ConvertsEffects ys
  part of.no_part x s = tt
  part (of.one_clause h) x s = (effect c h true x.0 s.0, tt)
  part (of.more_clauses h) x s = clauses h x s

  start : {i : tree.ForStart} {y : typed.ForStart} → IsStartOf i y → IsExactStart y → IsStart y c
      → ConvertsStart y
  start (of.start_declaration h) x s = declared h x s
  start (of.start_clauses h) x s = part h x s

  test : {a : Option Expression} {e : Option typed.Expression} → IsTestOf a e → IsExactTest e
      → IsTest e c → ConvertsOptional e
  test of.no_test x s = tt
  test (of.one_test h) x s = (written h, number c h x.1 s)

  returned : {a : Option Expression} {v : typed.ReturnValue} → IsReturnOf a v → (r : ResultType)
      → IsExactReturn v → IsReturn v r c → ConvertsValue v
  returned of.return_nothing r x s = tt
  returned (of.return_number h) NoResult x s = absurd s
  returned (of.return_number h) (NumberResult a) x s = operand c h x.1 s.0
  returned (of.return_number h) (StructureResult u) x s = absurd s
  returned (of.return_structure h) NoResult x s = absurd s
  returned (of.return_structure h) (NumberResult a) x s = absurd s
  returned (of.return_structure h) (StructureResult u) x s = structure c h x s.0

  -- ---- statements

  mutual
    statement : {u : tree.Statement} {all : Statements} → AreStatementsOf u all → (w : Around)
        → AreExactStatements all → AreStatements all c w → ConvertsStatements all
    statement (of.compound h) w x s = (items h (inside w) x.0 s.0, tt)
    statement of.null_statement w x s = (tt, tt)
    statement (of.effect_statement h) w x s = (effect c h true x.0 s.0, tt)
    statement (of.if_statement h l) w x s = (
      (
        (written h, number c h x.0.0.1 s.0.0),
        (statement l (inside w) (x.0.1, tt) (s.0.1, tt)).0,
      ),
      tt,
    )
    statement (of.if_else_statement h l m) w x s = (
      (
        (written h, number c h x.0.0.1 s.0.0),
        (statement l (inside w) (x.0.1, tt) (s.0.1, tt)).0,
        (statement m (inside w) (x.0.2, tt) (s.0.2, tt)).0,
      ),
      tt,
    )
    statement (of.switch_statement {e = e} h (of.compound l)) w x s =
        ((operand c h x.0.0.1.1 s.0.0, items l (in_switch w (type_of e)) x.0.1 s.0.2), tt)
    statement (of.while_statement h l) w x s = (
      (
        tt,
        (written h, number c h x.0.1.1 s.0.1),
        tt,
        (statement l in_loop (x.0.3, tt) (s.0.3, tt)).0,
      ),
      tt,
    )
    statement (of.do_statement h l) w x s = (
      (
        (statement h in_loop (x.0.0, tt) (s.0.0, tt)).0,
        (written l, number c l x.0.1.1 s.0.1),
      ),
      tt,
    )
    statement (of.for_statement h l m n) w x s = (
      (
        start h x.0.0 s.0.0,
        test l x.0.1 s.0.1,
        part m x.0.2 s.0.2,
        (statement n in_loop (x.0.3, tt) (s.0.3, tt)).0,
      ),
      tt,
    )
    statement (of.case_label t h e f l) w x s = (tt, statement l w x.1 s.1)
    statement (of.default_label h) w x s = (tt, statement h w x.1 s.1)
    statement of.break_statement w x s = (tt, tt)
    statement of.continue_statement w x s = (tt, tt)
    statement (of.return_statement h) w x s = (returned h c.result x.0 s.0, tt)

    pub items : {b : BlockItems} {all : Statements} → AreItemsOf b all → (w : Around)
        → AreExactStatements all → AreStatements all c w → ConvertsStatements all
    items of.no_items w x s = tt
    items (of.local_item h l) w x s = (declared h x.0 s.0, items l w x.1 s.1)
    items (of.statement_item {some = some} {all = all} h l) w x s =
        let y = exact_joined some all x in
        let z = sound_joined c w some all s in
        joined_stand some all (statement h w y.0 z.0) (items l w y.1 z.1)
