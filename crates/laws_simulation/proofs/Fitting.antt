-- An instrumented program is well-formed.
use Rattle.std.proofs.Common.{◌≡◌, refl, sym, ap, subst, ℕ, ◌+◌, ◌<◌, ◌≤◌, Bool, true, false, if◌then◌else◌, List, [], ◌∷◌, Option, Some, None, arith}
use Rattle.mc_value.specs.declared.int_type.IntType.{IntType}
use Rattle.mc_typed.specs.declared.probes.Probe.TheVariants as probe
use Rattle.mc_typed.specs.Tree as t
use Rattle.mc_typed.specs.Sound.{Scope, Around, outermost, inside, in_loop, IsLabel, IsStatement, AreStatements, IsSound, IsFunction, AreFunctions, scope_of, type_of}
use Rattle.mc_typed.specs.Sound as sound
use Rattle.mc_span.specs.declared.span.Span.{Span}
use Rattle.mc_typed.specs.declared.operators.Operator.{Operator}
use Rattle.decide_rules.specs.declared.operators.FullOperator.{FullOperator}
use Rattle.decide_rules.specs.declared.role.Role.{Role}
use Rattle.decide_rules.specs.declared.role.Role.TheVariants.{Controlling, Inner, Plain}
use Rattle.decide_rules.specs.Nodes.{Node}
use Rattle.decide_rules.specs.Nodes as n
use Rattle.decide_rules.specs.Roots.{is_root}
use Rattle.decide_rules.specs.Conditions.{width, is_operator}
use Rattle.decide_rules.specs.Counts.{one_where, roots, roots_in}
use Rattle.mc_steps.specs.Points.{Points, no_points, ◌⊕◌, points_of_function, has_default, initializes}
use Rattle.mc_probe.specs.Tree as p
use Rattle.mc_probe.specs.Maps.{Map, exit_bit, statement_bit, label_bit}
use Rattle.mc_probe.specs.Switches.{switches, switches_all}
use Rattle.mc_probe.specs.Table.{Stand, Loose, InTree, role_of, operand, under, beside, inner, base_of, increment_of, mapped, round_condition, round, put, put_place, put_structure, put_call, put_argument, put_arguments, put_effect, put_effects, put_initializer, put_initializers, put_initial, put_declarators, put_start, put_optional, put_return, At, decided, mark_unless_default, put_statement, put_statements, put_function, put_functions, decisions_in, instrumented}
use Rattle.mc_probe.specs.Table as table
use Rattle.mc_probe.specs.WellFormed.{IsBarePlace, IsBare, IsBareStructure, IsBareCall, IsBareArgument, AreBareArguments, FitsPlace, Fits, FitsStructure, FitsCall, FitsArgument, FitArguments, FitsEffect, FitEffects, FitsInitializer, FitInitializers, FitsInitial, FitDeclarators, FitsStart, FitsTest, FitsReturn, FitsDeclaration, FitsAbsent, FitsStatement, FitStatements, FitFunctions}
use Rattle.mc_probe.specs.Bare.{bare_place, bare_expression, bare_structure, bare_call, bare_argument, bare_arguments}
use Rattle.laws_simulation.specs.Expressions.{Stands}
use Rattle.laws_simulation.specs.Laws.{InstrumentedIsWellFormed}
use Rattle.laws_simulation.proofs.Erased.{declarators_away, statements_away, program_away}
use Rattle.laws_simulation.proofs.Decisions.{inner_is, role_same, stands_inside}

-- ---- copies without probes

mutual
  place_bare : (x : t.Place) → IsBarePlace (bare_place x)
  place_bare (t.Local slot span) = tt
  place_bare (t.Static slot span) = tt
  place_bare (t.Parameter array stride index span) = expression_bare index
  place_bare (t.Item array k stride index span) = (place_bare array, expression_bare index)
  place_bare (t.Member structure k offset span) = place_bare structure

  expression_bare : (x : t.Expression) → IsBare (bare_expression x)
  expression_bare (t.Constant v a span) = tt
  expression_bare (t.Read place a) = place_bare place
  expression_bare (t.Unary operator a x span) = expression_bare x
  expression_bare (t.Convert a written x span) = expression_bare x
  expression_bare (t.Not x span) = expression_bare x
  expression_bare (t.Binary operator a x y span) = (expression_bare x, expression_bare y)
  expression_bare (t.Logic operator x y span) = (expression_bare x, expression_bare y)
  expression_bare (t.Choice x y z a span) = (expression_bare x, expression_bare y, expression_bare z)
  expression_bare (t.Call k a) = call_bare k
  expression_bare (t.Input span) = tt

  structure_bare : (x : t.StructureValue) → IsBareStructure (bare_structure x)
  structure_bare (t.Stored place) = place_bare place
  structure_bare (t.Returned k) = call_bare k

  call_bare : (x : t.FunctionCall) → IsBareCall (bare_call x)
  call_bare (t.call f given result span) = arguments_bare given

  argument_bare : (x : t.Argument) → IsBareArgument (bare_argument x)
  argument_bare (t.NumberArgument x) = expression_bare x
  argument_bare (t.StructureArgument value copy) = structure_bare value
  argument_bare (t.ArrayArgument place k) = place_bare place
  argument_bare (t.AgainArgument array span) = tt

  arguments_bare : (x : t.Arguments) → AreBareArguments (bare_arguments x)
  arguments_bare t.no_arguments = tt
  arguments_bare (t.arguments a rest) = (argument_bare a, arguments_bare rest)

-- ---- probes

stands_beside : (o : Stand) (d u wide : ℕ) → d ≤ u → Stands o d → Stands (beside o wide) u
stands_beside (Loose Plain) d u wide le ok = tt
stands_beside (Loose Controlling) d u wide le ok = tt
stands_beside (Loose Inner) d u wide le ok = absurd ok
stands_beside (InTree k c) d u wide le ok = omega (arith, le, ok)

role_beside : (o : Stand) (wide : ℕ) → role_of (beside o wide) ≡ role_of o
role_beside (Loose role) wide = refl
role_beside (InTree k c) wide = refl

-- an operator that evaluates both of its operands leaves room for the decisions in them
module _ (operator : Operator) (a b : Node) (span : Span) (st : Stand) (d most : ℕ) where
  abbrev BothFit : Option FullOperator → Type 0
  BothFit which =
      let x : Node = n.evaluates_both which operator a b span in
      let o : Stand = under which (operand st d x) in
      let z : ℕ = inner st d x in
      let y : ℕ = z + roots (role_of o) a in
      (d + one_where (is_root (role_of st) x) ≤ most)
      × Stands o z × (z + roots (role_of o) a ≤ most)
      × Stands (beside o (width a)) y × (y + roots (role_of (beside o (width a))) b ≤ most)

  both_fit : (which : Option FullOperator) → Stands st d → d + roots (role_of st) (n.evaluates_both which operator a b span) ≤ most → BothFit which
  both_fit (Some full) ok le =
      let x : Node = n.evaluates_both (Some full) operator a b span in
      let o : Stand = operand st d x in
      let z : ℕ = inner st d x in
      let i = inner_is st d x in
      let s = ap (λ (r : Role). roots r a) (role_same st d x ok) in
      let u = ap (λ (r : Role). roots r b) (role_same st d x ok) in
      let w = ap (λ (r : Role). roots r b) (role_beside o (width a)) in
      let y : ℕ = z + roots (role_of o) a in
      let zy : z ≤ y = omega arith in (
        omega (arith, le),
        stands_inside st d x ok,
        omega (arith, le, i, s),
        stands_beside o z y (width a) zy (stands_inside st d x ok),
        omega (arith, le, i, s, u, w),
      )
  both_fit None ok le =
      let i = inner_is st d (n.evaluates_both None operator a b span) in
      (omega (arith, le), tt, omega (arith, le, i), tt, omega (arith, le, i))

module _ (m : Map) (first most : ℕ) where
  either_fits : (b : Bool) (x y : p.Expression) → (b ≡ true → Fits most x) → (b ≡ false → Fits most y) → Fits most (if b then x else y)
  either_fits true x y h k = h refl
  either_fits false x y h k = k refl

  condition_fits : (k c : ℕ) (a : Node) (x : p.Expression) → k < most → Fits most x → Fits most (round_condition m first k c a x)
  condition_fits k c a x lt h =
      either_fits (is_operator a) x (p.Probe (probe.Condition k 0 (increment_of (mapped m first k) c)) x) (λ e. h) (λ e. (lt, h))

  decision_fits : (b : Bool) (d : ℕ) (x y : p.Expression) → d + one_where b ≤ most → (d < most → Fits most x) → Fits most y → Fits most (if b then p.Probe (probe.Decision d (base_of (mapped m first d))) x else y)
  decision_fits true d x y le h k = let lt : d < most = omega (arith, le) in (lt, h lt)
  decision_fits false d x y le h k = k

  round_fits : (st : Stand) (d : ℕ) (a : Node) (x : p.Expression) → Stands st d → d + one_where (is_root (role_of st) a) ≤ most → Fits most x → Fits most (round m first st d a x)
  round_fits (Loose role) d a x ok le h =
      decision_fits (is_root role a) d (round_condition m first d 0 a x) x le (λ lt. condition_fits d 0 a x lt h) h
  round_fits (InTree k c) d a x ok le h = condition_fits k c a x (omega (arith, ok, le)) h

  mutual
    place_fits : (d : ℕ) (x : t.Place) → d + roots Plain (n.place x) ≤ most → FitsPlace most (put_place m first d x)
    place_fits d (t.Local slot span) le = tt
    place_fits d (t.Static slot span) le = tt
    place_fits d (t.Parameter array stride index span) le = put_fits (Loose Plain) d index tt (omega (arith, le))
    place_fits d (t.Item array k stride index span) le =
        (place_fits d array (omega (arith, le)), put_fits (Loose Plain) (d + roots Plain (n.place array)) index tt (omega (arith, le)))
    place_fits d (t.Member structure k offset span) le = place_fits d structure (omega (arith, le))

    put_fits : (st : Stand) (d : ℕ) (x : t.Expression) → Stands st d → d + roots (role_of st) (n.expression x) ≤ most → Fits most (put m first st d x)
    put_fits st d (t.Constant v a span) ok le = round_fits st d _ (p.Constant v a span) ok (omega (arith, le)) tt
    put_fits st d (t.Read place a) ok le =
        let i = inner_is st d (n.expression (t.Read place a)) in
        round_fits st d _ _ ok (omega (arith, le)) (place_fits (inner st d (n.expression (t.Read place a))) place (omega (arith, le, i)))
    put_fits st d (t.Unary operator a e span) ok le =
        let i = inner_is st d (n.expression (t.Unary operator a e span)) in
        round_fits st d _ _ ok (omega (arith, le)) (put_fits (Loose Plain) (inner st d (n.expression (t.Unary operator a e span))) e tt (omega (arith, le, i)))
    put_fits st d (t.Convert a written e span) ok le =
        let i = inner_is st d (n.expression (t.Convert a written e span)) in
        round_fits st d _ _ ok (omega (arith, le)) (put_fits (Loose Plain) (inner st d (n.expression (t.Convert a written e span))) e tt (omega (arith, le, i)))
    put_fits st d (t.Not e span) ok le =
        let a : Node = n.expression (t.Not e span) in
        let i = inner_is st d a in
        let s = ap (λ (r : Role). roots r (n.expression e)) (role_same st d a ok) in
        round_fits st d a _ ok (omega (arith, le)) (put_fits (operand st d a) (inner st d a) e (stands_inside st d a ok) (omega (arith, le, i, s)))
    put_fits st d (t.Binary operator a e f span) ok le =
        let z : ℕ = inner st d (n.expression (t.Binary operator a e f span)) in
        let o : Stand = under (n.full_operator operator e f) (operand st d (n.expression (t.Binary operator a e f span))) in
        let both = both_fit operator (n.expression e) (n.expression f) span st d most (n.full_operator operator e f) ok le in
        round_fits st d _ _ ok both.0
        (put_fits o z e both.1 both.2, put_fits (beside o (width (n.expression e))) (z + roots (role_of o) (n.expression e)) f both.3 both.4)
    put_fits st d (t.Logic operator e f span) ok le =
        let a : Node = n.expression (t.Logic operator e f span) in
        let o : Stand = operand st d a in
        let z : ℕ = inner st d a in
        let i = inner_is st d a in
        let s = ap (λ (r : Role). roots r (n.expression e)) (role_same st d a ok) in
        let u = ap (λ (r : Role). roots r (n.expression f)) (role_same st d a ok) in
        let w = ap (λ (r : Role). roots r (n.expression f)) (role_beside o (width (n.expression e))) in
        let y : ℕ = z + roots (role_of o) (n.expression e) in
        let zy : z ≤ y = omega arith in
        round_fits st d a _ ok (omega (arith, le)) (
          put_fits o z e (stands_inside st d a ok) (omega (arith, le, i, s)),
          put_fits (beside o (width (n.expression e))) y f (stands_beside o z y (width (n.expression e)) zy (stands_inside st d a ok)) (omega (arith, le, i, s, u, w)),
        )
    put_fits st d (t.Choice e f g a span) ok le =
        let z : ℕ = inner st d (n.expression (t.Choice e f g a span)) in
        let i = inner_is st d (n.expression (t.Choice e f g a span)) in
        let y : ℕ = z + roots Controlling (n.expression e) in
        round_fits st d _ _ ok (omega (arith, le))
        (put_fits (Loose Controlling) z e tt (omega (arith, le, i)), put_fits (Loose Plain) y f tt (omega (arith, le, i)), put_fits (Loose Plain) (y + roots Plain (n.expression f)) g tt (omega (arith, le, i)))
    put_fits st d (t.Call k a) ok le =
        let i = inner_is st d (n.expression (t.Call k a)) in
        round_fits st d _ _ ok (omega (arith, le)) (call_fits (inner st d (n.expression (t.Call k a))) k (omega (arith, le, i)))
    put_fits st d (t.Input span) ok le = round_fits st d _ (p.Input span) ok (omega (arith, le)) tt

    structure_fits : (d : ℕ) (x : t.StructureValue) → d + roots Plain (n.structure x) ≤ most → FitsStructure most (put_structure m first d x)
    structure_fits d (t.Stored place) le = place_fits d place le
    structure_fits d (t.Returned k) le = call_fits d k (omega (arith, le))

    call_fits : (d : ℕ) (x : t.FunctionCall) → d + roots_in (n.call_parts x) ≤ most → FitsCall most (put_call m first d x)
    call_fits d (t.call f given result span) le = arguments_fit d given le

    argument_fits : (d : ℕ) (x : t.Argument) → d + roots Plain (n.argument x) ≤ most → FitsArgument most (put_argument m first d x)
    argument_fits d (t.NumberArgument e) le = put_fits (Loose Plain) d e tt le
    argument_fits d (t.StructureArgument value copy) le = structure_fits d value le
    argument_fits d (t.ArrayArgument place k) le = place_fits d place le
    argument_fits d (t.AgainArgument array span) le = tt

    arguments_fit : (d : ℕ) (x : t.Arguments) → d + roots_in (n.arguments x) ≤ most → FitArguments most (put_arguments m first d x)
    arguments_fit d t.no_arguments le = tt
    arguments_fit d (t.arguments a rest) le =
        (argument_fits d a (omega (arith, le)), arguments_fit (d + roots Plain (n.argument a)) rest (omega (arith, le)))

  effect_fits : (d : ℕ) (x : t.Effect) → d + roots Plain (n.effect x) ≤ most → FitsEffect most (put_effect m first d x)
  effect_fits d (t.Assign target a e span) le =
      (place_fits d target (omega (arith, le)), put_fits (Loose Plain) (d + roots Plain (n.place target)) e tt (omega (arith, le)))
  effect_fits d (t.Update target a operator common e span) le =
      (place_fits d target (omega (arith, le)), put_fits (Loose Plain) (d + roots Plain (n.place target)) e tt (omega (arith, le)))
  effect_fits d (t.Copy target value k span) le =
      (place_fits d target (omega (arith, le)), structure_fits (d + roots Plain (n.place target)) value (omega (arith, le)))
  effect_fits d (t.NumberEffect e whole) le = put_fits (Loose Plain) d e tt le
  effect_fits d (t.StructureEffect value whole) le = structure_fits d value le
  effect_fits d (t.CallEffect k) le = call_fits d k (omega (arith, le))
  effect_fits d (t.Output e span) le = put_fits (Loose Plain) d e tt (omega (arith, le))
  effect_fits d (t.ChoiceEffect e a b span) le = (
    put_fits (Loose Controlling) d e tt (omega (arith, le)),
    effect_fits (d + roots Controlling (n.expression e)) a (omega (arith, le)),
    effect_fits (d + roots Controlling (n.expression e) + roots Plain (n.effect a)) b (omega (arith, le)),
  )
  effect_fits d (t.Discard a span) le = effect_fits d a (omega (arith, le))

  effects_fit : (d : ℕ) (xs : List t.Effect) → d + roots_in (n.effects xs) ≤ most → FitEffects most (put_effects m first d xs)
  effects_fit d [] le = tt
  effects_fit d (x ∷ xs) le = (effect_fits d x (omega (arith, le)), effects_fit (d + roots Plain (n.effect x)) xs (omega (arith, le)))

  mutual
    initializer_fits : (d : ℕ) (x : t.Initializer) → d + roots Plain (n.initializer x) ≤ most → FitsInitializer most (put_initializer m first d x)
    initializer_fits d (t.NumberInitializer e) le = put_fits (Loose Plain) d e tt le
    initializer_fits d (t.StructureInitializer value k) le = structure_fits d value le
    initializer_fits d (t.ListInitializer items k) le = initializers_fit d items (omega (arith, le))
    initializer_fits d (t.ZeroInitializer e k) le = expression_bare e

    initializers_fit : (d : ℕ) (x : t.Initializers) → d + roots_in (n.initializers x) ≤ most → FitInitializers most (put_initializers m first d x)
    initializers_fit d t.no_initializers le = tt
    initializers_fit d (t.initializers x rest) le =
        (initializer_fits d x (omega (arith, le)), initializers_fit (d + roots Plain (n.initializer x)) rest (omega (arith, le)))

  initial_fits : (d : ℕ) (x : Option t.Initializer) → d + roots Plain (n.initial x) ≤ most → FitsInitial most (put_initial m first d x)
  initial_fits d None le = tt
  initial_fits d (Some x) le = initializer_fits d x le

  declarators_fit : (d : ℕ) (xs : List t.Declarator) → d + roots_in (n.declarators xs) ≤ most → FitDeclarators most (put_declarators m first d xs)
  declarators_fit d [] le = tt
  declarators_fit d (x ∷ xs) le = (initial_fits d x.value (omega (arith, le)), declarators_fit (d + roots Plain (n.initial x.value)) xs (omega (arith, le)))

  start_fits : (d : ℕ) (x : t.ForStart) → d + roots Plain (n.start x) ≤ most → FitsStart most (put_start m first d x)
  start_fits d (t.StartEffects xs) le = effects_fit d xs (omega (arith, le))
  start_fits d (t.StartDeclaration xs) le = declarators_fit d xs (omega (arith, le))

  test_fits : (d : ℕ) (x : Option t.Expression) → d + roots Plain (n.optional_test x) ≤ most → FitsTest most (put_optional m first d x)
  test_fits d None le = tt
  test_fits d (Some e) le = put_fits (Loose Controlling) d e tt (omega (arith, le))

  return_fits : (d : ℕ) (x : t.ReturnValue) → d + roots Plain (n.return_value x) ≤ most → FitsReturn most (put_return m first d x)
  return_fits d t.ReturnNothing le = tt
  return_fits d (t.ReturnNumber e) le = put_fits (Loose Plain) d e tt le
  return_fits d (t.ReturnStructure value k) le = structure_fits d value le

  -- labels stand in a switch, whose register there is
  abbrev InSwitch : Around → ℕ → Type 0
  InSwitch around r = (a : IntType) → around.labels ≡ Some a → r < most

  none_some : {A X : Type 0} (x : A) → None ≡ Some x → X
  none_some x e = cc

  bit_fits : (b : Bool) (k : ℕ) → FitsDeclaration most b (if b then Some k else None)
  bit_fits true k = tt
  bit_fits false k = refl

  absent_fits : (b : Bool) (at : At m first) → at.switch < most → FitsAbsent most b (mark_unless_default m first b at)
  absent_fits true at lt = refl
  absent_fits false at lt = lt

  module _ (c : Scope) where
    mutual
      statement_fits : (r : ℕ) (at : At m first) (x : t.Statement) (around : Around) → IsStatement x c around → InSwitch around r → at.decision + roots Plain (n.statement x) ≤ most → at.switch + switches x ≤ most → FitsStatement most (put_statement m first r at x)
      statement_fits r at (t.Compound items span) around k l le sw = statements_fit r at items (inside around) k (λ a e. none_some a e) (omega (arith, le)) sw
      statement_fits r at (t.Label v span) around k l le sw = go around.labels refl k
        where
          go : (o : Option IntType) → around.labels ≡ o → IsLabel v o → r < most
          go None e h = absurd h
          go (Some a) e h = l a e
      statement_fits r at (t.Declaration xs span) around k l le sw = (
        declarators_fit at.decision xs (omega (arith, le)),
        subst (λ (ds : List t.Declarator). FitsDeclaration most (initializes ds) (if initializes xs then Some at.statement else None)) (sym (declarators_away m first at.decision xs)) (bit_fits (initializes xs) at.statement),
      )
      statement_fits r at (t.Null span) around k l le sw = tt
      statement_fits r at (t.EffectStatement x span) around k l le sw = effect_fits at.decision x (omega (arith, le))
      statement_fits r at (t.If e x keyword span) around k l le sw = (
        put_fits (Loose Controlling) at.decision e tt (omega (arith, le)),
        statement_fits r (decided m first (roots Controlling (n.expression e)) (table.within m first at)) x (inside around) k.1 (λ a e. none_some a e) (omega (arith, le)) sw,
      )
      statement_fits r at (t.IfElse e x y keyword span) around k l le sw =
          let z : At m first = decided m first (roots Controlling (n.expression e)) (table.within m first at) in (
            put_fits (Loose Controlling) at.decision e tt (omega (arith, le)),
            statement_fits r z x (inside around) k.1 (λ a e. none_some a e) (omega (arith, le)) (omega (arith, sw)),
            statement_fits r (table.past m first x z) y (inside around) k.2 (λ a e. none_some a e) (omega (arith, le)) (omega (arith, sw)),
          )
      statement_fits r at (t.Switch e items keyword span) around k l le sw =
          let z : At m first = decided m first (roots Plain (n.expression e)) (table.in_switch m first (has_default items) at) in
          let lt : at.switch < most = omega (arith, sw) in (
            (lt, put_fits (Loose Plain) at.decision e tt (omega (arith, le))),
            statements_fit at.switch z items (sound.in_switch around (type_of e)) k.2 (λ a e. lt) (omega (arith, le)) (omega (arith, sw)),
            subst (λ (xs : t.Statements). FitsAbsent most (has_default xs) (mark_unless_default m first (has_default items) at)) (sym (statements_away m first at.switch z items)) (absent_fits (has_default items) at lt),
          )
      statement_fits r at (t.For start test step x keyword span) around k l le sw =
          let d : ℕ = at.decision + roots Plain (n.start start) in
          let y : ℕ = d + roots Plain (n.optional_test test) in
          let z : At m first = decided m first (roots Plain (n.start start) + roots Plain (n.optional_test test) + roots_in (n.effects step)) (table.within m first at) in (
            start_fits at.decision start (omega (arith, le)),
            test_fits d test (omega (arith, le)),
            effects_fit y step (omega (arith, le)),
            statement_fits r z x in_loop k.3 (λ a e. none_some a e) (omega (arith, le)) sw,
          )
      statement_fits r at (t.DoWhile x e keyword span) around k l le sw = (
        statement_fits r (table.within m first at) x in_loop k.0 (λ a e. none_some a e) (omega (arith, le)) sw,
        put_fits (Loose Controlling) (at.decision + roots Plain (n.statement x)) e tt (omega (arith, le)),
      )
      statement_fits r at (t.Break span) around k l le sw = tt
      statement_fits r at (t.Continue span) around k l le sw = tt
      statement_fits r at (t.Return value span) around k l le sw = return_fits at.decision value (omega (arith, le))

      statements_fit : (r : ℕ) (at : At m first) (xs : t.Statements) (around : Around) → AreStatements xs c around → InSwitch around r → at.decision + roots_in (n.statements xs) ≤ most → at.switch + switches_all xs ≤ most → FitStatements most (put_statements m first r at xs)
      statements_fit r at t.no_statements around k l le sw = tt
      statements_fit r at (t.statements x rest) around k l le sw = (
        statement_fits r at x around k.0 l (omega (arith, le)) (omega (arith, sw)),
        statements_fit r (table.past m first x at) rest around k.1 l (omega (arith, le)) (omega (arith, sw)),
      )

functions_fit : (q : t.Program) (m : Map) (number decisions : ℕ) (points : Points) (xs : List t.Function) → AreFunctions q xs → FitFunctions (put_functions m number decisions points xs)
functions_fit q m number decisions points [] h = tt
functions_fit q m number decisions points (x ∷ xs) h = (
  statements_fit m decisions (decisions_in x + switches_all x.body) (scope_of q x) 0 (record {
    exit = exit_bit m points.exits;
    statement = statement_bit m points.statements;
    label = label_bit m points.labels;
    decision = 0;
    switch = decisions_in x;
  }) x.body outermost h.0.body (λ a e. none_some m decisions (decisions_in x + switches_all x.body) a e) (omega arith) (omega arith),
  functions_fit q m (number + 1) (decisions + decisions_in x) (points ⊕ points_of_function x) xs h.1,
)

pub well_formed : InstrumentedIsWellFormed
well_formed m q sound = record {
  sound = subst IsSound (sym (program_away m q)) sound;
  probes = functions_fit q m 0 0 no_points q.functions sound.functions;
}
