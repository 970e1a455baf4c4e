-- The numbers of the table are short.
use Rattle.std.proofs.Common.{◌≡◌, refl, ap, ℕ, ◌+◌, ◌<◌, ◌≤◌, Bool, true, false, if◌then◌else◌, List, [], ◌∷◌, Option, Some, None, length, slice_get, arith}
use Rattle.mc_typed.specs.declared.probes.Probe.TheVariants as probe
use Rattle.mc_typed.specs.Tree as t
use Rattle.mc_span.specs.declared.span.Span.{Span}
use Rattle.mc_typed.specs.declared.operators.Operator.{Operator}
use Rattle.decide_rules.specs.declared.operators.FullOperator.{FullOperator}
use Rattle.decide_rules.specs.declared.role.Role.{Role}
use Rattle.decide_rules.specs.declared.role.Role.TheVariants.{Controlling, Inner, Plain}
use Rattle.decide_rules.specs.Nodes.{Node}
use Rattle.decide_rules.specs.Nodes as n
use Rattle.decide_rules.specs.Roots.{is_root}
use Rattle.decide_rules.specs.Conditions.{width, is_operator}
use Rattle.decide_rules.specs.Counts.{one_where, roots, roots_in}
use Rattle.mc_steps.specs.Points.{Points, ◌⊕◌, unless_default, points_of, points_of_all, points_of_function, points_before, all_complete, has_default, initializes}
use Rattle.mc_probe.specs.Tree as p
use Rattle.mc_probe.specs.Maps.{Map, first_exit, first_statement, first_label, exit_bit, statement_bit, label_bit}
use Rattle.mc_probe.specs.Switches.{switches, switches_all}
use Rattle.mc_probe.specs.Table.{Stand, Loose, InTree, role_of, operand, under, beside, inner, base_of, increment_of, mapped, round_condition, round, put, put_place, put_structure, put_call, put_argument, put_arguments, put_effect, put_effects, put_initializer, put_initializers, put_initial, put_declarators, put_start, put_optional, put_return, At, decided, mark_unless_default, put_statement, put_statements, put_functions, decisions_in}
use Rattle.mc_probe.specs.Table as table
use Rattle.mc_probe.specs.Bare.{bare_place, bare_expression, bare_structure, bare_call, bare_argument, bare_arguments}
use Rattle.laws_simulation.specs.Expressions.{Stands}
use Rattle.laws_simulation.proofs.Decisions.{inner_is, role_same, stands_inside}
use Rattle.reread_law_printed.specs.spelled.Numbers.{IsShort, IsShortBit, IsShortMark, ShortPlace, Short, ShortStructure, ShortCall, ShortArgument, ShortArguments, ShortEffect, ShortEffects, ShortInitializer, ShortInitializers, ShortInitial, ShortDeclarators, ShortStart, ShortTest, ShortValue, ShortStatement, ShortStatements, ShortFunctions}

-- ---- copies without probes

mutual
  place_bare : (x : t.Place) → ShortPlace (bare_place x)
  place_bare (t.Local slot span) = tt
  place_bare (t.Static slot span) = tt
  place_bare (t.Parameter array stride index span) = expression_bare index
  place_bare (t.Item array k stride index span) = (place_bare array, expression_bare index)
  place_bare (t.Member structure k offset span) = place_bare structure

  expression_bare : (x : t.Expression) → Short (bare_expression x)
  expression_bare (t.Constant v a span) = tt
  expression_bare (t.Read place a) = place_bare place
  expression_bare (t.Unary operator a x span) = expression_bare x
  expression_bare (t.Convert a written x span) = expression_bare x
  expression_bare (t.Not x span) = expression_bare x
  expression_bare (t.Binary operator a x y span) = (expression_bare x, expression_bare y)
  expression_bare (t.Logic operator x y span) = (expression_bare x, expression_bare y)
  expression_bare (t.Choice x y z a span) = (expression_bare x, expression_bare y, expression_bare z)
  expression_bare (t.Call k a) = call_bare k
  expression_bare (t.Input span) = tt

  structure_bare : (x : t.StructureValue) → ShortStructure (bare_structure x)
  structure_bare (t.Stored place) = place_bare place
  structure_bare (t.Returned k) = call_bare k

  call_bare : (x : t.FunctionCall) → ShortCall (bare_call x)
  call_bare (t.call f given result span) = arguments_bare given

  argument_bare : (x : t.Argument) → ShortArgument (bare_argument x)
  argument_bare (t.NumberArgument x) = expression_bare x
  argument_bare (t.StructureArgument value copy) = structure_bare value
  argument_bare (t.ArrayArgument place k) = place_bare place
  argument_bare (t.AgainArgument array span) = tt

  arguments_bare : (x : t.Arguments) → ShortArguments (bare_arguments x)
  arguments_bare t.no_arguments = tt
  arguments_bare (t.arguments a rest) = (argument_bare a, arguments_bare rest)

-- ---- probes

stands_beside : (o : Stand) (d u wide : ℕ) → d ≤ u → Stands o d → Stands (beside o wide) u
stands_beside (Loose Plain) d u wide le ok = tt
stands_beside (Loose Controlling) d u wide le ok = tt
stands_beside (Loose Inner) d u wide le ok = absurd ok
stands_beside (InTree k c) d u wide le ok = omega (arith, le, ok)

role_beside : (o : Stand) (wide : ℕ) → role_of (beside o wide) ≡ role_of o
role_beside (Loose role) wide = refl
role_beside (InTree k c) wide = refl

-- an operator that evaluates both of its operands leaves room for the decisions in them
module _ (operator : Operator) (a b : Node) (span : Span) (st : Stand) (d most : ℕ) where
  abbrev BothFit : Option FullOperator → Type 0
  BothFit which =
      let x : Node = n.evaluates_both which operator a b span in
      let o : Stand = under which (operand st d x) in
      let z : ℕ = inner st d x in
      let y : ℕ = z + roots (role_of o) a in
      (d + one_where (is_root (role_of st) x) ≤ most)
      × Stands o z × (z + roots (role_of o) a ≤ most)
      × Stands (beside o (width a)) y × (y + roots (role_of (beside o (width a))) b ≤ most)

  both_fit : (which : Option FullOperator) → Stands st d → d + roots (role_of st) (n.evaluates_both which operator a b span) ≤ most → BothFit which
  both_fit (Some full) ok le =
      let x : Node = n.evaluates_both (Some full) operator a b span in
      let o : Stand = operand st d x in
      let z : ℕ = inner st d x in
      let i = inner_is st d x in
      let s = ap (λ (r : Role). roots r a) (role_same st d x ok) in
      let u = ap (λ (r : Role). roots r b) (role_same st d x ok) in
      let w = ap (λ (r : Role). roots r b) (role_beside o (width a)) in
      let y : ℕ = z + roots (role_of o) a in
      let zy : z ≤ y = omega arith in (
        omega (arith, le),
        stands_inside st d x ok,
        omega (arith, le, i, s),
        stands_beside o z y (width a) zy (stands_inside st d x ok),
        omega (arith, le, i, s, u, w),
      )
  both_fit None ok le =
      let i = inner_is st d (n.evaluates_both None operator a b span) in
      (omega (arith, le), tt, omega (arith, le, i), tt, omega (arith, le, i))

module _ (m : Map) (first most : ℕ) (few : most ≤ 4294967295) (bases : (k : ℕ) → IsShort (base_of (mapped m first k))) (adds : (k c : ℕ) → IsShort (increment_of (mapped m first k) c)) where
  either_short : (b : Bool) (x y : p.Expression) → (b ≡ true → Short x) → (b ≡ false → Short y) → Short (if b then x else y)
  either_short true x y h k = h refl
  either_short false x y h k = k refl

  condition_short : (k c : ℕ) (a : Node) (x : p.Expression) → k < most → Short x → Short (round_condition m first k c a x)
  condition_short k c a x lt h =
      either_short (is_operator a) x (p.Probe (probe.Condition k 0 (increment_of (mapped m first k) c)) x) (λ e. h) (λ e. ((omega (arith, lt, few), omega arith, adds k c), h))

  decision_short : (b : Bool) (d : ℕ) (x y : p.Expression) → d + one_where b ≤ most → (d < most → Short x) → Short y → Short (if b then p.Probe (probe.Decision d (base_of (mapped m first d))) x else y)
  decision_short true d x y le h k = let lt : d < most = omega (arith, le) in ((omega (arith, lt, few), bases d), h lt)
  decision_short false d x y le h k = k

  round_short : (st : Stand) (d : ℕ) (a : Node) (x : p.Expression) → Stands st d → d + one_where (is_root (role_of st) a) ≤ most → Short x → Short (round m first st d a x)
  round_short (Loose role) d a x ok le h =
      decision_short (is_root role a) d (round_condition m first d 0 a x) x le (λ lt. condition_short d 0 a x lt h) h
  round_short (InTree k c) d a x ok le h = condition_short k c a x (omega (arith, ok, le)) h

  mutual
    place_short : (d : ℕ) (x : t.Place) → d + roots Plain (n.place x) ≤ most → ShortPlace (put_place m first d x)
    place_short d (t.Local slot span) le = tt
    place_short d (t.Static slot span) le = tt
    place_short d (t.Parameter array stride index span) le = put_short (Loose Plain) d index tt (omega (arith, le))
    place_short d (t.Item array k stride index span) le =
        (place_short d array (omega (arith, le)), put_short (Loose Plain) (d + roots Plain (n.place array)) index tt (omega (arith, le)))
    place_short d (t.Member structure k offset span) le = place_short d structure (omega (arith, le))

    put_short : (st : Stand) (d : ℕ) (x : t.Expression) → Stands st d → d + roots (role_of st) (n.expression x) ≤ most → Short (put m first st d x)
    put_short st d (t.Constant v a span) ok le = round_short st d _ (p.Constant v a span) ok (omega (arith, le)) tt
    put_short st d (t.Read place a) ok le =
        let i = inner_is st d (n.expression (t.Read place a)) in
        round_short st d _ _ ok (omega (arith, le)) (place_short (inner st d (n.expression (t.Read place a))) place (omega (arith, le, i)))
    put_short st d (t.Unary operator a e span) ok le =
        let i = inner_is st d (n.expression (t.Unary operator a e span)) in
        round_short st d _ _ ok (omega (arith, le)) (put_short (Loose Plain) (inner st d (n.expression (t.Unary operator a e span))) e tt (omega (arith, le, i)))
    put_short st d (t.Convert a written e span) ok le =
        let i = inner_is st d (n.expression (t.Convert a written e span)) in
        round_short st d _ _ ok (omega (arith, le)) (put_short (Loose Plain) (inner st d (n.expression (t.Convert a written e span))) e tt (omega (arith, le, i)))
    put_short st d (t.Not e span) ok le =
        let a : Node = n.expression (t.Not e span) in
        let i = inner_is st d a in
        let s = ap (λ (r : Role). roots r (n.expression e)) (role_same st d a ok) in
        round_short st d a _ ok (omega (arith, le)) (put_short (operand st d a) (inner st d a) e (stands_inside st d a ok) (omega (arith, le, i, s)))
    put_short st d (t.Binary operator a e f span) ok le =
        let z : ℕ = inner st d (n.expression (t.Binary operator a e f span)) in
        let o : Stand = under (n.full_operator operator e f) (operand st d (n.expression (t.Binary operator a e f span))) in
        let both = both_fit operator (n.expression e) (n.expression f) span st d most (n.full_operator operator e f) ok le in
        round_short st d _ _ ok both.0
        (put_short o z e both.1 both.2, put_short (beside o (width (n.expression e))) (z + roots (role_of o) (n.expression e)) f both.3 both.4)
    put_short st d (t.Logic operator e f span) ok le =
        let a : Node = n.expression (t.Logic operator e f span) in
        let o : Stand = operand st d a in
        let z : ℕ = inner st d a in
        let i = inner_is st d a in
        let s = ap (λ (r : Role). roots r (n.expression e)) (role_same st d a ok) in
        let u = ap (λ (r : Role). roots r (n.expression f)) (role_same st d a ok) in
        let w = ap (λ (r : Role). roots r (n.expression f)) (role_beside o (width (n.expression e))) in
        let y : ℕ = z + roots (role_of o) (n.expression e) in
        let zy : z ≤ y = omega arith in
        round_short st d a _ ok (omega (arith, le)) (
          put_short o z e (stands_inside st d a ok) (omega (arith, le, i, s)),
          put_short (beside o (width (n.expression e))) y f (stands_beside o z y (width (n.expression e)) zy (stands_inside st d a ok)) (omega (arith, le, i, s, u, w)),
        )
    put_short st d (t.Choice e f g a span) ok le =
        let z : ℕ = inner st d (n.expression (t.Choice e f g a span)) in
        let i = inner_is st d (n.expression (t.Choice e f g a span)) in
        let y : ℕ = z + roots Controlling (n.expression e) in
        round_short st d _ _ ok (omega (arith, le))
        (put_short (Loose Controlling) z e tt (omega (arith, le, i)), put_short (Loose Plain) y f tt (omega (arith, le, i)), put_short (Loose Plain) (y + roots Plain (n.expression f)) g tt (omega (arith, le, i)))
    put_short st d (t.Call k a) ok le =
        let i = inner_is st d (n.expression (t.Call k a)) in
        round_short st d _ _ ok (omega (arith, le)) (call_short (inner st d (n.expression (t.Call k a))) k (omega (arith, le, i)))
    put_short st d (t.Input span) ok le = round_short st d _ (p.Input span) ok (omega (arith, le)) tt

    structure_short : (d : ℕ) (x : t.StructureValue) → d + roots Plain (n.structure x) ≤ most → ShortStructure (put_structure m first d x)
    structure_short d (t.Stored place) le = place_short d place le
    structure_short d (t.Returned k) le = call_short d k (omega (arith, le))

    call_short : (d : ℕ) (x : t.FunctionCall) → d + roots_in (n.call_parts x) ≤ most → ShortCall (put_call m first d x)
    call_short d (t.call f given result span) le = arguments_short d given le

    argument_short : (d : ℕ) (x : t.Argument) → d + roots Plain (n.argument x) ≤ most → ShortArgument (put_argument m first d x)
    argument_short d (t.NumberArgument e) le = put_short (Loose Plain) d e tt le
    argument_short d (t.StructureArgument value copy) le = structure_short d value le
    argument_short d (t.ArrayArgument place k) le = place_short d place le
    argument_short d (t.AgainArgument array span) le = tt

    arguments_short : (d : ℕ) (x : t.Arguments) → d + roots_in (n.arguments x) ≤ most → ShortArguments (put_arguments m first d x)
    arguments_short d t.no_arguments le = tt
    arguments_short d (t.arguments a rest) le =
        (argument_short d a (omega (arith, le)), arguments_short (d + roots Plain (n.argument a)) rest (omega (arith, le)))

  effect_short : (d : ℕ) (x : t.Effect) → d + roots Plain (n.effect x) ≤ most → ShortEffect (put_effect m first d x)
  effect_short d (t.Assign target a e span) le =
      (place_short d target (omega (arith, le)), put_short (Loose Plain) (d + roots Plain (n.place target)) e tt (omega (arith, le)))
  effect_short d (t.Update target a operator common e span) le =
      (place_short d target (omega (arith, le)), put_short (Loose Plain) (d + roots Plain (n.place target)) e tt (omega (arith, le)))
  effect_short d (t.Copy target value k span) le =
      (place_short d target (omega (arith, le)), structure_short (d + roots Plain (n.place target)) value (omega (arith, le)))
  effect_short d (t.NumberEffect e whole) le = put_short (Loose Plain) d e tt le
  effect_short d (t.StructureEffect value whole) le = structure_short d value le
  effect_short d (t.CallEffect k) le = call_short d k (omega (arith, le))
  effect_short d (t.Output e span) le = put_short (Loose Plain) d e tt (omega (arith, le))
  effect_short d (t.ChoiceEffect e a b span) le = (
    put_short (Loose Controlling) d e tt (omega (arith, le)),
    effect_short (d + roots Controlling (n.expression e)) a (omega (arith, le)),
    effect_short (d + roots Controlling (n.expression e) + roots Plain (n.effect a)) b (omega (arith, le)),
  )
  effect_short d (t.Discard a span) le = effect_short d a (omega (arith, le))

  effects_short : (d : ℕ) (xs : List t.Effect) → d + roots_in (n.effects xs) ≤ most → ShortEffects (put_effects m first d xs)
  effects_short d [] le = tt
  effects_short d (x ∷ xs) le = (effect_short d x (omega (arith, le)), effects_short (d + roots Plain (n.effect x)) xs (omega (arith, le)))

  mutual
    initializer_short : (d : ℕ) (x : t.Initializer) → d + roots Plain (n.initializer x) ≤ most → ShortInitializer (put_initializer m first d x)
    initializer_short d (t.NumberInitializer e) le = put_short (Loose Plain) d e tt le
    initializer_short d (t.StructureInitializer value k) le = structure_short d value le
    initializer_short d (t.ListInitializer items k) le = initializers_short d items (omega (arith, le))
    initializer_short d (t.ZeroInitializer e k) le = expression_bare e

    initializers_short : (d : ℕ) (x : t.Initializers) → d + roots_in (n.initializers x) ≤ most → ShortInitializers (put_initializers m first d x)
    initializers_short d t.no_initializers le = tt
    initializers_short d (t.initializers x rest) le =
        (initializer_short d x (omega (arith, le)), initializers_short (d + roots Plain (n.initializer x)) rest (omega (arith, le)))

  initial_short : (d : ℕ) (x : Option t.Initializer) → d + roots Plain (n.initial x) ≤ most → ShortInitial (put_initial m first d x)
  initial_short d None le = tt
  initial_short d (Some x) le = initializer_short d x le

  declarators_short : (d : ℕ) (xs : List t.Declarator) → d + roots_in (n.declarators xs) ≤ most → ShortDeclarators (put_declarators m first d xs)
  declarators_short d [] le = tt
  declarators_short d (x ∷ xs) le = (initial_short d x.value (omega (arith, le)), declarators_short (d + roots Plain (n.initial x.value)) xs (omega (arith, le)))

  start_short : (d : ℕ) (x : t.ForStart) → d + roots Plain (n.start x) ≤ most → ShortStart (put_start m first d x)
  start_short d (t.StartEffects xs) le = effects_short d xs (omega (arith, le))
  start_short d (t.StartDeclaration xs) le = declarators_short d xs (omega (arith, le))

  test_short : (d : ℕ) (x : Option t.Expression) → d + roots Plain (n.optional_test x) ≤ most → ShortTest (put_optional m first d x)
  test_short d None le = tt
  test_short d (Some e) le = put_short (Loose Controlling) d e tt (omega (arith, le))

  return_short : (d : ℕ) (x : t.ReturnValue) → d + roots Plain (n.return_value x) ≤ most → ShortValue (put_return m first d x)
  return_short d t.ReturnNothing le = tt
  return_short d (t.ReturnNumber e) le = put_short (Loose Plain) d e tt le
  return_short d (t.ReturnStructure value k) le = structure_short d value le

  -- ---- statements

  abbrev Great : ℕ
  Great = 4294967295

  bit_short : (b : Bool) (k : ℕ) → IsShort k → IsShortBit (if b then Some k else None)
  bit_short true k h = h
  bit_short false k h = tt

  mark_short : (b : Bool) (at : At m first) → IsShort at.switch → IsShort at.label → IsShortMark (mark_unless_default m first b at)
  mark_short true at h k = tt
  mark_short false at h k = (h, k)

  -- an absent `default` takes a label
  past_absent : (b : Bool) (l x : ℕ) → l + ((unless_default b).labels + x) ≤ Great → (if b then l else l + 1) + x ≤ Great
  past_absent true l x h = omega (arith, h)
  past_absent false l x h = omega (arith, h)

  mutual
    statement_short : (r : ℕ) (at : At m first) (x : t.Statement) → IsShort r → at.decision + roots Plain (n.statement x) ≤ most → at.switch + switches x ≤ most → at.statement + (points_of x).statements ≤ Great → at.exit + (points_of x).exits ≤ Great → at.label + (points_of x).labels ≤ Great → ShortStatement (put_statement m first r at x)
    statement_short r at (t.Compound items span) h le sw s e l = statements_short r at items h (omega (arith, le)) (omega (arith, sw)) (omega (arith, s)) (omega (arith, e)) (omega (arith, l))
    statement_short r at (t.Label v span) h le sw s e l = (h, omega (arith, l))
    statement_short r at (t.Declaration xs span) h le sw s e l =
        (bit_short (initializes xs) at.statement (omega (arith, s)), declarators_short at.decision xs (omega (arith, le)))
    statement_short r at (t.Null span) h le sw s e l = omega (arith, s)
    statement_short r at (t.EffectStatement x span) h le sw s e l = (omega (arith, s), effect_short at.decision x (omega (arith, le)))
    statement_short r at (t.If c x keyword span) h le sw s e l = (
      omega (arith, s),
      put_short (Loose Controlling) at.decision c tt (omega (arith, le)),
      statement_short r (decided m first (roots Controlling (n.expression c)) (table.within m first at)) x h (omega (arith, le)) (omega (arith, sw)) (omega (arith, s)) (omega (arith, e)) (omega (arith, l)),
    )
    statement_short r at (t.IfElse c x y keyword span) h le sw s e l =
        let z : At m first = decided m first (roots Controlling (n.expression c)) (table.within m first at) in (
          omega (arith, s),
          put_short (Loose Controlling) at.decision c tt (omega (arith, le)),
          statement_short r z x h (omega (arith, le)) (omega (arith, sw)) (omega (arith, s)) (omega (arith, e)) (omega (arith, l)),
          statement_short r (table.past m first x z) y h (omega (arith, le)) (omega (arith, sw)) (omega (arith, s)) (omega (arith, e)) (omega (arith, l)),
        )
    statement_short r at (t.Switch c items keyword span) h le sw s e l =
        let b : Bool = has_default items in
        let z : At m first = decided m first (roots Plain (n.expression c)) (table.in_switch m first b at) in
        let turn : IsShort at.switch = omega (arith, sw, few) in
        let l1 : at.label + ((unless_default b).labels + (points_of_all items).labels) ≤ Great = omega (arith, l) in
        let label = past_absent b at.label (points_of_all items).labels l1 in (
          omega (arith, s),
          (turn, put_short (Loose Plain) at.decision c tt (omega (arith, le))),
          statements_short at.switch z items turn (omega (arith, le)) (omega (arith, sw)) (omega (arith, s)) (omega (arith, e)) label,
          mark_short b at turn (omega (arith, l)),
        )
    statement_short r at (t.For start test step x keyword span) h le sw s e l =
        let d : ℕ = at.decision + roots Plain (n.start start) in
        let y : ℕ = d + roots Plain (n.optional_test test) in
        let z : At m first = decided m first (roots Plain (n.start start) + roots Plain (n.optional_test test) + roots_in (n.effects step)) (table.within m first at) in (
          omega (arith, s),
          start_short at.decision start (omega (arith, le)),
          test_short d test (omega (arith, le)),
          effects_short y step (omega (arith, le)),
          statement_short r z x h (omega (arith, le)) (omega (arith, sw)) (omega (arith, s)) (omega (arith, e)) (omega (arith, l)),
        )
    statement_short r at (t.DoWhile x c keyword span) h le sw s e l = (
      omega (arith, s),
      statement_short r (table.within m first at) x h (omega (arith, le)) (omega (arith, sw)) (omega (arith, s)) (omega (arith, e)) (omega (arith, l)),
      put_short (Loose Controlling) (at.decision + roots Plain (n.statement x)) c tt (omega (arith, le)),
    )
    statement_short r at (t.Break span) h le sw s e l = omega (arith, s)
    statement_short r at (t.Continue span) h le sw s e l = omega (arith, s)
    statement_short r at (t.Return value span) h le sw s e l =
        (omega (arith, s), omega (arith, e), return_short at.decision value (omega (arith, le)))

    statements_short : (r : ℕ) (at : At m first) (xs : t.Statements) → IsShort r → at.decision + roots_in (n.statements xs) ≤ most → at.switch + switches_all xs ≤ most → at.statement + (points_of_all xs).statements ≤ Great → at.exit + (points_of_all xs).exits ≤ Great → at.label + (points_of_all xs).labels ≤ Great → ShortStatements (put_statements m first r at xs)
    statements_short r at t.no_statements h le sw s e l = tt
    statements_short r at (t.statements x rest) h le sw s e l = (
      statement_short r at x h (omega (arith, le)) (omega (arith, sw)) (omega (arith, s)) (omega (arith, e)) (omega (arith, l)),
      statements_short r (table.past m first x at) rest h (omega (arith, le)) (omega (arith, sw)) (omega (arith, s)) (omega (arith, e)) (omega (arith, l)),
    )

-- ---- functions

abbrev pub all_of : List t.Function → Points
all_of fs = points_before fs (length fs)

exit_short : (b : Bool) (k : ℕ) → (b ≡ true → IsShort k) → IsShortBit (if b then Some k else None)
exit_short true k h = h refl
exit_short false k h = tt

mutual
  few_switches : (s : t.Statement) → switches s ≤ (points_of s).statements
  few_switches (t.Compound items span) = few_switches_in items
  few_switches (t.Label v span) = omega arith
  few_switches (t.Declaration declarators span) = omega arith
  few_switches (t.Null span) = omega arith
  few_switches (t.EffectStatement effect span) = omega arith
  few_switches (t.If e s keyword span) = let a = few_switches s in omega (arith, a)
  few_switches (t.IfElse e s u keyword span) =
      let a = few_switches s in
      let b = few_switches u in
      omega (arith, a, b)
  few_switches (t.Switch e items keyword span) = let a = few_switches_in items in omega (arith, a)
  few_switches (t.For start test step s keyword span) = let a = few_switches s in omega (arith, a)
  few_switches (t.DoWhile s e keyword span) = let a = few_switches s in omega (arith, a)
  few_switches (t.Break span) = omega arith
  few_switches (t.Continue span) = omega arith
  few_switches (t.Return value span) = omega arith

  few_switches_in : (items : t.Statements) → switches_all items ≤ (points_of_all items).statements
  few_switches_in t.no_statements = omega arith
  few_switches_in (t.statements s rest) =
      let a = few_switches s in
      let b = few_switches_in rest in
      omega (arith, a, b)

pub functions_short : (m : Map) (bases : (i : ℕ) → IsShort (base_of (slice_get m.decisions i))) (adds : (i c : ℕ) → IsShort (increment_of (slice_get m.decisions i) c)) (number first : ℕ) (q : Points) (fs : List t.Function) → number + length fs ≤ 4294967295 → roots_in (n.functions fs) + (all_of fs).statements ≤ 4294967295 → first_statement m + (q.statements + (all_of fs).statements) ≤ 4294967295 → first_exit m + (q.exits + (all_of fs).exits) ≤ 4294967295 → first_label m + (q.labels + (all_of fs).labels) ≤ 4294967295 → ShortFunctions (put_functions m number first q fs)
functions_short m bases adds number first q [] a d s e l = tt
functions_short m bases adds number first q (f ∷ fs) a d s e l =
    let d1 : (roots Plain (n.function f) + roots_in (n.functions fs)) + ((points_of_function f).statements + (all_of fs).statements) ≤ 4294967295 = d in
    let s1 : first_statement m + (q.statements + ((points_of_function f).statements + (all_of fs).statements)) ≤ 4294967295 = s in
    let e1 : first_exit m + (q.exits + ((points_of_function f).exits + (all_of fs).exits)) ≤ 4294967295 = e in
    let l1 : first_label m + (q.labels + ((points_of_function f).labels + (all_of fs).labels)) ≤ 4294967295 = l in
    let turns = few_switches_in f.body in
    let most : ℕ = decisions_in f + switches_all f.body in
    let few : most ≤ 4294967295 = omega (arith, d1, turns) in (
      (
        few,
        omega (arith, a),
        exit_short (all_complete f.body) (exit_bit m (q.exits + (points_of_all f.body).exits)) (λ c. omega (arith, e1)),
        statements_short m first most few (λ k. bases (first + k)) (λ k c. adds (first + k) c) 0 (record {
          exit = exit_bit m q.exits;
          statement = statement_bit m q.statements;
          label = label_bit m q.labels;
          decision = 0;
          switch = decisions_in f;
        }) f.body (omega arith) (omega arith) (omega arith) (omega (arith, s1)) (omega (arith, e1)) (omega (arith, l1)),
      ),
      functions_short m bases adds (number + 1) (first + decisions_in f) (q ⊕ points_of_function f) fs
          (omega (arith, a)) (omega (arith, d1)) (omega (arith, s1)) (omega (arith, e1)) (omega (arith, l1)),
    )
