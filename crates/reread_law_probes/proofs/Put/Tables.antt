-- The probes of the table stand where the walk looks for them.
use Rattle.std.proofs.Common.{◌≡◌, ◌∙◌, refl, sym, ap, subst, ℕ, ◌+◌, Bool, true, false, if◌then◌else◌, List, [], ◌∷◌, Option, Some, None}
use Rattle.mc_span.specs.declared.span.Span.{Span}
use Rattle.reread_pieces.specs.declared.piece.What.TheVariants as what
use Rattle.mc_typed.specs.declared.probes.Probe.TheVariants as probe
use Rattle.mc_typed.specs.Sound.{type_of}
use Rattle.mc_typed.specs.Tree.{span_of, span_of_place, span_of_call}
use Rattle.mc_typed.specs.Tree as t
use Rattle.decide_rules.specs.declared.operators.FullOperator.{FullOperator}
use Rattle.decide_rules.specs.declared.role.Role.TheVariants.{Controlling, Inner, Plain}
use Rattle.decide_rules.specs.Nodes.{Node, full_operator, is_flag}
use Rattle.decide_rules.specs.Nodes as n
use Rattle.decide_rules.specs.Roots.{is_root}
use Rattle.decide_rules.specs.Conditions.{width, is_operator}
use Rattle.decide_rules.specs.Counts.{roots, roots_in}
use Rattle.mc_steps.specs.Points.{Points, ◌⊕◌, points_of_function, has_default, initializes}
use Rattle.mc_probe.specs.Bare.{bare_expression}
use Rattle.mc_probe.specs.Erase.{erase_place, erase_expression, erase_call}
use Rattle.mc_probe.specs.Tree as p
use Rattle.mc_probe.specs.Maps.{Map, exit_bit, statement_bit, label_bit}
use Rattle.mc_probe.specs.Table.{Stand, Loose, InTree, role_of, operand, under, beside, inner, base_of, increment_of, mapped, round_condition, round, put, put_place, put_structure, put_call, put_argument, put_arguments, put_effect, put_effects, put_initializer, put_initializers, put_initial, put_declarators, put_start, put_optional, put_return, At, decided, mark_unless_default, put_statement, put_statements, put_functions, decisions_in}
use Rattle.mc_probe.specs.Table as table
use Rattle.mc_probe.proofs.Backs.{expression_back}
use Rattle.laws_simulation.proofs.Erased.{declarators_away, statements_away}
use Rattle.reread_law_rows.specs.inserted.Rows.{extent, row_of_probe}
use Rattle.reread_put_back.specs.Back.{has_round, is_round}
use Rattle.reread_law_probes.specs.put.Conversions.{IsWritten, IsFlagged, AreFlagged, ConvertsPlace, Converts, ConvertsStructure, ConvertsCall, ConvertsArgument, ConvertsArguments, ConvertsEffect, ConvertsEffects, ConvertsInitializer, ConvertsInitializers, ConvertsInitial, ConvertsDeclarators, ConvertsStart, ConvertsOptional, ConvertsValue, ConvertsStatement, ConvertsStatements, ConvertsFunctions}
use Rattle.reread_law_probes.specs.put.Takes.{IsSetWhere, IsSetUnless, IsInside, TakesPlace, Takes, TakesStructure, TakesCall, TakesArgument, TakesArguments, TakesEffect, TakesEffects, TakesInitializer, TakesInitializers, TakesInitial, TakesDeclarators, TakesStart, TakesTest, TakesValue, TakesStatement, TakesStatements, TakesFunctions}

-- ---- how an expression stands, and its conversion

-- An expression that stands so is no implied conversion, or one of a `_Bool` in the tree of a
-- decision.
abbrev Suits : Stand → t.Expression → Type 0
Suits (Loose Plain) e = Unit {0}
Suits (Loose Controlling) e = IsWritten e
Suits (Loose Inner) e = IsWritten e
Suits (InTree k c) e = IsFlagged e

written_flagged : (e : t.Expression) → IsWritten e → IsFlagged e
written_flagged (t.Constant v a span) h = tt
written_flagged (t.Read place a) h = tt
written_flagged (t.Unary operator a e span) h = tt
written_flagged (t.Convert a true e span) h = tt
written_flagged (t.Convert a false e span) h = absurd h
written_flagged (t.Not e span) h = tt
written_flagged (t.Binary operator a e f span) h = tt
written_flagged (t.Logic operator e f span) h = tt
written_flagged (t.Choice e f g a span) h = tt
written_flagged (t.Call k a) h = tt
written_flagged (t.Input span) h = tt

suits_where : (b : Bool) (d : ℕ) (e : t.Expression) → IsFlagged e → Suits (if b then InTree d 0 else Loose Plain) e
suits_where true d e h = h
suits_where false d e h = tt

suits_operand : (st : Stand) (d : ℕ) (a : Node) (e : t.Expression) → IsFlagged e → Suits (operand st d a) e
suits_operand (Loose role) d a e h = suits_where (is_root role a) d e h
suits_operand (InTree k c) d a e h = h

suits_beside : (o : Stand) (w : ℕ) (e : t.Expression) → Suits o e → Suits (beside o w) e
suits_beside (Loose role) w e h = h
suits_beside (InTree k c) w e h = h

suits_left : (which : Option FullOperator) (st : Stand) (d : ℕ) (a : Node) (e f : t.Expression) → AreFlagged which e f → Suits (under which (operand st d a)) e
suits_left None st d a e f h = tt
suits_left (Some o) st d a e f h = suits_operand st d a e h.0

suits_right : (which : Option FullOperator) (st : Stand) (d : ℕ) (a : Node) (w : ℕ) (e f : t.Expression) → AreFlagged which e f → Suits (beside (under which (operand st d a)) w) f
suits_right None st d a w e f h = tt
suits_right (Some o) st d a w e f h = suits_beside (operand st d a) w f (suits_operand st d a f h.1)

-- the probe of a `switch` stands round each expression
switch_round : (e : t.Expression) (r : ℕ) → has_round e (what.Switch r) ≡ true
switch_round (t.Constant v a span) r = refl
switch_round (t.Read place a) r = refl
switch_round (t.Unary operator a e span) r = refl
switch_round (t.Convert a true e span) r = refl
switch_round (t.Convert a false e span) r = refl
switch_round (t.Not e span) r = refl
switch_round (t.Binary operator a e f span) r = refl
switch_round (t.Logic operator e f span) r = refl
switch_round (t.Choice e f g a span) r = refl
switch_round (t.Call k a) r = refl
switch_round (t.Input span) r = refl

module _ (m : Map) (first : ℕ) where
  -- ---- the probes round an expression leave its place and its type

  either_away : (b : Bool) (x y : p.Expression) → erase_expression x ≡ erase_expression y → erase_expression (if b then x else y) ≡ erase_expression y
  either_away true x y h = h
  either_away false x y h = refl

  condition_away : (k c : ℕ) (a : Node) (x : p.Expression) → erase_expression (round_condition m first k c a x) ≡ erase_expression x
  condition_away k c a x = go (is_operator a)
    where
      go : (b : Bool) → erase_expression (if b then x else p.Probe (probe.Condition k 0 (increment_of (mapped m first k) c)) x) ≡ erase_expression x
      go true = refl
      go false = refl

  round_away : (st : Stand) (d : ℕ) (a : Node) (x : p.Expression) → erase_expression (round m first st d a x) ≡ erase_expression x
  round_away (Loose role) d a x =
      either_away (is_root role a) (p.Probe (probe.Decision d (base_of (mapped m first d))) (round_condition m first d 0 a x)) x (condition_away d 0 a x)
  round_away (InTree k c) d a x = condition_away k c a x

  place_extent : (d : ℕ) (x : t.Place) → span_of_place (erase_place (put_place m first d x)) ≡ span_of_place x
  place_extent d (t.Local slot span) = refl
  place_extent d (t.Static slot span) = refl
  place_extent d (t.Parameter array stride index span) = refl
  place_extent d (t.Item array k stride index span) = refl
  place_extent d (t.Member structure i offset span) = refl

  call_extent : (d : ℕ) (x : t.FunctionCall) → span_of_call (erase_call (put_call m first d x)) ≡ span_of_call x
  call_extent d (t.call f given result span) = refl

  put_extent : (st : Stand) (d : ℕ) (x : t.Expression) → extent (put m first st d x) ≡ span_of x
  put_extent st d (t.Constant v a span) = ap span_of (round_away st d _ (p.Constant v a span))
  put_extent st d (t.Read place a) = ap span_of (round_away st d _ _) ∙ place_extent (inner st d (n.expression (t.Read place a))) place
  put_extent st d (t.Unary operator a e span) = ap span_of (round_away st d _ _)
  put_extent st d (t.Convert a written e span) = ap span_of (round_away st d _ _)
  put_extent st d (t.Not e span) = ap span_of (round_away st d _ _)
  put_extent st d (t.Binary operator a e f span) = ap span_of (round_away st d _ _)
  put_extent st d (t.Logic operator e f span) = ap span_of (round_away st d _ _)
  put_extent st d (t.Choice e f g a span) = ap span_of (round_away st d _ _)
  put_extent st d (t.Call k a) = ap span_of (round_away st d _ _) ∙ call_extent (inner st d (n.expression (t.Call k a))) k
  put_extent st d (t.Input span) = ap span_of (round_away st d _ (p.Input span))

  put_type : (st : Stand) (d : ℕ) (x : t.Expression) → type_of (erase_expression (put m first st d x)) ≡ type_of x
  put_type st d (t.Constant v a span) = ap type_of (round_away st d _ (p.Constant v a span))
  put_type st d (t.Read place a) = ap type_of (round_away st d _ _)
  put_type st d (t.Unary operator a e span) = ap type_of (round_away st d _ _)
  put_type st d (t.Convert a written e span) = ap type_of (round_away st d _ _)
  put_type st d (t.Not e span) = ap type_of (round_away st d _ _)
  put_type st d (t.Binary operator a e f span) = ap type_of (round_away st d _ _)
  put_type st d (t.Logic operator e f span) = ap type_of (round_away st d _ _)
  put_type st d (t.Choice e f g a span) = ap type_of (round_away st d _ _)
  put_type st d (t.Call k a) = ap type_of (round_away st d _ _)
  put_type st d (t.Input span) = ap type_of (round_away st d _ (p.Input span))

  -- ---- an operand of an implied conversion

  inside_where : (b : Bool) (d : ℕ) (y x : p.Expression) → IsInside x → IsInside (if b then p.Probe (probe.Decision d (base_of (mapped m first d))) y else x)
  inside_where true d y x h = refl
  inside_where false d y x h = h

  put_inside : (d : ℕ) (x : t.Expression) → IsWritten x → IsInside (put m first (Loose Plain) d x)
  put_inside d (t.Constant v a span) h = tt
  put_inside d (t.Read place a) h = tt
  put_inside d (t.Unary operator a e span) h = tt
  put_inside d (t.Convert a true e span) h = tt
  put_inside d (t.Convert a false e span) h = absurd h
  put_inside d (t.Not e span) h = inside_where (is_root Plain (n.expression (t.Not e span))) d _ _ tt
  put_inside d (t.Binary operator a e f span) h = inside_where (is_root Plain (n.expression (t.Binary operator a e f span))) d _ _ tt
  put_inside d (t.Logic operator e f span) h = inside_where (is_root Plain (n.expression (t.Logic operator e f span))) d _ _ tt
  put_inside d (t.Choice e f g a span) h = tt
  put_inside d (t.Call k a) h = tt
  put_inside d (t.Input span) h = tt

  -- ---- probes round what is no implied conversion

  -- each probe may stand round it
  abbrev IsOpen : p.Expression → Type 0
  IsOpen x = (q : _) → has_round (erase_expression x) (row_of_probe q) ≡ is_round (row_of_probe q)

  condition_takes : (k c : ℕ) (a : Node) (x : p.Expression) → IsOpen x → Takes x → Takes (round_condition m first k c a x)
  condition_takes k c a x o h = go (is_operator a)
    where
      go : (b : Bool) → Takes (if b then x else p.Probe (probe.Condition k 0 (increment_of (mapped m first k) c)) x)
      go true = h
      go false = (o (probe.Condition k 0 (increment_of (mapped m first k) c)), h)

  decision_takes : (b : Bool) (d : ℕ) (y x : p.Expression) → has_round (erase_expression y) (what.Decision d (base_of (mapped m first d))) ≡ true → Takes y → Takes x → Takes (if b then p.Probe (probe.Decision d (base_of (mapped m first d))) y else x)
  decision_takes true d y x e h k = (e, h)
  decision_takes false d y x e h k = k

  round_takes : (st : Stand) (d : ℕ) (a : Node) (x : p.Expression) → IsOpen x → Takes x → Takes (round m first st d a x)
  round_takes (Loose role) d a x o h =
      let w : _ = what.Decision d (base_of (mapped m first d)) in
      decision_takes (is_root role a) d (round_condition m first d 0 a x) x
      (ap (λ (e : t.Expression). has_round e w) (condition_away d 0 a x) ∙ o (probe.Decision d (base_of (mapped m first d))))
      (condition_takes d 0 a x o h) h
  round_takes (InTree k c) d a x o h = condition_takes k c a x o h

  -- round an implied conversion
  convert_takes : (st : Stand) (d : ℕ) (a : _) (e : t.Expression) (span : Span) (y : p.Expression) → type_of (erase_expression y) ≡ type_of e → Suits st (t.Convert a false e span) → Takes (p.Convert a false y span) → Takes (round m first st d (n.expression (t.Convert a false e span)) (p.Convert a false y span))
  convert_takes (Loose Plain) d a e span y same s h = h
  convert_takes (Loose Controlling) d a e span y same s h = absurd s
  convert_takes (Loose Inner) d a e span y same s h = absurd s
  convert_takes (InTree k c) d a e span y same s h = (ap is_flag same ∙ s, h)

  mutual
    place_takes : (d : ℕ) (x : t.Place) → ConvertsPlace x → TakesPlace (put_place m first d x)
    place_takes d (t.Local slot span) h = tt
    place_takes d (t.Static slot span) h = tt
    place_takes d (t.Parameter array stride index span) h = put_takes (Loose Plain) d index tt h
    place_takes d (t.Item array k stride index span) h =
        (place_takes d array h.0, put_takes (Loose Plain) (d + roots Plain (n.place array)) index tt h.1)
    place_takes d (t.Member structure k offset span) h = place_takes d structure h

    put_takes : (st : Stand) (d : ℕ) (x : t.Expression) → Suits st x → Converts x → Takes (put m first st d x)
    put_takes st d (t.Constant v a span) s h = round_takes st d _ (p.Constant v a span) (λ q. refl) tt
    put_takes st d (t.Read place a) s h =
        round_takes st d _ (p.Read (put_place m first (inner st d (n.expression (t.Read place a))) place) a) (λ q. refl) (place_takes (inner st d (n.expression (t.Read place a))) place h)
    put_takes st d (t.Unary operator a e span) s h =
        let z : ℕ = inner st d (n.expression (t.Unary operator a e span)) in
        round_takes st d _ (p.Unary operator a (put m first (Loose Plain) z e) span) (λ q. refl) (put_takes (Loose Plain) z e tt h)
    put_takes st d (t.Convert a true e span) s h =
        let z : ℕ = inner st d (n.expression (t.Convert a true e span)) in
        round_takes st d _ (p.Convert a true (put m first (Loose Plain) z e) span) (λ q. refl) (tt, put_takes (Loose Plain) z e tt h.1)
    put_takes st d (t.Convert a false e span) s h =
        let z : ℕ = inner st d (n.expression (t.Convert a false e span)) in
        convert_takes st d a e span (put m first (Loose Plain) z e) (put_type (Loose Plain) z e) s
        ((put_extent (Loose Plain) z e ∙ h.0.0, put_inside z e h.0.1), put_takes (Loose Plain) z e tt h.1)
    put_takes st d (t.Not e span) s h =
        let a : Node = n.expression (t.Not e span) in
        round_takes st d a (p.Not (put m first (operand st d a) (inner st d a) e) span) (λ q. refl)
        (put_takes (operand st d a) (inner st d a) e (suits_operand st d a e (written_flagged e h.0)) h.1)
    put_takes st d (t.Binary operator a e f span) s h =
        let x : Node = n.expression (t.Binary operator a e f span) in
        let z : ℕ = inner st d x in
        let which : Option FullOperator = full_operator operator e f in
        let o : Stand = under which (operand st d x) in
        let w : ℕ = width (n.expression e) in
        let y : ℕ = z + roots (role_of o) (n.expression e) in
        round_takes st d x (p.Binary operator a (put m first o z e) (put m first (beside o w) y f) span) (λ q. refl)
        (put_takes o z e (suits_left which st d x e f h.0) h.1, put_takes (beside o w) y f (suits_right which st d x w e f h.0) h.2)
    put_takes st d (t.Logic operator e f span) s h =
        let x : Node = n.expression (t.Logic operator e f span) in
        let z : ℕ = inner st d x in
        let o : Stand = operand st d x in
        let w : ℕ = width (n.expression e) in
        let y : ℕ = z + roots (role_of o) (n.expression e) in
        round_takes st d x (p.Logic operator (put m first o z e) (put m first (beside o w) y f) span) (λ q. refl) (
          put_takes o z e (suits_operand st d x e (written_flagged e h.0)) h.1,
          put_takes (beside o w) y f (suits_beside o w f (suits_operand st d x f (written_flagged f h.2))) h.3,
        )
    put_takes st d (t.Choice e f g a span) s h =
        let z : ℕ = inner st d (n.expression (t.Choice e f g a span)) in
        let y : ℕ = z + roots Controlling (n.expression e) in
        let u : ℕ = y + roots Plain (n.expression f) in
        round_takes st d _ (p.Choice (put m first (Loose Controlling) z e) (put m first (Loose Plain) y f) (put m first (Loose Plain) u g) a span) (λ q. refl)
        (put_takes (Loose Controlling) z e h.0 h.1, put_takes (Loose Plain) y f tt h.2, put_takes (Loose Plain) u g tt h.3)
    put_takes st d (t.Call k a) s h =
        let z : ℕ = inner st d (n.expression (t.Call k a)) in
        round_takes st d _ (p.Call (put_call m first z k) a) (λ q. refl) (call_takes z k h)
    put_takes st d (t.Input span) s h = round_takes st d _ (p.Input span) (λ q. refl) tt

    structure_takes : (d : ℕ) (x : t.StructureValue) → ConvertsStructure x → TakesStructure (put_structure m first d x)
    structure_takes d (t.Stored place) h = place_takes d place h
    structure_takes d (t.Returned k) h = call_takes d k h

    call_takes : (d : ℕ) (x : t.FunctionCall) → ConvertsCall x → TakesCall (put_call m first d x)
    call_takes d (t.call f given result span) h = arguments_take d given h

    argument_takes : (d : ℕ) (x : t.Argument) → ConvertsArgument x → TakesArgument (put_argument m first d x)
    argument_takes d (t.NumberArgument e) h = put_takes (Loose Plain) d e tt h
    argument_takes d (t.StructureArgument value copy) h = structure_takes d value h
    argument_takes d (t.ArrayArgument place k) h = place_takes d place h
    argument_takes d (t.AgainArgument array span) h = tt

    arguments_take : (d : ℕ) (x : t.Arguments) → ConvertsArguments x → TakesArguments (put_arguments m first d x)
    arguments_take d t.no_arguments h = tt
    arguments_take d (t.arguments a rest) h =
        (argument_takes d a h.0, arguments_take (d + roots Plain (n.argument a)) rest h.1)

  -- ---- effects and initializers

  effect_takes : (d : ℕ) (x : t.Effect) → ConvertsEffect x → TakesEffect (put_effect m first d x)
  effect_takes d (t.Assign target a e span) h = (place_takes d target h.0, put_takes (Loose Plain) (d + roots Plain (n.place target)) e tt h.1)
  effect_takes d (t.Update target a operator common e span) h = (place_takes d target h.0, put_takes (Loose Plain) (d + roots Plain (n.place target)) e tt h.1)
  effect_takes d (t.Copy target value k span) h = (place_takes d target h.0, structure_takes (d + roots Plain (n.place target)) value h.1)
  effect_takes d (t.NumberEffect e whole) h = put_takes (Loose Plain) d e tt h
  effect_takes d (t.StructureEffect value whole) h = structure_takes d value h
  effect_takes d (t.CallEffect k) h = call_takes d k h
  effect_takes d (t.Output e span) h = put_takes (Loose Plain) d e tt h
  effect_takes d (t.ChoiceEffect e a b span) h = (
    put_takes (Loose Controlling) d e h.0.0 h.0.1,
    effect_takes (d + roots Controlling (n.expression e)) a h.1,
    effect_takes (d + roots Controlling (n.expression e) + roots Plain (n.effect a)) b h.2,
  )
  effect_takes d (t.Discard a span) h = effect_takes d a h

  effects_take : (d : ℕ) (xs : List t.Effect) → ConvertsEffects xs → TakesEffects (put_effects m first d xs)
  effects_take d [] h = tt
  effects_take d (x ∷ xs) h = (effect_takes d x h.0, effects_take (d + roots Plain (n.effect x)) xs h.1)

  mutual
    initializer_takes : (d : ℕ) (x : t.Initializer) → ConvertsInitializer x → TakesInitializer (put_initializer m first d x)
    initializer_takes d (t.NumberInitializer e) h = put_takes (Loose Plain) d e tt h
    initializer_takes d (t.StructureInitializer value k) h = structure_takes d value h
    initializer_takes d (t.ListInitializer items k) h = initializers_take d items h
    initializer_takes d (t.ZeroInitializer e k) h = ap bare_expression (expression_back e)

    initializers_take : (d : ℕ) (x : t.Initializers) → ConvertsInitializers x → TakesInitializers (put_initializers m first d x)
    initializers_take d t.no_initializers h = tt
    initializers_take d (t.initializers x rest) h =
        (initializer_takes d x h.0, initializers_take (d + roots Plain (n.initializer x)) rest h.1)

  initial_takes : (d : ℕ) (x : Option t.Initializer) → ConvertsInitial x → TakesInitial (put_initial m first d x)
  initial_takes d None h = tt
  initial_takes d (Some x) h = initializer_takes d x h

  declarators_take : (d : ℕ) (xs : List t.Declarator) → ConvertsDeclarators xs → TakesDeclarators (put_declarators m first d xs)
  declarators_take d [] h = tt
  declarators_take d (x ∷ xs) h = (initial_takes d x.value h.0, declarators_take (d + roots Plain (n.initial x.value)) xs h.1)

  -- ---- statements

  start_takes : (d : ℕ) (x : t.ForStart) → ConvertsStart x → TakesStart (put_start m first d x)
  start_takes d (t.StartEffects xs) h = effects_take d xs h
  start_takes d (t.StartDeclaration xs) h = declarators_take d xs h

  test_takes : (d : ℕ) (x : Option t.Expression) → ConvertsOptional x → TakesTest (put_optional m first d x)
  test_takes d None h = tt
  test_takes d (Some e) h = put_takes (Loose Controlling) d e h.0 h.1

  value_takes : (d : ℕ) (x : t.ReturnValue) → ConvertsValue x → TakesValue (put_return m first d x)
  value_takes d t.ReturnNothing h = tt
  value_takes d (t.ReturnNumber e) h = put_takes (Loose Plain) d e tt h
  value_takes d (t.ReturnStructure value k) h = structure_takes d value h

  set_where : (b : Bool) (k : ℕ) → IsSetWhere b (if b then Some k else None)
  set_where true k = tt
  set_where false k = refl

  set_unless : (b : Bool) (at : At m first) → IsSetUnless b (mark_unless_default m first b at)
  set_unless true at = refl
  set_unless false at = tt

  mutual
    statement_takes : (r : ℕ) (at : At m first) (x : t.Statement) → ConvertsStatement x → TakesStatement (put_statement m first r at x)
    statement_takes r at (t.Compound items span) h = statements_take r at items h
    statement_takes r at (t.Label v span) h = tt
    statement_takes r at (t.Declaration xs span) h = (
      subst (λ (ds : List t.Declarator). IsSetWhere (initializes ds) (if initializes xs then Some at.statement else None)) (sym (declarators_away m first at.decision xs)) (set_where (initializes xs) at.statement),
      declarators_take at.decision xs h,
    )
    statement_takes r at (t.Null span) h = tt
    statement_takes r at (t.EffectStatement x span) h = (tt, effect_takes at.decision x h)
    statement_takes r at (t.If e x keyword span) h = (
      tt,
      put_takes (Loose Controlling) at.decision e h.0.0 h.0.1,
      statement_takes r (decided m first (roots Controlling (n.expression e)) (table.within m first at)) x h.1,
    )
    statement_takes r at (t.IfElse e x y keyword span) h =
        let z : At m first = decided m first (roots Controlling (n.expression e)) (table.within m first at) in (
          tt,
          put_takes (Loose Controlling) at.decision e h.0.0 h.0.1,
          statement_takes r z x h.1,
          statement_takes r (table.past m first x z) y h.2,
        )
    statement_takes r at (t.Switch e items keyword span) h =
        let z : At m first = decided m first (roots Plain (n.expression e)) (table.in_switch m first (has_default items) at) in (
          tt,
          (switch_round (erase_expression (put m first (Loose Plain) at.decision e)) at.switch, put_takes (Loose Plain) at.decision e tt h.0),
          statements_take at.switch z items h.1,
          subst (λ (xs : t.Statements). IsSetUnless (has_default xs) (mark_unless_default m first (has_default items) at)) (sym (statements_away m first at.switch z items)) (set_unless (has_default items) at),
        )
    statement_takes r at (t.For start test step x keyword span) h =
        let d : ℕ = at.decision + roots Plain (n.start start) in
        let y : ℕ = d + roots Plain (n.optional_test test) in
        let z : At m first = decided m first (roots Plain (n.start start) + roots Plain (n.optional_test test) + roots_in (n.effects step)) (table.within m first at) in
        (tt, start_takes at.decision start h.0, test_takes d test h.1, effects_take y step h.2, statement_takes r z x h.3)
    statement_takes r at (t.DoWhile x e keyword span) h = (
      tt,
      statement_takes r (table.within m first at) x h.0,
      put_takes (Loose Controlling) (at.decision + roots Plain (n.statement x)) e h.1.0 h.1.1,
    )
    statement_takes r at (t.Break span) h = tt
    statement_takes r at (t.Continue span) h = tt
    statement_takes r at (t.Return value span) h = (tt, value_takes at.decision value h, tt)

    statements_take : (r : ℕ) (at : At m first) (xs : t.Statements) → ConvertsStatements xs → TakesStatements (put_statements m first r at xs)
    statements_take r at t.no_statements h = tt
    statements_take r at (t.statements x rest) h =
        (statement_takes r at x h.0, statements_take r (table.past m first x at) rest h.1)

pub functions_take : (m : Map) (number decisions : ℕ) (points : Points) (xs : List t.Function) → ConvertsFunctions xs → TakesFunctions (put_functions m number decisions points xs)
functions_take m number decisions points [] h = tt
functions_take m number decisions points (x ∷ xs) h = (
  (
    tt,
    statements_take m decisions 0 (record {
      exit = exit_bit m points.exits;
      statement = statement_bit m points.statements;
      label = label_bit m points.labels;
      decision = 0;
      switch = decisions_in x;
    }) x.body h.0,
  ),
  functions_take m (number + 1) (decisions + decisions_in x) (points ⊕ points_of_function x) xs h.1,
)
