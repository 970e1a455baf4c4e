-- What a search makes of a sound program is sound.
use Rattle.std.proofs.Common.{◌≡◌, ◌∙◌, refl, sym, ap, subst, ℕ, suc, zero, ◌+◌, ◌^◌, ◌<◌, ◌≤◌, ℤ, Bool, true, false, List, [], ◌∷◌, length, slice_get, Option, Some, None, option_map}
use Rattle.mc_value.specs.declared.int_type.IntType.{IntType}
use Rattle.mc_value.specs.Conversions.{promoted}
use Rattle.mc_typed.specs.declared.expressions.Slot.{Slot}
use Rattle.mc_typed.specs.Layout.{ObjectType, Scalar, Array, Structure, Members, no_members, members, cells}
use Rattle.mc_typed.specs.Tree as t
use Rattle.mc_typed.specs.Sound.{Scope, parameters_at, result_at, element_of, length_of, member_of, offset_of, place_type, type_of, structure_result, structure_type, IsStructureType, Takes, IsPlace, IsExpression, IsStructure, IsCall, IsStructureCall, AreArguments, IsArgument, IsCast, IsEffect, count_of, IsInitializer, AreElements, AreMembers, IsInitial, AreDeclarators, AreClauses, IsStart, IsTest, IsReturn, Around, inside, in_loop, in_switch, labels_of, Differ, IsStatement, AreStatements, outermost, scope_of, IsFunction, AreFunctions, IsSound}
use Rattle.decide_rules.specs.declared.operators.FullOperator.{FullOperator}
use Rattle.decide_rules.specs.declared.role.Role.{Role}
use Rattle.decide_rules.specs.declared.role.Role.TheVariants.{Controlling, Inner, Plain}
use Rattle.decide_rules.specs.Nodes as n
use Rattle.mc_mutate.specs.declared.changes.Change.{Change}
use Rattle.mc_mutate.specs.declared.changes.MutantKind.TheVariants.{Negated}
use Rattle.mc_mutate.specs.declared.search.sought.Sought.{Sought}
use Rattle.mc_mutate.specs.declared.search.sought.Sought.TheVariants.{Found}
use Rattle.mc_mutate.specs.Mutants.{under}
use Rattle.mc_mutate.specs.steps.Search.{inside_parts, searched}
use Rattle.mc_mutate.specs.steps.Changed.{entered, place_changed, inside_changed, structure_changed, call_changed, argument_changed, arguments_changed, effect_changed, effects_changed, initializer_changed, initializers_changed, initial_changed, declarators_changed, start_changed, optional_changed, return_changed, statement_changed, statements_changed, functions_changed, program_changed}
use Rattle.mc_mutate.proofs.Holding.{operands_kept, entered_sound, entered_typed, entered_inner}
use Rattle.mc_mutate.proofs.Picked.{inside_picked}
use Rattle.mc_mutate.proofs.Made.{statements_made}

-- functions that are called alike
pub record AreCalledAlike (fs gs : List t.Function) : Type 0 where
  pub count : length gs ≡ length fs
  pub parameters : (k : ℕ) → parameters_at (slice_get gs k) ≡ parameters_at (slice_get fs k)
  pub results : (k : ℕ) → result_at (slice_get gs k) ≡ result_at (slice_get fs k)

-- the same scope over other functions
abbrev pub over : Scope → List t.Function → Scope
over c gs = record c { functions = gs }

takes : (c : Scope) (gs : List t.Function) (result : Option Slot) (r : t.ResultType) → Takes result r c → Takes result r (over c gs)
takes c gs (Some slot) (t.StructureResult u) h = h
takes c gs (Some slot) t.NoResult h = h
takes c gs (Some slot) (t.NumberResult a) h = h
takes c gs None (t.StructureResult u) h = h
takes c gs None t.NoResult h = tt
takes c gs None (t.NumberResult a) h = tt

some_change : Change
some_change = record { kind = Negated; at = 0 }

-- ---- types

inside_typed : (e : t.Expression) (s : Sought) → type_of (inside_changed e s) ≡ type_of e
inside_typed (t.Constant v a span) s = refl
inside_typed (t.Read place a) s = refl
inside_typed (t.Unary operator a e span) s = refl
inside_typed (t.Convert a written e span) s = refl
inside_typed (t.Not e span) s = refl
inside_typed (t.Binary operator a e f span) s = refl
inside_typed (t.Logic operator e f span) s = refl
inside_typed (t.Choice e f g a span) s = refl
inside_typed (t.Call k a) s = refl
inside_typed (t.Input span) s = refl

typed : (e : t.Expression) (s : Sought) → type_of (entered Plain e s (inside_changed e)) ≡ type_of e
typed e s = entered_typed e s (inside_changed e) (inside_typed e)

-- and the operand of an operator that evaluates both of its operands
operand_typed : (full : Option FullOperator) (e : t.Expression) (s : Sought) → type_of (entered (under full) e s (inside_changed e)) ≡ type_of e
operand_typed None e s = typed e s
operand_typed (Some full) e s = entered_inner e s (inside_changed e) (inside_typed e)

-- an expression that is sound wherever the search has come to
sound : (d : Scope) (role : Role) (e : t.Expression) (s : Sought) → ((u : Sought) → IsExpression (inside_changed e u) d) → IsExpression (entered role e s (inside_changed e)) d
sound d role e s h =
    entered_sound d role e s (inside_changed e)
    (subst (λ (x : t.Expression). IsExpression x d) (inside_picked e (Found some_change)) (h (Found some_change))) h

module _ (c : Scope) (gs : List t.Function) (same : AreCalledAlike c.functions gs) where
  place_typed : (x : t.Place) (s : Sought) → place_type (over c gs) (place_changed x s) ≡ place_type c x
  place_typed (t.Local slot span) s = refl
  place_typed (t.Static slot span) s = refl
  place_typed (t.Parameter array stride index span) s = refl
  place_typed (t.Item array k stride index span) s = ap element_of (place_typed array s)
  place_typed (t.Member structure i offset span) s =
      ap (λ (u : Option ObjectType). member_of u i) (place_typed structure s)

  structure_typed : (x : t.StructureValue) (s : Sought) → structure_type (over c gs) (structure_changed x s) ≡ structure_type c x
  structure_typed (t.Stored place) s = place_typed place s
  structure_typed (t.Returned (t.call f given result span)) s = ap structure_result (same.results f)

  -- ---- expressions

  mutual
    place_sound : (x : t.Place) (s : Sought) → IsPlace x c → IsPlace (place_changed x s) (over c gs)
    place_sound (t.Local slot span) s h = h
    place_sound (t.Static slot span) s h = h
    place_sound (t.Parameter array stride index span) s (e, h) =
        (e, sound (over c gs) Plain index s (λ u. inside_sound index u h))
    place_sound (t.Item array k stride index span) s (a, l, e, h) = (
      place_sound array s a,
      ap length_of (place_typed array s) ∙ l,
      ap (λ (u : Option ObjectType). option_map cells (element_of u)) (place_typed array s) ∙ e,
      sound (over c gs) Plain index (searched Plain (n.place array) s) (λ u. inside_sound index u h),
    )
    place_sound (t.Member structure i offset span) s (a, e) =
        (place_sound structure s a, ap (λ (u : Option ObjectType). offset_of u i) (place_typed structure s) ∙ e)

    inside_sound : (x : t.Expression) (s : Sought) → IsExpression x c → IsExpression (inside_changed x s) (over c gs)
    inside_sound (t.Constant v a span) s h = h
    inside_sound (t.Read place a) s (h, e) = (place_sound place s h, place_typed place s ∙ e)
    inside_sound (t.Unary operator a e span) s (u, p, h, q) =
        (u, p, sound (over c gs) Plain e s (λ r. inside_sound e r h), typed e s ∙ q)
    inside_sound (t.Convert a written e span) s h = sound (over c gs) Plain e s (λ r. inside_sound e r h)
    inside_sound (t.Not e span) s h = sound (over c gs) Inner e s (λ r. inside_sound e r h)
    inside_sound (t.Binary operator a e f span) s (h, k, o) =
        let full : Option FullOperator = n.full_operator operator e f in
        let after : Sought = searched (under full) (n.expression e) s in (
          sound (over c gs) (under full) e s (λ r. inside_sound e r h),
          sound (over c gs) (under full) f after (λ r. inside_sound f r k),
          operands_kept operator a (type_of e) (type_of f) (type_of (entered (under full) e s (inside_changed e))) (type_of (entered (under full) f after (inside_changed f))) (operand_typed full e s) (operand_typed full f after) o,
        )
    inside_sound (t.Logic operator e f span) s (h, k) = (
      sound (over c gs) Inner e s (λ r. inside_sound e r h),
      sound (over c gs) Inner f (searched Inner (n.expression e) s) (λ r. inside_sound f r k),
    )
    inside_sound (t.Choice e f g a span) s (h, k, l, p, q, o) =
        let after = searched Controlling (n.expression e) s in (
          sound (over c gs) Controlling e s (λ r. inside_sound e r h),
          sound (over c gs) Plain f after (λ r. inside_sound f r k),
          sound (over c gs) Plain g (searched Plain (n.expression f) after) (λ r. inside_sound g r l),
          p,
          typed f after ∙ q,
          typed g (searched Plain (n.expression f) after) ∙ o,
        )
    inside_sound (t.Call k a) s h = call_sound k (t.NumberResult a) s h
    inside_sound (t.Input span) s h = tt

    structure_sound : (x : t.StructureValue) (s : Sought) → IsStructure x c → IsStructure (structure_changed x s) (over c gs)
    structure_sound (t.Stored place) s (h, e) = (place_sound place s h, subst IsStructureType (sym (place_typed place s)) e)
    structure_sound (t.Returned k) s h = structure_call_sound k s h

    call_sound : (x : t.FunctionCall) (r : t.ResultType) (s : Sought) → IsCall x c r → IsCall (call_changed x s) (over c gs) r
    call_sound (t.call f given result span) r s (lt, h, k, e) = (
      subst (λ (m : ℕ). f < m) (sym same.count) lt,
      subst (λ (ps : List t.ParameterType). AreArguments (arguments_changed given s) ps (over c gs)) (sym (same.parameters f))
          (arguments_sound given (parameters_at (slice_get c.functions f)) s h),
      takes c gs result r k,
      same.results f ∙ e,
    )

    structure_call_sound : (x : t.FunctionCall) (s : Sought) → IsStructureCall x c → IsStructureCall (call_changed x s) (over c gs)
    structure_call_sound (t.call f given result span) s (lt, h, u, k) = (
      subst (λ (m : ℕ). f < m) (sym same.count) lt,
      subst (λ (ps : List t.ParameterType). AreArguments (arguments_changed given s) ps (over c gs)) (sym (same.parameters f))
          (arguments_sound given (parameters_at (slice_get c.functions f)) s h),
      subst (λ (r : t.ResultType). IsStructureType (structure_result r)) (sym (same.results f)) u,
      subst (λ (r : t.ResultType). Takes result r (over c gs)) (sym (same.results f))
          (takes c gs result (result_at (slice_get c.functions f)) k),
    )

    arguments_sound : (x : t.Arguments) (ps : List t.ParameterType) (s : Sought) → AreArguments x ps c → AreArguments (arguments_changed x s) ps (over c gs)
    arguments_sound t.no_arguments [] s h = tt
    arguments_sound t.no_arguments (p ∷ ps) s h = h
    arguments_sound (t.arguments a rest) [] s h = h
    arguments_sound (t.arguments a rest) (p ∷ ps) s (h, k) =
        (argument_sound a p s h, arguments_sound rest ps (searched Plain (n.argument a) s) k)

    argument_sound : (x : t.Argument) (p : t.ParameterType) (s : Sought) → IsArgument x p c → IsArgument (argument_changed x s) p (over c gs)
    argument_sound (t.NumberArgument e) (t.NumberParameter a) s (h, q) =
        (sound (over c gs) Plain e s (λ r. inside_sound e r h), typed e s ∙ q)
    argument_sound (t.NumberArgument e) (t.StructureParameter u) s h = h
    argument_sound (t.NumberArgument e) (t.ArrayParameter u) s h = h
    argument_sound (t.StructureArgument value copy) (t.NumberParameter a) s h = h
    argument_sound (t.StructureArgument value copy) (t.StructureParameter u) s (h, q, o) =
        (structure_sound value s h, structure_typed value s ∙ q, o)
    argument_sound (t.StructureArgument value copy) (t.ArrayParameter u) s h = h
    argument_sound (t.ArrayArgument array k) (t.NumberParameter a) s h = h
    argument_sound (t.ArrayArgument array k) (t.StructureParameter u) s h = h
    argument_sound (t.ArrayArgument array k) (t.ArrayParameter u) s (h, q) = (place_sound array s h, place_typed array s ∙ q)
    argument_sound (t.AgainArgument array span) (t.NumberParameter a) s h = h
    argument_sound (t.AgainArgument array span) (t.StructureParameter u) s h = h
    argument_sound (t.AgainArgument array span) (t.ArrayParameter u) s h = h

  expression_sound : (role : Role) (e : t.Expression) (s : Sought) → IsExpression e c → IsExpression (entered role e s (inside_changed e)) (over c gs)
  expression_sound role e s h = sound (over c gs) role e s (λ r. inside_sound e r h)

  -- ---- effects

  cast_sound : (x : t.Effect) (s : Sought) → IsCast x → IsCast (effect_changed x s)
  cast_sound (t.Assign target a e span) s h = h
  cast_sound (t.Update target a operator common e span) s h = h
  cast_sound (t.Copy target value k span) s h = h
  cast_sound (t.NumberEffect e w) s h = tt
  cast_sound (t.StructureEffect value w) s h = tt
  cast_sound (t.CallEffect k) s h = tt
  cast_sound (t.Output e span) s h = tt
  cast_sound (t.ChoiceEffect e a b span) s h = tt
  cast_sound (t.Discard a span) s h = tt

  effect_sound : (x : t.Effect) (whole : Bool) (s : Sought) → IsEffect x whole c → IsEffect (effect_changed x s) whole (over c gs)
  effect_sound (t.Assign target a e span) whole s (w, p, q, h, o) =
      let after = searched Plain (n.place target) s in
      (w, place_sound target s p, place_typed target s ∙ q, expression_sound Plain e after h, typed e after ∙ o)
  effect_sound (t.Update target a operator common e span) whole s (w, p, q, u, v, h, o) =
      let after = searched Plain (n.place target) s in (
        w,
        place_sound target s p,
        place_typed target s ∙ q,
        u,
        v,
        expression_sound Plain e after h,
        operands_kept operator common common (type_of e) common (type_of (entered Plain e after (inside_changed e))) refl (typed e after) o,
      )
  effect_sound (t.Copy target value k span) whole s (w, p, h, q, o) =
      let after = searched Plain (n.place target) s in (
        w,
        place_sound target s p,
        structure_sound value after h,
        place_typed target s ∙ (q ∙ sym (structure_typed value after)),
        ap (option_map cells) (structure_typed value after) ∙ o,
      )
  effect_sound (t.NumberEffect e w) whole s (q, h) = (q, expression_sound Plain e s h)
  effect_sound (t.StructureEffect value w) whole s (q, h) = (q, structure_sound value s h)
  effect_sound (t.CallEffect k) whole s h = call_sound k t.NoResult s h
  effect_sound (t.Output e span) whole s (h, q) = (expression_sound Plain e s h, typed e s ∙ q)
  effect_sound (t.ChoiceEffect e a b span) whole s (h, k, l) = (
    expression_sound Controlling e s h,
    effect_sound a false (searched Controlling (n.expression e) s) k,
    effect_sound b false (searched Plain (n.effect a) (searched Controlling (n.expression e) s)) l,
  )
  effect_sound (t.Discard a span) whole s (i, h) = (cast_sound a s i, effect_sound a whole s h)

  effects_sound : (xs : List t.Effect) (s : Sought) → AreClauses xs c → AreClauses (effects_changed xs s) (over c gs)
  effects_sound [] s h = tt
  effects_sound (a ∷ rest) s (h, k) = (effect_sound a true s h, effects_sound rest (searched Plain (n.effect a) s) k)

  -- ---- initializers

  count_kept : (x : t.Initializers) (s : Sought) → count_of (initializers_changed x s) ≡ count_of x
  count_kept t.no_initializers s = refl
  count_kept (t.initializers i rest) s = ap (λ (k : ℕ). k + 1) (count_kept rest (searched Plain (n.initializer i) s))

  mutual
    initializer_sound : (x : t.Initializer) (u : ObjectType) (s : Sought) → IsInitializer x u c → IsInitializer (initializer_changed x s) u (over c gs)
    initializer_sound (t.NumberInitializer e) (Scalar a) s (h, q) = (expression_sound Plain e s h, typed e s ∙ q)
    initializer_sound (t.NumberInitializer e) (Array k u) s h = h
    initializer_sound (t.NumberInitializer e) (Structure k ms) s h = h
    initializer_sound (t.StructureInitializer value k) u s (h, q, o) =
        (structure_sound value s h, structure_typed value s ∙ q, o)
    initializer_sound (t.ListInitializer items k) (Scalar a) s h = h
    initializer_sound (t.ListInitializer items k) (Array m u) s (q, l, h) =
        (q, subst (λ (j : ℕ). j ≤ m) (sym (count_kept items s)) l, elements_sound items u s h)
    initializer_sound (t.ListInitializer items k) (Structure m ms) s (q, h) = (q, members_sound items ms s h)
    initializer_sound (t.ZeroInitializer e k) u s (q, h) = (q, expression_sound Plain e s h)

    elements_sound : (x : t.Initializers) (u : ObjectType) (s : Sought) → AreElements x u c → AreElements (initializers_changed x s) u (over c gs)
    elements_sound t.no_initializers u s h = tt
    elements_sound (t.initializers i rest) u s (h, k) =
        (initializer_sound i u s h, elements_sound rest u (searched Plain (n.initializer i) s) k)

    members_sound : (x : t.Initializers) (ms : Members) (s : Sought) → AreMembers x ms c → AreMembers (initializers_changed x s) ms (over c gs)
    members_sound t.no_initializers ms s h = tt
    members_sound (t.initializers i rest) no_members s h = h
    members_sound (t.initializers i rest) (members u ms) s (h, k) =
        (initializer_sound i u s h, members_sound rest ms (searched Plain (n.initializer i) s) k)

  initial_sound : (x : Option t.Initializer) (u : Option ObjectType) (s : Sought) → IsInitial x u c → IsInitial (initial_changed x s) u (over c gs)
  initial_sound None u s h = tt
  initial_sound (Some i) None s h = h
  initial_sound (Some i) (Some u) s h = initializer_sound i u s h

  declarators_sound : (xs : List t.Declarator) (s : Sought) → AreDeclarators xs c → AreDeclarators (declarators_changed xs s) (over c gs)
  declarators_sound [] s h = tt
  declarators_sound (d ∷ rest) s ((a, b, h), k) =
      ((a, b, initial_sound d.value _ s h), declarators_sound rest (searched Plain (n.initial d.value) s) k)

  -- ---- statements

  start_sound : (x : t.ForStart) (s : Sought) → IsStart x c → IsStart (start_changed x s) (over c gs)
  start_sound (t.StartEffects clauses) s h = effects_sound clauses s h
  start_sound (t.StartDeclaration declared) s h = declarators_sound declared s h

  optional_sound : (x : Option t.Expression) (s : Sought) → IsTest x c → IsTest (optional_changed x s) (over c gs)
  optional_sound None s h = tt
  optional_sound (Some e) s h = expression_sound Controlling e s h

  return_sound : (x : t.ReturnValue) (r : t.ResultType) (s : Sought) → IsReturn x r c → IsReturn (return_changed x s) r (over c gs)
  return_sound t.ReturnNothing t.NoResult s h = tt
  return_sound t.ReturnNothing (t.NumberResult a) s h = h
  return_sound t.ReturnNothing (t.StructureResult u) s h = h
  return_sound (t.ReturnNumber e) t.NoResult s h = h
  return_sound (t.ReturnNumber e) (t.NumberResult a) s (h, q) = (expression_sound Plain e s h, typed e s ∙ q)
  return_sound (t.ReturnNumber e) (t.StructureResult u) s h = h
  return_sound (t.ReturnStructure value k) t.NoResult s h = h
  return_sound (t.ReturnStructure value k) (t.NumberResult a) s h = h
  return_sound (t.ReturnStructure value k) (t.StructureResult u) s (h, q, o) =
      (structure_sound value s h, structure_typed value s ∙ q, o)

  labels_kept : (x : t.Statements) (s : Sought) → labels_of (statements_changed x s) ≡ labels_of x
  labels_kept t.no_statements s = refl
  labels_kept (t.statements (t.Label v span) rest) s =
      ap (λ (l : List (Option ℤ)). v ∷ l) (labels_kept rest (searched Plain (n.statement (t.Label v span)) s))
  labels_kept (t.statements a rest) s = labels_kept rest (searched Plain (n.statement a) s)

  mutual
    statement_sound : (x : t.Statement) (w : Around) (s : Sought) → IsStatement x c w → IsStatement (statement_changed x s) (over c gs) w
    statement_sound (t.Compound items span) w s h = statements_sound items (inside w) s h
    statement_sound (t.Label v span) w s h = h
    statement_sound (t.Declaration declared span) w s h = declarators_sound declared s h
    statement_sound (t.Null span) w s h = tt
    statement_sound (t.EffectStatement effect span) w s h = effect_sound effect true s h
    statement_sound (t.If e a keyword span) w s (h, k) =
        (expression_sound Controlling e s h, statement_sound a (inside w) (searched Controlling (n.expression e) s) k)
    statement_sound (t.IfElse e a b keyword span) w s (h, k, l) = (
      expression_sound Controlling e s h,
      statement_sound a (inside w) (searched Controlling (n.expression e) s) k,
      statement_sound b (inside w) (searched Plain (n.statement a) (searched Controlling (n.expression e) s)) l,
    )
    statement_sound (t.Switch e items keyword span) w s (h, p, k, l) =
        let after = searched Plain (n.expression e) s in (
          expression_sound Plain e s h,
          ap promoted (typed e s) ∙ (p ∙ sym (typed e s)),
          subst (λ (a : IntType). AreStatements (statements_changed items after) (over c gs) (in_switch w a)) (sym (typed e s))
              (statements_sound items (in_switch w (type_of e)) after k),
          subst Differ (sym (labels_kept items after)) l,
        )
    statement_sound (t.For first e step a keyword span) w s (h, k, l, m) =
        let begun = searched Plain (n.start first) s in
        let tested = searched Plain (n.optional_test e) begun in (
          start_sound first s h,
          optional_sound e begun k,
          effects_sound step tested l,
          statement_sound a in_loop (inside_parts (n.effects step) tested) m,
        )
    statement_sound (t.DoWhile a e keyword span) w s (h, k) =
        (statement_sound a in_loop s h, expression_sound Controlling e (searched Plain (n.statement a) s) k)
    statement_sound (t.Break span) w s h = h
    statement_sound (t.Continue span) w s h = h
    statement_sound (t.Return value span) w s h = return_sound value c.result s h

    statements_sound : (x : t.Statements) (w : Around) (s : Sought) → AreStatements x c w → AreStatements (statements_changed x s) (over c gs) w
    statements_sound t.no_statements w s h = tt
    statements_sound (t.statements a rest) w s (h, k) =
        (statement_sound a w s h, statements_sound rest w (searched Plain (n.statement a) s) k)

-- ---- programs

same_count : (fs : List t.Function) (s : Sought) → length (functions_changed fs s) ≡ length fs
same_count [] s = refl
same_count (f ∷ rest) s = ap suc (same_count rest (inside_parts (n.statements f.body) s))

same_parameters : (fs : List t.Function) (s : Sought) (k : ℕ) → parameters_at (slice_get (functions_changed fs s) k) ≡ parameters_at (slice_get fs k)
same_parameters [] s k = refl
same_parameters (f ∷ rest) s zero = refl
same_parameters (f ∷ rest) s (suc k) = same_parameters rest (inside_parts (n.statements f.body) s) k

same_results : (fs : List t.Function) (s : Sought) (k : ℕ) → result_at (slice_get (functions_changed fs s) k) ≡ result_at (slice_get fs k)
same_results [] s k = refl
same_results (f ∷ rest) s zero = refl
same_results (f ∷ rest) s (suc k) = same_results rest (inside_parts (n.statements f.body) s) k

called_alike : (fs : List t.Function) (s : Sought) → AreCalledAlike fs (functions_changed fs s)
called_alike fs s = record { count = same_count fs s; parameters = same_parameters fs s; results = same_results fs s }

function_sound : (p : t.Program) (gs : List t.Function) (f : t.Function) (s : Sought) → AreCalledAlike p.functions gs → IsFunction p f → IsFunction (record p { functions = gs }) (record f { body = statements_changed f.body s })
function_sound p gs f s same h = record {
  few = h.few;
  parameters = h.parameters;
  arrays = h.arrays;
  result = h.result;
  begins = h.begins;
  laid = h.laid;
  named = statements_made f.body s ∙ h.named;
  frame = h.frame;
  body = statements_sound (scope_of p f) gs same f.body outermost s h.body;
}

functions_sound : (p : t.Program) (gs fs : List t.Function) (s : Sought) → AreCalledAlike p.functions gs → AreFunctions p fs → AreFunctions (record p { functions = gs }) (functions_changed fs s)
functions_sound p gs [] s same h = tt
functions_sound p gs (f ∷ rest) s same (h, k) =
    (function_sound p gs f s same h, functions_sound p gs rest (inside_parts (n.statements f.body) s) same k)

pub program_sound : (p : t.Program) (s : Sought) → IsSound p → IsSound (program_changed p s)
program_sound p s h = record {
  functions = functions_sound p (functions_changed p.functions s) p.functions s (called_alike p.functions s) h.functions;
  statics = h.statics;
  initial = h.initial;
  static_room = h.static_room;
  structures = h.structures;
  functions_few = subst (λ (k : ℕ). k < 2 ^ 31) (sym (same_count p.functions s)) h.functions_few;
  statics_few = h.statics_few;
  structures_few = h.structures_few;
}
