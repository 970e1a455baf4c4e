-- Expressions and effects: one case for each rule of what they have of their source.
use Rattle.std.proofs.Common.{refl, Bool, false, List, [], ◌∷◌, slice_get}
use Rattle.mc_span.specs.declared.span.Span.{Span}
use Rattle.mc_tree.specs.Tree.{Expression, Expressions}
use Rattle.mc_typed.specs.Sound.{Scope, parameters_at, IsPlace, IsExpression, IsStructure, IsCall, IsStructureCall, AreArguments, IsArgument, IsEffect}
use Rattle.mc_typed.specs.Tree.{Place, FunctionCall, Arguments, Argument, StructureValue, Effect, ParameterType, NumberParameter, StructureParameter, ArrayParameter, ResultType}
use Rattle.mc_typed.specs.Tree as typed
use Rattle.reread_law_probes.specs.put.Conversions.{IsWritten, Converts, ConvertsPlace, ConvertsStructure, ConvertsCall, ConvertsArgument, ConvertsArguments, ConvertsEffect}
use Rattle.laws_types.specs.Exact.{IsExactPlace, IsExact, IsExactStructure, IsExactCall, AreExactArguments, IsExactArgument, IsExactEffect}
use Rattle.laws_types.specs.Source.{IsOneAt, IsNumberOf, IsOperandOf, IsPlaceOf, IsCallOf, AreArgumentsOf, IsArgumentOf, IsStructureOf, IsEffectOf}
use Rattle.laws_types.specs.Source as of
use Rattle.reread_law_probes.proofs.Converted.Flags.{are_flagged}

-- a number of the source is no implied conversion
pub written : {a : Expression} {e : typed.Expression} → IsNumberOf a e → IsWritten e
written (of.inside h) = written h
written of.enumerator = tt
written of.constant = tt
written of.character = tt
written (of.read h) = tt
written (of.one_operand e h) = tt
written (of.negation h) = tt
written (of.cast h) = tt
written (of.two_operands e h l) = tt
written (of.logical e h l) = tt
written (of.choice h l m) = tt
written (of.call h) = tt
written (of.input e) = tt

one_stands : {at : Span} {e : typed.Expression} → IsOneAt at e → Converts e
one_stands of.one = tt
one_stands of.converted_one = ((refl, tt), tt)

module _ (c : Scope) where
  -- what is given to a call is sound
  abbrev IsGiven : FunctionCall → Type 0
  IsGiven (typed.call f given result span) =
      AreArguments given (parameters_at (slice_get c.functions f)) c

  given_to : (k : FunctionCall) (r : ResultType) → IsCall k c r → IsGiven k
  given_to (typed.call f given result span) r h = h.1

  given_for : (k : FunctionCall) → IsStructureCall k c → IsGiven k
  given_for (typed.call f given result span) h = h.1

  mutual
    pub number : {a : Expression} {e : typed.Expression} → IsNumberOf a e → IsExact e
        → IsExpression e c → Converts e
    number (of.inside h) x s = number h x s
    number of.enumerator x s = tt
    number of.constant x s = tt
    number of.character x s = tt
    number (of.read h) x s = place h x s.0
    number (of.one_operand e h) x s = operand h x.1.1 s.2
    number (of.negation h) x s = (written h, number h x.1 s)
    number (of.cast h) x s = (tt, number h x.1 s)
    number (of.two_operands {o = o} {e = e} {f = f} {t = t} {span = span} q h l) x s =
        (are_flagged o t e f span x s.2, operand h x.1.1 s.0, operand l x.2.1 s.1)
    number (of.logical e h l) x s = (written h, number h x.0.1 s.0, written l, number l x.1.1 s.1)
    number (of.choice h l m) x s =
        (written h, number h x.0.1 s.0, operand l x.2.1 s.1, operand m x.3.1 s.2)
    number (of.call {k = k} {t = t} h) x s = call h x (given_to k (typed.NumberResult t) s)
    number (of.input e) x s = tt

    pub operand : {a : Expression} {e : typed.Expression} → IsOperandOf a e → IsExact e
        → IsExpression e c → Converts e
    operand (of.as_it_is h) x s = number h x s
    operand (of.converted h) x s = ((refl, written h), number h x.1 s)

    pub place : {a : Expression} {p : Place} → IsPlaceOf a p → IsExactPlace p → IsPlace p c
        → ConvertsPlace p
    place (of.place_inside h) x s = place h x s
    place of.local x s = tt
    place of.static x s = tt
    place (of.parameter h l) x s = number l x.1 s.1
    place (of.item h l) x s = (place h x.0 s.0, number l x.1.1 s.3)
    place (of.member h) x s = place h x s.0

    pub call : {a : Expression} {k : FunctionCall} → IsCallOf a k → IsExactCall k → IsGiven k
        → ConvertsCall k
    call (of.call_inside h) x s = call h x s
    call (of.called {f = f} h) x s = arguments h (parameters_at (slice_get c.functions f)) x s

    pub arguments : {given : Expressions} {all : Arguments} → AreArgumentsOf given all
        → (ps : List ParameterType) → AreExactArguments all → AreArguments all ps c
        → ConvertsArguments all
    arguments of.no_arguments ps x s = tt
    arguments (of.arguments h l) [] x s = absurd s
    arguments (of.arguments h l) (p ∷ ps) x s = (argument h p x.0 s.0, arguments l ps x.1 s.1)

    pub argument : {a : Expression} {one : Argument} → IsArgumentOf a one → (p : ParameterType)
        → IsExactArgument one → IsArgument one p c → ConvertsArgument one
    argument (of.number_argument h) (NumberParameter b) x s = operand h x.1 s.0
    argument (of.number_argument h) (StructureParameter u) x s = absurd s
    argument (of.number_argument h) (ArrayParameter u) x s = absurd s
    argument (of.structure_argument h) (NumberParameter b) x s = absurd s
    argument (of.structure_argument h) (StructureParameter u) x s = structure h x s.0
    argument (of.structure_argument h) (ArrayParameter u) x s = absurd s
    argument (of.array_argument h) (NumberParameter b) x s = absurd s
    argument (of.array_argument h) (StructureParameter u) x s = absurd s
    argument (of.array_argument h) (ArrayParameter u) x s = place h x s.0
    argument (of.again_argument h) p x s = tt

    pub structure : {a : Expression} {v : StructureValue} → IsStructureOf a v → IsExactStructure v
        → IsStructure v c → ConvertsStructure v
    structure (of.stored h) x s = place h x s.0
    structure (of.returned {k = k} h) x s = call h x (given_for k s)

  pub effect : {a : Expression} {y : Effect} → IsEffectOf a y → (whole : Bool) → IsExactEffect y
      → IsEffect y whole c → ConvertsEffect y
  effect (of.effect_inside h) whole x s = effect h whole x s
  effect (of.assignment h l) whole x s = (place h x.0 s.1, operand l x.2.1 s.3)
  effect (of.copy h l) whole x s = (place h x.0 s.1, structure l x.1 s.2)
  effect (of.update e h l) whole x s = (place h x.0 s.1, operand l x.2.1 s.5)
  effect (of.step_after h l) whole x s = (place h x.0 s.1, one_stands l)
  effect (of.step_before h l) whole x s = (place h x.0 s.1, one_stands l)
  effect (of.number_effect h) whole x s = number h x.1 s.1
  effect (of.structure_effect h) whole x s = structure h x s.1
  effect (of.call_effect {k = k} h) whole x s = call h x (given_to k typed.NoResult s)
  effect (of.output e h) whole x s = operand h x.1 s.0
  effect (of.effect_choice h l m) whole x s =
      ((written h, number h x.0.1 s.0), effect l false x.1 s.1, effect m false x.2 s.2)
  effect (of.discard h) whole x s = effect h whole x s.1
