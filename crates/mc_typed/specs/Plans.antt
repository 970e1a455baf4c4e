-- Tests, and when a test's plan fits a program.
use Rattle.std.specs.Prelude.{ℕ, ◌+◌, ◌≤◌, ℤ, List, [], ◌∷◌, length, map, slice_get, Option, Some, None, option_map}
use Rattle.mc_value.specs.declared.int_type.IntType.TheVariants.{Int}
use Rattle.mc_value.specs.IntTypes.{InRange}
use Rattle.mc_limits.specs.Limits.{most_calls, most_expected, most_fuel, most_inputs}
use Rattle.mc_typed.specs.declared.plans.Call as code_call
use Rattle.mc_typed.specs.declared.plans.TestPlan.{TestPlan}
use Rattle.mc_typed.specs.Tree.{ParameterType, ResultType, Function, Program}
use Rattle.mc_typed.specs.Tree as typed

-- a call: the function's number, the arguments, the value and the outputs that are expected
pub record Call : Type 0 where
  pub function : ℕ
  pub arguments : List ℤ
  pub expect : Option ℤ
  pub output : Option (List ℤ)

pub record Plan : Type 0 where
  pub name : List ℕ
  pub calls : List Call
  pub inputs : List ℤ
  pub fuel : ℕ

-- what a plan of the program stands for
abbrev pub plan_call_of : code_call.Call → Call
plan_call_of c = record {
  function = c.function;
  arguments = c.arguments.items;
  expect = c.expect;
  output = option_map (λ o. o.items) c.output;
}

abbrev pub plan_of : TestPlan → Plan
plan_of p =
    record {
      name = p.name;
      calls = map plan_call_of p.calls.items;
      inputs = p.inputs;
      fuel =
          p.fuel;
    }

-- ---- a plan fits a program

-- a value in range for each parameter; a test gives no array and no structure
abbrev pub AreValues : List ℤ → List ParameterType → Type 0
AreValues [] [] = Unit {0}
AreValues [] (p ∷ ps) = ⊥
AreValues (v ∷ vs) (typed.NumberParameter a ∷ ps) = InRange a v × AreValues vs ps
AreValues (v ∷ vs) _ = ⊥

-- a test takes no structure, and expects a value only where there is one
abbrev pub IsExpected : Option ℤ → ResultType → Type 0
IsExpected expect (typed.StructureResult u) = ⊥
IsExpected expect (typed.NumberResult a) = Unit {0}
IsExpected (Some v) typed.NoResult = ⊥
IsExpected None typed.NoResult = Unit {0}

-- the call names a function that has a body and that a test may call
abbrev pub CallFits : Call → Option Function → Type 0
CallFits c None = ⊥
CallFits c (Some f) = AreValues c.arguments f.parameters × IsExpected c.expect f.result

abbrev pub CallsFit : List Call → Program → Type 0
CallsFit [] p = Unit {0}
CallsFit (c ∷ cs) p = CallFits c (slice_get p.functions c.function) × CallsFit cs p

abbrev pub AreInts : List ℤ → Type 0
AreInts [] = Unit {0}
AreInts (v ∷ vs) = InRange Int v × AreInts vs

-- the outputs that are expected of the calls
abbrev pub outputs_of : Option (List ℤ) → List ℤ
outputs_of None = []
outputs_of (Some vs) = vs

abbrev pub AreOutputs : List Call → Type 0
AreOutputs [] = Unit {0}
AreOutputs (c ∷ cs) = AreInts (outputs_of c.output) × AreOutputs cs

abbrev pub expected_outputs : List Call → ℕ
expected_outputs [] = 0
expected_outputs (c ∷ cs) = length (outputs_of c.output) + expected_outputs cs

-- calls, inputs and expected outputs within their limits, the numbers in the range of int, and fuel
pub record Fits (plan : Plan) (p : Program) : Type 0 where
  pub calls : CallsFit plan.calls p
  pub calls_few : length plan.calls ≤ most_calls
  pub inputs : AreInts plan.inputs
  pub inputs_few : length plan.inputs ≤ most_inputs
  pub outputs : AreOutputs plan.calls
  pub outputs_few : expected_outputs plan.calls ≤ most_expected
  pub some_fuel : 1 ≤ plan.fuel
  pub fuel : plan.fuel ≤ most_fuel
