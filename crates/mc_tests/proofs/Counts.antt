-- How many calls, inputs and expected outputs a test has.
use Rattle.std.proofs.Common.{◌≡◌, ◌+◌, ℕ, List, [], ◌∷◌, ◌++◌, length, map, nat_le, ◌&&◌, refl, arith, length-append}
use Rattle.std.proofs.lemmas.List.{length_push, map_push}
use Rattle.mc_typed.specs.declared.plans.Call as code_call
use Rattle.mc_typed.specs.Plans.{Call, Plan, expected_outputs, outputs_of, plan_call_of}
use Rattle.mc_tests.specs.Lines.{Line}
use Rattle.plan_fields.specs.Seen.{seen_output}
use Rattle.mc_tests.specs.Tests.{is_small, test_of}
use Rattle.mc_tests.specs.steps.Adding.{extended}

outputs_more : (calls : List Call) (c : Call) → expected_outputs (calls ++ c ∷ []) ≡ expected_outputs calls + length (outputs_of c.output)
outputs_more [] c = omega arith
outputs_more (d ∷ calls) c = omega (arith, outputs_more calls c)

pub counted_more : (calls all : List code_call.Call) (call : code_call.Call) (n m : ℕ) → n ≡ expected_outputs (map plan_call_of calls) → m ≡ length (outputs_of (seen_output call.output)) → all ≡ calls ++ call ∷ []
    → n + m ≡ expected_outputs (map plan_call_of all)
counted_more calls all call n m is more whole = rw (whole, map_push plan_call_of calls call, outputs_more (map plan_call_of calls) (plan_call_of call), is, more) refl

pub alone : (fuel : ℕ) (line : Line) (calls inputs outputs : ℕ) → calls ≡ 1 → inputs ≡ length line.inputs → outputs ≡ length (outputs_of line.call.output)
    → (nat_le calls 1024 && nat_le inputs 4096 && nat_le outputs 4096) ≡ is_small (test_of fuel line)
alone fuel line calls inputs outputs a b c =
    let sum : length (outputs_of line.call.output) + 0 ≡ length (outputs_of line.call.output) = omega arith in
    rw (a, b, c, sum) refl

pub one_more : (plan : Plan) (line : Line) (calls inputs outputs : ℕ) → calls ≡ length plan.calls + 1 → inputs ≡ length plan.inputs + length line.inputs → outputs ≡ expected_outputs plan.calls + length (outputs_of line.call.output)
    → (nat_le calls 1024 && nat_le inputs 4096 && nat_le outputs 4096) ≡ is_small (extended plan line)
one_more plan line calls inputs outputs a b c =
    rw (length_push plan.calls line.call, length-append plan.inputs line.inputs, outputs_more plan.calls line.call, a, b, c) refl
