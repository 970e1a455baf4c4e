-- A plan that fits a program fits its mutants: they have its functions with their parameters and
-- results, and only bodies differ.
use Rattle.std.proofs.Common.{◌≡◌, subst, ℕ, zero, suc, ◌-◌, List, [], ◌∷◌, slice_get}
use Rattle.mc_typed.specs.Plans.{Call, Plan, CallFits, CallsFit, Fits}
use Rattle.mc_typed.specs.Tree.{Function, Program}
use Rattle.decide_rules.specs.Nodes as n
use Rattle.mc_mutate.specs.declared.search.sought.Sought.{Sought}
use Rattle.mc_mutate.specs.declared.search.sought.Sought.TheVariants.{Left}
use Rattle.mc_mutate.specs.Mutants.{IsMutant}
use Rattle.mc_mutate.specs.steps.Changed.{functions_changed, program_changed}
use Rattle.mc_mutate.specs.steps.Search.{inside_parts}
use Rattle.mc_mutate.proofs.Mutated.{changed_is}

call_fits : (c : Call) (fs : List Function) (s : Sought) (k : ℕ) → CallFits c (slice_get fs k) → CallFits c (slice_get (functions_changed fs s) k)
call_fits c [] s k h = h
call_fits c (f ∷ rest) s zero h = h
call_fits c (f ∷ rest) s (suc k) h = call_fits c rest (inside_parts (n.statements f.body) s) k h

calls_fit : (cs : List Call) (p : Program) (s : Sought) → CallsFit cs p → CallsFit cs (program_changed p s)
calls_fit [] p s h = tt
calls_fit (c ∷ cs) p s h = (call_fits c p.functions s c.function h.0, calls_fit cs p s h.1)

changed_fits : (plan : Plan) (p : Program) (s : Sought) → Fits plan p → Fits plan (program_changed p s)
changed_fits plan p s h = record {
  calls = calls_fit plan.calls p s h.calls;
  calls_few = h.calls_few;
  inputs = h.inputs;
  inputs_few = h.inputs_few;
  outputs = h.outputs;
  outputs_few = h.outputs_few;
  some_fuel = h.some_fuel;
  fuel = h.fuel;
}

pub fits_mutant : (plan : Plan) (p : Program) (number : ℕ) (q : Program) → Fits plan p → IsMutant p number q → Fits plan q
fits_mutant plan p number q h is =
    subst (λ (x : Program). Fits plan x) (changed_is p q number is) (changed_fits plan p (Left (number - 1)) h)
