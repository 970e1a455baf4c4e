use Rattle.std.proofs.Common.{◌≡◌, map, length}
use Rattle.mc_typed.specs.Plans.{plan_call_of}
use Rattle.mc_meaning.specs.Tests.{are_met}
use Rattle.mc_interp.specs.Machines.{done_of}
use Rattle.runner_steps.specs.Compared.{is_met_with}
use Rattle.mc_runner.proofs.results.are_met.Given as goal

abbrev pub invariant-loop-left : goal.invariant-loop-left
invariant-loop-left l =
    is_met_with l.compared (map done_of l.left) ≡ are_met (map plan_call_of l.fn.calls) (map done_of l.fn.done) 0 l.fn.output

abbrev pub decreases-loop-left : goal.decreases-loop-left
decreases-loop-left l = length l.left
