use Rattle.std.proofs.Common.{ap}
use Rattle.interp_trail.specs.Kept.{Kept}
use Rattle.mc_interp.specs.Machines.{Machine}
use Rattle.mc_results.proofs.Numbered.{alone}
use Rattle.mc_results.proofs.runs.run_alone.Goals as goal

pub returns : goal.returns
returns c = λ u.
    alone c.args.task.now c.args.test c.index-plans-test.result c.in_ok-trace.trace c.in_ok-trail.trail.layout c.in_ok-machine.machine.program u c.requires.test c.index-plans-test.is
    (ap (λ (k : Kept). k.layout) c.in_ok-trail.ensures) (ap (λ (m : Machine). m.program) c.in_ok-machine.ensures) c.in_ok-trace.ensures.told
