use Rattle.mc_results.specs.Seen.{traced_in}
use Rattle.mc_results.proofs.workers.trace_all.Goals as goal

pub returns : goal.returns
unfolding traced_in
returns g c = c.run_task.ensures
