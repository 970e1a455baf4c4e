use Rattle.std.proofs.Common.{◌≡◌, map}
use Rattle.mc_core.specs.Schedule.{worker_of, fresh_workers}
use Rattle.mc_core.proofs.schedule.idle_workers.Given as goal

abbrev pub invariant-loop-number : goal.invariant-loop-number
invariant-loop-number l = map worker_of l.workers.items ≡ fresh_workers l._number
