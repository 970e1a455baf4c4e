use Rattle.std.proofs.Common.{◌≡◌, ◌+◌, ◌-◌, length}
use Rattle.std.specs.Prelude.{option_to_list}
use Rattle.mc_mutate.specs.Runs.{HasCome, worker_does}
use Rattle.mc_mutate.proofs.kills.runs.work.Given as goal

abbrev pub invariant-loop-drawn : goal.invariant-loop-drawn
invariant-loop-drawn g l = record {
  cover : l.recorder.cover ≡ l.fn.job.recorder.cover;
  come : HasCome (worker_does l.fn.job.task.now) l.drawn l.recorder;
}

abbrev pub decreases-loop-drawn : goal.decreases-loop-drawn
decreases-loop-drawn g l = (l.fn.job.recorder.cover.shape.tests - length l.recorder.view.claims) + length (option_to_list l.drawn)
