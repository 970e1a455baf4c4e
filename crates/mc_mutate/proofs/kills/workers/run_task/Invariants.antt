use Rattle.std.proofs.Common.{◌≡◌, ◌+◌, [], All, vec_len}
use Rattle.std.specs.Prelude.{IfOk}
use Rattle.mc_cover.specs.Tells.{IsSettled}
use Rattle.cover_recorder.specs.Crew.{HasWorked, IsGathered}
use Rattle.mc_mutate.specs.Runs.{worker_does}
use Rattle.mc_mutate.proofs.kills.workers.run_task.Given as goal

abbrev pub invariant-loop-one : goal.invariant-loop-one
invariant-loop-one g l = record {
  gathered : IsGathered (worker_does l.task) l.cover [] l.workers l.pass.view.joined l.pass;
  left : l.pass.view.joined + vec_len l.done ≡ l.workers;
  settled : l.pass.view.forks ≡ l.pass.view.joined → IsSettled l.pass.view;
  done : All (λ r. IfOk r (HasWorked (worker_does l.task) l.cover)) l.done.items;
}

abbrev pub decreases-loop-one : goal.decreases-loop-one
decreases-loop-one g l = vec_len l.done
