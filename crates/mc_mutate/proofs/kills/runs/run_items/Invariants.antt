use Rattle.std.proofs.Common.{◌≡◌, ◌≤◌, ◌-◌, length}
use Rattle.cover_recorder.specs.Crew.{IsAtWork}
use Rattle.mc_mutate.specs.Runs.{worker_does}
use Rattle.mc_mutate.proofs.kills.runs.run_items.Given as goal

abbrev pub invariant-loop-next : goal.invariant-loop-next
invariant-loop-next g l = record {
  program : l.machine.program ≡ l.initial.machine.program;
  cover : l.recorder.cover ≡ l.initial.recorder.cover;
  shape : l.recorder.view.shape ≡ l.initial.recorder.cover.shape;
  at_work : IsAtWork (worker_does l.task) l.recorder.view;
  more : length l.initial.recorder.view.claims ≤ length l.recorder.view.claims;
}

abbrev pub decreases-loop-next : goal.decreases-loop-next
decreases-loop-next g l = l.initial.recorder.cover.shape.tests - length l.recorder.view.claims
