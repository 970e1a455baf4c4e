use Rattle.std.proofs.Common.{◌≡◌, ◌-◌, length, map}
use Rattle.cover_recorder.specs.Crew.{IsAtWork}
use Rattle.mc_probe.specs.Trees.{tree_of}
use Rattle.mc_typed.specs.Plans.{plan_of}
use Rattle.mc_runner.specs.Jobs.{AreTold, does_of, told_all}
use Rattle.mc_runner.proofs.job.run_claimed.Given as goal

abbrev pub invariant-loop-test : goal.invariant-loop-test
invariant-loop-test g l = record {
  program : l.machine.program ≡ l.initial.machine.program;
  cover : l.recorder.cover ≡ l.initial.recorder.cover;
  shape : l.recorder.view.shape ≡ l.initial.recorder.cover.shape;
  at_work : IsAtWork (does_of (tree_of l.initial.machine.program) (map plan_of l.plans)) l.recorder.view;
  told : AreTold (told_all (tree_of l.initial.machine.program) (map plan_of l.plans)) l.recorder.view.claims l.results.items;
}

abbrev pub decreases-loop-test : goal.decreases-loop-test
decreases-loop-test g l = l.initial.recorder.cover.shape.tests - length l.recorder.view.claims
