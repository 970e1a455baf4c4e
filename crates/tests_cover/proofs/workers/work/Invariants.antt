use Rattle.std.proofs.Common.{◌-◌, length}
use Rattle.tests_cover.specs.Workers.{IsRunning}
use Rattle.tests_cover.proofs.workers.work.Given as goal

abbrev pub invariant-loop-test : goal.invariant-loop-test
invariant-loop-test l = record {
  running : IsRunning l.cover l.pass;
}

abbrev pub decreases-loop-test : goal.decreases-loop-test
decreases-loop-test l = l.cover.shape.tests - length l.pass.view.claims
