use Rattle.std.proofs.Common.{◌≡◌}
use Rattle.tests_cover.proofs.workers.run_test.Given as goal

abbrev pub invariant-loop-factor : goal.invariant-loop-factor
invariant-loop-factor l = record {
  same : l.pass ≡ record l.initial.pass { view = record l.initial.pass.view { hits = l.pass.view.hits } };
}
