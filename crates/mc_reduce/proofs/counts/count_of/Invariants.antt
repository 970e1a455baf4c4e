use Rattle.std.proofs.Common.{◌≡◌, ◌≤◌}
use Rattle.mc_reduce.specs.steps.Counts.{count_below}
use Rattle.mc_reduce.proofs.counts.count_of.Given as goal

abbrev pub invariant-loop-test : goal.invariant-loop-test
invariant-loop-test l = record {
  value : l.count ≡ count_below l.matrix l.bit l.test;
  few : l.count ≤ l.test;
}
