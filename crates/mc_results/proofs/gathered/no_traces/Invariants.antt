use Rattle.std.proofs.Common.{◌≡◌, ◌≤◌, None, replicate, vec_capacity}
use Rattle.mc_results.proofs.gathered.no_traces.Given as goal

abbrev pub invariant-loop-test : goal.invariant-loop-test
invariant-loop-test l = record {
  slots : l.slots.items ≡ replicate l._test None;
  room : l.count ≤ vec_capacity l.slots;
}
