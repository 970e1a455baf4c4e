use Rattle.std.proofs.Common.{◌≡◌, ◌<◌, ℕ, length, get_or}
use Rattle.mc_reduce.specs.steps.Counts.{count_below}
use Rattle.mc_reduce.proofs.counts.counts.Given as goal

abbrev pub invariant-loop-bit : goal.invariant-loop-bit
invariant-loop-bit l = record {
  count : length l.found.items ≡ l.bit;
  each : (b : ℕ) → b < l.bit → get_or l.found.items b 0 ≡ count_below l.matrix b l.matrix.shape.tests;
}
