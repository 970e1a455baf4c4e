use Rattle.std.proofs.Common.{◌≡◌, ◌+◌, ◌*◌, ◌<◌, ℕ, length, get_or}
use Rattle.mc_core.specs.Shape.{rows}
use Rattle.mc_reduce.proofs.columns.words_at.Given as goal

abbrev pub invariant-loop-bit : goal.invariant-loop-bit
invariant-loop-bit l = record {
  count : length l.found.items ≡ l.bit;
  each : (b : ℕ) → b < l.bit → get_or l.found.items b 0 ≡ get_or l.matrix.words (b * rows l.matrix.shape + l.row) 0;
}
