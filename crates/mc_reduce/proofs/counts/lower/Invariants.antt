use Rattle.std.proofs.Common.{◌≡◌, ◌+◌, ◌<◌, ◌≤◌, ◌%◌, ℕ, get_or}
use Rattle.std.specs.Int.{bit_at}
use Rattle.mc_reduce.proofs.counts.lower.Given as goal

abbrev pub invariant-loop-bit : goal.invariant-loop-bit
invariant-loop-bit l = record {
  done : (b : ℕ) → b < l.bit → get_or l.counts b 0 + bit_at (get_or l.words b 0) (l.test % 64) ≡ get_or l.fn.counts b 0;
  left : (b : ℕ) → l.bit ≤ b → get_or l.counts b 0 ≡ get_or l.fn.counts b 0;
}
