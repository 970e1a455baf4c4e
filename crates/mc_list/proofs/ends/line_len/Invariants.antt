use Rattle.std.proofs.Common.{◌≡◌, ◌+◌, length}
use Rattle.mc_list.specs.steps.First.{first_len}
use Rattle.mc_list.proofs.ends.line_len.Given as goal

abbrev pub invariant-loop-left : goal.invariant-loop-left
invariant-loop-left l = record {
  len : l.len + first_len l.left ≡ first_len l.bytes;
  whole : l.len + length l.left ≡ length l.bytes;
}

abbrev pub decreases-loop-left : goal.decreases-loop-left
decreases-loop-left l = length l.left
