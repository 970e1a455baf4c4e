use Rattle.std.proofs.Common.{◌≡◌, ◌+◌, length}
use Rattle.mc_record.specs.Merged.{same_from}
use Rattle.mc_record.proofs.same.same_test.Given as goal

abbrev pub invariant-loop-names_left : goal.invariant-loop-names_left
invariant-loop-names_left l = record {
  count : l.number + length l.names_left ≡ length l.fn.right;
  same : same_from l.fn.left 0 l.fn.right ≡ same_from l.fn.left l.number l.names_left;
}

abbrev pub decreases-loop-names_left : goal.decreases-loop-names_left
decreases-loop-names_left l = length l.names_left
