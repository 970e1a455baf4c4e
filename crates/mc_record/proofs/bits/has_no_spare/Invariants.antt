use Rattle.std.proofs.Common.{◌≡◌, length}
use Rattle.mc_record.specs.Bits.{has_no_spare}
use Rattle.mc_record.proofs.bits.has_no_spare.Given as goal

abbrev pub invariant-loop-left : goal.invariant-loop-left
invariant-loop-left l = has_no_spare l.tests l.words ≡ has_no_spare l.tests_left l.left

abbrev pub decreases-loop-left : goal.decreases-loop-left
decreases-loop-left l = length l.left
