use Rattle.std.proofs.Common.{◌≡◌, length}
use Rattle.mc_adapt.specs.Texts.{empty_list_follows}
use Rattle.mc_adapt.specs.Seen.{markings_of}
use Rattle.mc_adapt.proofs.void.empty_list_follows.Given as goal

abbrev pub invariant-loop-left : goal.invariant-loop-left
invariant-loop-left l = empty_list_follows (markings_of l.left) ≡ empty_list_follows (markings_of l.marked)

abbrev pub decreases-loop-left : goal.decreases-loop-left
decreases-loop-left l = length l.left
