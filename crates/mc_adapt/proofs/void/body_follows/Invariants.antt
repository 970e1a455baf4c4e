use Rattle.std.proofs.Common.{◌≡◌, length}
use Rattle.mc_adapt.specs.Texts.{body_follows}
use Rattle.mc_adapt.specs.Seen.{markings_of}
use Rattle.mc_adapt.proofs.void.body_follows.Given as goal

abbrev pub invariant-loop-left : goal.invariant-loop-left
invariant-loop-left l = body_follows (markings_of l.left) ≡ body_follows (markings_of l.marked)

abbrev pub decreases-loop-left : goal.decreases-loop-left
decreases-loop-left l = length l.left
