use Rattle.std.proofs.Common.{◌≡◌, length}
use Rattle.mc_places.specs.Comments.{stays_open}
use Rattle.mc_places.proofs.comment.stays_open.Given as goal

abbrev pub invariant-loop-left : goal.invariant-loop-left
invariant-loop-left l = stays_open l.open_now l.left ≡ stays_open l.is_open l.line

abbrev pub decreases-loop-left : goal.decreases-loop-left
decreases-loop-left l = length l.left
