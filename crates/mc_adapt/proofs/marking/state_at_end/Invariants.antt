use Rattle.std.proofs.Common.{◌≡◌, length}
use Rattle.mc_adapt.specs.States.{start}
use Rattle.mc_adapt.specs.Outside.{state_at_end}
use Rattle.mc_adapt.specs.Seen.{markings_of}
use Rattle.mc_adapt.proofs.marking.state_at_end.Given as goal

abbrev pub invariant-loop-left : goal.invariant-loop-left
invariant-loop-left l = state_at_end l.state (markings_of l.left) ≡ state_at_end start (markings_of l.marked)

abbrev pub decreases-loop-left : goal.decreases-loop-left
decreases-loop-left l = length l.left
