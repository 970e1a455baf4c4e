use Rattle.std.proofs.Common.{◌≡◌, ◌++◌, length}
use Rattle.mc_adapt.specs.Outside.{refusals, refusals_of}
use Rattle.mc_adapt.specs.Seen.{markings_of}
use Rattle.mc_adapt.proofs.adapting.faults_of.Given as goal

abbrev pub invariant-loop-left : goal.invariant-loop-left
invariant-loop-left l = refusals_of l.faults.items ++ refusals (markings_of l.left) ≡ refusals (markings_of l.marked)

abbrev pub decreases-loop-left : goal.decreases-loop-left
decreases-loop-left l = length l.left
