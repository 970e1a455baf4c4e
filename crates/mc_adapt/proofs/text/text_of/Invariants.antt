use Rattle.std.proofs.Common.{◌≡◌, ◌++◌, length}
use Rattle.mc_adapt.specs.Texts.{text_from, text_of}
use Rattle.mc_adapt.specs.Seen.{markings_of}
use Rattle.mc_adapt.proofs.text.text_of.Given as goal

abbrev pub invariant-loop-left : goal.invariant-loop-left
invariant-loop-left l = l.text.items ++ text_from l.named (markings_of l.left) ≡ text_of (markings_of l.marked)

abbrev pub decreases-loop-left : goal.decreases-loop-left
decreases-loop-left l = length l.left
