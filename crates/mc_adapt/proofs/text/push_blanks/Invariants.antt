use Rattle.std.proofs.Common.{◌≡◌, ◌++◌, length}
use Rattle.mc_adapt.specs.Texts.{blanks}
use Rattle.mc_adapt.proofs.text.push_blanks.Given as goal

abbrev pub invariant-loop-left : goal.invariant-loop-left
invariant-loop-left l = l.text.items ++ blanks l.left ≡ l.fn.text.items ++ blanks l.bytes

abbrev pub decreases-loop-left : goal.decreases-loop-left
decreases-loop-left l = length l.left
