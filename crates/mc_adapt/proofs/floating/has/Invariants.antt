use Rattle.std.proofs.Common.{◌≡◌, length}
use Rattle.mc_lex.specs.Numbers.{has}
use Rattle.mc_adapt.proofs.floating.has.Given as goal

abbrev pub invariant-loop-left : goal.invariant-loop-left
invariant-loop-left l = has l.byte l.text ≡ has l.byte l.left

abbrev pub decreases-loop-left : goal.decreases-loop-left
decreases-loop-left l = length l.left
