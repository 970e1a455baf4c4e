use Rattle.std.proofs.Common.{◌≡◌, length}
use Rattle.mc_meaning.specs.Tests.{same_numbers}
use Rattle.runner_steps.proofs.expected.same_numbers.Given as goal

abbrev pub invariant-loop-left : goal.invariant-loop-left
invariant-loop-left l = same_numbers l.left l.right ≡ same_numbers l.fn.one l.fn.other

abbrev pub decreases-loop-left : goal.decreases-loop-left
decreases-loop-left l = length l.left
