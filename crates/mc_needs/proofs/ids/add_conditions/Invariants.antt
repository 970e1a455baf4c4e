use Rattle.std.proofs.Common.{◌≡◌, ◌++◌, length}
use Rattle.mc_needs.specs.Asked.{asked_conditions}
use Rattle.mc_needs.proofs.ids.add_conditions.Given as goal

abbrev pub invariant-loop-left : goal.invariant-loop-left
invariant-loop-left l =
    l.ids.items ++ asked_conditions l.left l.asked_left ≡ l.fn.ids.items ++ asked_conditions l.fn.obligations l.fn.asked

abbrev pub decreases-loop-left : goal.decreases-loop-left
decreases-loop-left l = length l.left
