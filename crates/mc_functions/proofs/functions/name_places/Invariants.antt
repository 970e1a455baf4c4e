use Rattle.std.proofs.Common.{◌≡◌, ◌++◌, length}
use Rattle.mc_functions.specs.Standing.{name_places}
use Rattle.mc_functions.proofs.functions.name_places.Given as goal

abbrev pub invariant-loop-left : goal.invariant-loop-left
invariant-loop-left l = l.names.items ++ name_places l.left ≡ name_places l.obligations

abbrev pub decreases-loop-left : goal.decreases-loop-left
decreases-loop-left l = length l.left
