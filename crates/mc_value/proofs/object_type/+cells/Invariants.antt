use Rattle.std.proofs.Common.{◌≡◌, map, sum, ◌+◌, drop}
use Rattle.mc_value.specs.ObjectTypes.{cells_of}
use Rattle.mc_value.proofs.object_type.+cells.Given as goal

abbrev pub invariant-cells_of_all-loop-member : goal.invariant-cells_of_all-loop-member
invariant-cells_of_all-loop-member l = l.total + sum (map cells_of (drop l.member-index l.members)) ≡ sum (map cells_of l.members)
