use Rattle.std.proofs.Common.{◌≡◌, ◌<◌, ◌^◌, ◌+◌, ◌++◌, length}
use Rattle.mc_tree.specs.Units.{items_of}
use Rattle.types_rules.specs.Typing as ty
use Rattle.types_declarations.proofs.units.add_bodies.Given as goal

abbrev pub invariant-loop-left : goal.invariant-loop-left
invariant-loop-left l = record {
  named : l.bodies ++ ty.bodies_of (items_of l.left) ≡ l.fn.bodies ++ ty.bodies_of (items_of l.fn.items);
  count : length l.bodies + length l.left < 2 ^ 32;
}

abbrev pub decreases-loop-left : goal.decreases-loop-left
decreases-loop-left l = length l.left
