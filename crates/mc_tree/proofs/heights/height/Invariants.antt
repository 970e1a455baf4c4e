use Rattle.std.proofs.Common.{◌≡◌, max, drop}
use Rattle.mc_tree.specs.Units.{items_of}
use Rattle.mc_tree.specs.Height.{height_unit}
use Rattle.mc_tree.proofs.heights.height.Given as goal

abbrev pub invariant-loop-item : goal.invariant-loop-item
invariant-loop-item l = max l.tallest (height_unit (items_of (drop l.item-index l.unit.items.items))) ≡ height_unit (items_of l.unit.items.items)
