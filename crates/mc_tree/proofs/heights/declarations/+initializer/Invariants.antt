use Rattle.std.proofs.Common.{◌≡◌, ◌+◌, max, drop, map}
use Rattle.mc_tree.specs.Units.{initializer_of, initializers_from}
use Rattle.mc_tree.specs.Height as h
use Rattle.mc_tree.proofs.heights.declarations.+initializer.Given as goal

abbrev pub invariant-loop-item : goal.invariant-loop-item
invariant-loop-item l = max l.tallest (h.height_initializers (initializers_from (map initializer_of (drop l.item-index l.item-items)))) + 1 ≡ h.height_initializer (initializer_of l.tree)
