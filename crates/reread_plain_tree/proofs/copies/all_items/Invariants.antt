-- What is copied, with what is still to come, is the whole.
use Rattle.std.proofs.Common.{◌≡◌, ◌++◌, drop, map}
use Rattle.mc_tree.specs.Units.{item_of}
use Rattle.reread_plain_tree.specs.Unprobed.{unprobed_item}
use Rattle.reread_plain_tree.proofs.copies.all_items.Given as goal

abbrev pub invariant-loop-tree : goal.invariant-loop-tree
invariant-loop-tree l = map item_of l.copies.items ++ map unprobed_item (map item_of (drop l.tree-index l.trees)) ≡ map unprobed_item (map item_of l.trees)
