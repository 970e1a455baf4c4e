use Rattle.std.proofs.Common.{◌≡◌, max, drop, map}
use Rattle.mc_tree.specs.Units.{block_item_of, block_from}
use Rattle.mc_tree.specs.Height as h
use Rattle.mc_tree.proofs.heights.statements.+height.Given as goal

abbrev pub invariant-block-loop-tree : goal.invariant-block-loop-tree
invariant-block-loop-tree l = max l.tallest (h.height_block (block_from (map block_item_of (drop l.tree-index l.trees)))) ≡ h.height_block (block_from (map block_item_of l.trees))
