use Rattle.std.proofs.Common.{◌≡◌, drop, map}
use Rattle.mc_tree.specs.Units.{block_item_of, block_from}
use Rattle.mc_subset.specs.Nodes.{nodes_of_block}
use Rattle.mc_subset.specs.Forms.{first_outside}
use Rattle.mc_subset.proofs.statements.+check.Given as goal

abbrev pub invariant-block-loop-tree : goal.invariant-block-loop-tree
invariant-block-loop-tree l = first_outside (nodes_of_block l.standing (block_from (map block_item_of (drop l.tree-index l.trees)))) ≡ first_outside (nodes_of_block l.fn.standing (block_from (map block_item_of l.trees)))
