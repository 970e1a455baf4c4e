-- The walk so far, and then over what is still to come, is the walk over all.
use Rattle.std.proofs.Common.{◌≡◌, drop, map}
use Rattle.mc_tree.specs.Units.{block_from, block_item_of}
use Rattle.reread_probes.specs.Statements.{walk_block}
use Rattle.reread_probes.specs.steps.Views.{walk_of}
use Rattle.reread_probes.proofs.statements.+walk.Given as goal

abbrev pub invariant-block-loop-tree : goal.invariant-block-loop-tree
invariant-block-loop-tree l = walk_block (block_from (map block_item_of (drop l.tree-index l.trees))) (walk_of l.walk) ≡ walk_block (block_from (map block_item_of l.trees)) (walk_of l.fn.walk)
