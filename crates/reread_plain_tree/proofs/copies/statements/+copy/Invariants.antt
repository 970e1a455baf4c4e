-- What is copied, with what is still to come, is the whole.
use Rattle.std.proofs.Common.{◌≡◌, ◌++◌, drop, map}
use Rattle.mc_tree.specs.Tree as t
use Rattle.mc_tree.specs.Units.{block_item_of}
use Rattle.reread_plain_tree.specs.Unprobed.{unprobed_block}
use Rattle.reread_plain_tree.proofs.copies.statements.+copy.Given as goal

abbrev pub invariant-block-loop-tree : goal.invariant-block-loop-tree
invariant-block-loop-tree l = map (λ a. block_item_of a t.no_block_items) l.copies.items ++ map (λ a. unprobed_block (block_item_of a t.no_block_items)) (drop l.tree-index l.trees) ≡ map (λ a. unprobed_block (block_item_of a t.no_block_items)) l.trees
