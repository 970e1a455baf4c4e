use Rattle.std.proofs.Common.{arith, ◌≡◌, map}
use Rattle.std.proofs.lemmas.Grind.{common_steps}
use Rattle.mc_tree.specs.Tree as tree
use Rattle.mc_tree.specs.Units.{block_item_of}
use Rattle.reread_plain_tree.specs.Unprobed.{unprobed_block}
use Rattle.reread_plain_tree.proofs.Blocks.{block_copied}
use Rattle.reread_plain_tree.proofs.copies.statements.+copy.Goals as goal

pub block-returns : goal.block-returns
block-returns t c =
    let all : map (λ a. block_item_of a tree.no_block_items) c.loop-tree.copies.items ≡ map (λ a. unprobed_block (block_item_of a tree.no_block_items)) c.args.trees.now = grind (arith, common_steps) in
    block_copied c.args.trees.now c.loop-tree.copies.items all
