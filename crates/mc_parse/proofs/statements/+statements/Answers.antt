-- The loop over the items of a block.
use Rattle.std.proofs.Common.{arith}
use Rattle.parse_expressions.proofs.Lists.{until_steps}
use Rattle.mc_parse.proofs.statements.+statements.Goals as goal

pub blocks::block_items-loop-turn-preserved : goal.blocks::block_items-loop-turn-preserved
blocks::block_items-loop-turn-preserved t c = grind (arith, until_steps)
