use Rattle.std.proofs.Common.{arith}
use Rattle.std.proofs.lemmas.Grind.{common_steps}
use Rattle.mc_subset.proofs.rows.has_const.Goals as goal

pub loop-tree-preserved : goal.loop-tree-preserved
loop-tree-preserved c = grind (arith, common_steps)

pub returns-then-is_const : goal.returns-then-is_const
returns-then-is_const c = grind (arith, common_steps)
