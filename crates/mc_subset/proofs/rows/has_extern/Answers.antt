use Rattle.std.proofs.Common.{arith}
use Rattle.std.proofs.lemmas.Grind.{common_steps}
use Rattle.mc_subset.proofs.rows.has_extern.Goals as goal

pub loop-tree-preserved : goal.loop-tree-preserved
loop-tree-preserved c = grind (arith, common_steps)

pub returns-then-is_extern : goal.returns-then-is_extern
returns-then-is_extern c = grind (arith, common_steps)
