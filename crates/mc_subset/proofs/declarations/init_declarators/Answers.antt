use Rattle.std.proofs.Common.{arith}
use Rattle.mc_subset.proofs.Order.{lists}
use Rattle.mc_subset.proofs.declarations.init_declarators.Goals as goal

pub loop-tree-preserved : goal.loop-tree-preserved
loop-tree-preserved c = grind (arith, lists)

pub returns-in-Some : goal.returns-in-Some
returns-in-Some c = grind (arith, lists)
