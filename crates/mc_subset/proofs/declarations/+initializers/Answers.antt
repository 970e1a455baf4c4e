use Rattle.std.proofs.Common.{arith}
use Rattle.mc_subset.proofs.Order.{lists}
use Rattle.mc_subset.proofs.declarations.+initializers.Goals as goal

pub initializers-loop-tree-preserved : goal.initializers-loop-tree-preserved
initializers-loop-tree-preserved t c = grind (arith, lists)

pub initializers-returns-in-Some : goal.initializers-returns-in-Some
initializers-returns-in-Some t c = grind (arith, lists)
