use Rattle.std.proofs.Common.{arith}
use Rattle.std.proofs.lemmas.Grind.{common_steps}
use Rattle.reread_probes.proofs.declarations.has_static.Goals as goal

pub loop-tree-preserved : goal.loop-tree-preserved
loop-tree-preserved c = grind (arith, common_steps)

pub returns-then-is_static : goal.returns-then-is_static
returns-then-is_static c = grind (arith, common_steps)
