use Rattle.std.proofs.Common.{arith}
use Rattle.parse_expressions.proofs.Turns.{operations_steps}
use Rattle.parse_expressions.proofs.grammar.Grammar.operations.Goals as goal

pub returns-in-None-clause-tree : goal.returns-in-None-clause-tree
returns-in-None-clause-tree g c = grind (arith, operations_steps)

pub returns-in_err-left-in-Some-clause-tree : goal.returns-in_err-left-in-Some-clause-tree
returns-in_err-left-in-Some-clause-tree g c = grind (arith, operations_steps)

pub loop-turn-preserved : goal.loop-turn-preserved
loop-turn-preserved g c = grind (arith, operations_steps)

pub returns-clause-tree : goal.returns-clause-tree
returns-clause-tree g c = grind (arith, operations_steps)
