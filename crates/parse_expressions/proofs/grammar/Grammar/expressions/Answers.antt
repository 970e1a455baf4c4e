use Rattle.std.proofs.Common.{arith}
use Rattle.parse_expressions.proofs.Lists.{expressions_steps}
use Rattle.parse_expressions.proofs.grammar.Grammar.expressions.Goals as goal

pub returns-in_err-one-clause-all : goal.returns-in_err-one-clause-all
returns-in_err-one-clause-all g c = grind (arith, expressions_steps)

pub loop-turn-preserved : goal.loop-turn-preserved
loop-turn-preserved g c = grind (arith, expressions_steps)

pub returns-clause-all : goal.returns-clause-all
returns-clause-all g c = grind (arith, expressions_steps)
