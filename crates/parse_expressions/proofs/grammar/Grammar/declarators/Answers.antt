use Rattle.std.proofs.Common.{arith}
use Rattle.parse_expressions.proofs.Parts.{declarators_steps}
use Rattle.parse_expressions.proofs.grammar.Grammar.declarators.Goals as goal

pub returns-in_err-one-clause-declarators : goal.returns-in_err-one-clause-declarators
returns-in_err-one-clause-declarators g c = grind (arith, declarators_steps)

pub loop-turn-preserved : goal.loop-turn-preserved
loop-turn-preserved g c = grind (arith, declarators_steps)

pub returns-clause-declarators : goal.returns-clause-declarators
returns-clause-declarators g c = grind (arith, declarators_steps)
