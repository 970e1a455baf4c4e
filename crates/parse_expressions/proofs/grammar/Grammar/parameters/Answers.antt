use Rattle.std.proofs.Common.{arith}
use Rattle.parse_expressions.proofs.Parts.{parameters_steps}
use Rattle.parse_expressions.proofs.grammar.Grammar.parameters.Goals as goal

pub returns-in_err-one-clause-parameters : goal.returns-in_err-one-clause-parameters
returns-in_err-one-clause-parameters g c = grind (arith, parameters_steps)

pub loop-turn-preserved : goal.loop-turn-preserved
loop-turn-preserved g c = grind (arith, parameters_steps)

pub returns-clause-parameters : goal.returns-clause-parameters
returns-clause-parameters g c = grind (arith, parameters_steps)
