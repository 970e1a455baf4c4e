use Rattle.std.proofs.Common.{arith}
use Rattle.parse_expressions.proofs.Parts.{lengths_steps}
use Rattle.parse_expressions.proofs.grammar.Grammar.lengths.Goals as goal

pub returns-then-not-sees-clause-lengths : goal.returns-then-not-sees-clause-lengths
returns-then-not-sees-clause-lengths g c = grind (arith, lengths_steps)

pub returns-in_err-one-clause-lengths : goal.returns-in_err-one-clause-lengths
returns-in_err-one-clause-lengths g c = grind (arith, lengths_steps)

pub loop-turn-preserved : goal.loop-turn-preserved
loop-turn-preserved g c = grind (arith, lengths_steps)

pub returns-clause-lengths : goal.returns-clause-lengths
returns-clause-lengths g c = grind (arith, lengths_steps)
