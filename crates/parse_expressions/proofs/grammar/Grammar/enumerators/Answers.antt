use Rattle.std.proofs.Common.{arith}
use Rattle.parse_expressions.proofs.Parts.{enumerators_steps}
use Rattle.parse_expressions.proofs.grammar.Grammar.enumerators.Goals as goal

pub returns-in_err-one-clause-enumerators : goal.returns-in_err-one-clause-enumerators
returns-in_err-one-clause-enumerators g c = grind (arith, enumerators_steps)

pub returns-then-sees-clause-enumerators : goal.returns-then-sees-clause-enumerators
returns-then-sees-clause-enumerators g c = grind (arith, enumerators_steps)

pub loop-turn-preserved : goal.loop-turn-preserved
loop-turn-preserved g c = grind (arith, enumerators_steps)

pub returns-clause-enumerators : goal.returns-clause-enumerators
returns-clause-enumerators g c = grind (arith, enumerators_steps)
