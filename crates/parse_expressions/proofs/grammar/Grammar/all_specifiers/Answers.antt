use Rattle.std.proofs.Common.{arith}
use Rattle.parse_expressions.proofs.Parts.{specifiers_steps}
use Rattle.parse_expressions.proofs.grammar.Grammar.all_specifiers.Goals as goal

pub returns-then-not-goes_on-clause-specifiers : goal.returns-then-not-goes_on-clause-specifiers
returns-then-not-goes_on-clause-specifiers g c = grind (arith, specifiers_steps)

pub returns-in_err-one-clause-specifiers : goal.returns-in_err-one-clause-specifiers
returns-in_err-one-clause-specifiers g c = grind (arith, specifiers_steps)

pub loop-turn-preserved : goal.loop-turn-preserved
loop-turn-preserved g c = grind (arith, specifiers_steps)

pub returns-clause-specifiers : goal.returns-clause-specifiers
returns-clause-specifiers g c = grind (arith, specifiers_steps)
