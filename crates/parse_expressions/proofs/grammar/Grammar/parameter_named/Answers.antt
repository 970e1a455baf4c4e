use Rattle.std.proofs.Common.{arith}
use Rattle.parse_expressions.proofs.Parts.{name_steps}
use Rattle.parse_expressions.proofs.grammar.Grammar.parameter_named.Goals as goal

pub returns-in_err-stars-clause-parameter : goal.returns-in_err-stars-clause-parameter
returns-in_err-stars-clause-parameter g c = grind (arith, name_steps)

pub returns-clause-parameter : goal.returns-clause-parameter
returns-clause-parameter g c = grind (arith, name_steps)
