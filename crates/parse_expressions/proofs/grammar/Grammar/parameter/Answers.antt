use Rattle.std.proofs.Common.{arith}
use Rattle.laws_grammar.specs.Specifiers.{parameter_of}
use Rattle.parse_expressions.proofs.grammar.Grammar.parameter.Goals as goal

pub returns-clause-parameter : goal.returns-clause-parameter
unfolding parameter_of
returns-clause-parameter g c = grind (arith)

pub returns-in_err-read-clause-parameter : goal.returns-in_err-read-clause-parameter
unfolding parameter_of
returns-in_err-read-clause-parameter g c = grind (arith)

pub returns-in_err-start-clause-parameter : goal.returns-in_err-start-clause-parameter
unfolding parameter_of
returns-in_err-start-clause-parameter g c = grind (arith)
