use Rattle.std.proofs.Common.{arith}
use Rattle.laws_grammar.specs.Expressions.{type_name_of}
use Rattle.parse_expressions.proofs.grammar.Grammar.type_name.Goals as goal

pub returns-clause-name : goal.returns-clause-name
unfolding type_name_of
returns-clause-name g c = grind (arith)

pub returns-in_err-read-clause-name : goal.returns-in_err-read-clause-name
unfolding type_name_of
returns-in_err-read-clause-name g c = grind (arith)

pub returns-in_err-start-clause-name : goal.returns-in_err-start-clause-name
unfolding type_name_of
returns-in_err-start-clause-name g c = grind (arith)
