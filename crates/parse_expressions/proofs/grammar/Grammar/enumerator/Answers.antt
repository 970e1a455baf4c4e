use Rattle.std.proofs.Common.{arith}
use Rattle.laws_grammar.specs.Specifiers.{enumerator_of}
use Rattle.parse_expressions.proofs.grammar.Grammar.enumerator.Goals as goal

pub returns-clause-enumerator : goal.returns-clause-enumerator
unfolding enumerator_of
returns-clause-enumerator g c = grind (arith)

pub returns-in_err-name-clause-enumerator : goal.returns-in_err-name-clause-enumerator
unfolding enumerator_of
returns-in_err-name-clause-enumerator g c = grind (arith)

pub returns-in_err-value-clause-enumerator : goal.returns-in_err-value-clause-enumerator
unfolding enumerator_of
returns-in_err-value-clause-enumerator g c = grind (arith)
