use Rattle.std.proofs.Common.{arith}
use Rattle.laws_grammar.specs.Specifiers.{length_of}
use Rattle.parse_expressions.proofs.grammar.Grammar.length.Goals as goal

pub returns-clause-length : goal.returns-clause-length
unfolding length_of
returns-clause-length g c = grind (arith)

pub returns-in_err-take-clause-length : goal.returns-in_err-take-clause-length
unfolding length_of
returns-in_err-take-clause-length g c = grind (arith)

pub returns-in_err-value-clause-length : goal.returns-in_err-value-clause-length
unfolding length_of
returns-in_err-value-clause-length g c = grind (arith)

pub returns-then-sees-clause-length : goal.returns-then-sees-clause-length
unfolding length_of
returns-then-sees-clause-length g c = grind (arith)
