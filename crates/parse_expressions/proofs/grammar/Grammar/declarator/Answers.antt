use Rattle.std.proofs.Common.{arith}
use Rattle.laws_grammar.specs.Specifiers.{declarator_of}
use Rattle.parse_expressions.proofs.grammar.Grammar.declarator.Goals as goal

pub returns-clause-declarator : goal.returns-clause-declarator
unfolding declarator_of
returns-clause-declarator g c = grind (arith)

pub returns-in_err-name-clause-declarator : goal.returns-in_err-name-clause-declarator
unfolding declarator_of
returns-in_err-name-clause-declarator g c = grind (arith)

pub returns-in_err-stars-clause-declarator : goal.returns-in_err-stars-clause-declarator
unfolding declarator_of
returns-in_err-stars-clause-declarator g c = grind (arith)

pub returns-in_err-start-clause-declarator : goal.returns-in_err-start-clause-declarator
unfolding declarator_of
returns-in_err-start-clause-declarator g c = grind (arith)

pub returns-then-sees-clause-declarator : goal.returns-then-sees-clause-declarator
unfolding declarator_of
returns-then-sees-clause-declarator g c = grind (arith)
