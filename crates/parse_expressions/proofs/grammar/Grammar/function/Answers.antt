use Rattle.std.proofs.Common.{arith}
use Rattle.laws_grammar.specs.Specifiers.{parameters_of}
use Rattle.parse_expressions.proofs.grammar.Grammar.function.Goals as goal

pub returns-clause-declarator : goal.returns-clause-declarator
unfolding parameters_of
returns-clause-declarator g c = grind (arith)

pub returns-in_err-expect-clause-declarator : goal.returns-in_err-expect-clause-declarator
unfolding parameters_of
returns-in_err-expect-clause-declarator g c = grind (arith)

pub returns-in_err-parameters-clause-declarator : goal.returns-in_err-parameters-clause-declarator
unfolding parameters_of
returns-in_err-parameters-clause-declarator g c = grind (arith)

pub returns-in-Some-clause-declarator : goal.returns-in-Some-clause-declarator
unfolding parameters_of
returns-in-Some-clause-declarator g c = grind (arith)

pub returns-then-sees_void_alone-clause-declarator : goal.returns-then-sees_void_alone-clause-declarator
unfolding parameters_of
returns-then-sees_void_alone-clause-declarator g c = grind (arith)
