use Rattle.std.proofs.Common.{arith}
use Rattle.laws_grammar.specs.Specifiers.{specifier_of}
use Rattle.parse_expressions.proofs.grammar.Grammar.specifier.Goals as goal

pub returns-clause-specifier : goal.returns-clause-specifier
unfolding specifier_of
returns-clause-specifier g c = grind (arith)

pub returns-in-Some-clause-specifier : goal.returns-in-Some-clause-specifier
unfolding specifier_of
returns-in-Some-clause-specifier g c = grind (arith)

pub returns-then-sees_keyword-2-clause-specifier : goal.returns-then-sees_keyword-2-clause-specifier
unfolding specifier_of
returns-then-sees_keyword-2-clause-specifier g c = grind (arith)

pub returns-then-sees_keyword-clause-specifier : goal.returns-then-sees_keyword-clause-specifier
unfolding specifier_of
returns-then-sees_keyword-clause-specifier g c = grind (arith)
