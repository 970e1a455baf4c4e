use Rattle.std.proofs.Common.{arith}
use Rattle.laws_grammar.specs.Specifiers.{specifiers_of}
use Rattle.parse_expressions.proofs.grammar.Grammar.specifiers.Goals as goal

pub returns-clause-specifiers : goal.returns-clause-specifiers
unfolding specifiers_of
returns-clause-specifiers g c = grind (arith)

pub returns-in_err-read-clause-specifiers : goal.returns-in_err-read-clause-specifiers
unfolding specifiers_of
returns-in_err-read-clause-specifiers g c = grind (arith)

pub returns-then-allows-clause-specifiers : goal.returns-then-allows-clause-specifiers
unfolding specifiers_of
returns-then-allows-clause-specifiers g c = grind (arith)
