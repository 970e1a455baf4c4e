use Rattle.std.proofs.Common.{arith}
use Rattle.laws_grammar.specs.Expressions.{parenthesized_of}
use Rattle.parse_expressions.proofs.grammar.Grammar.parenthesized.Goals as goal

pub returns-clause-tree : goal.returns-clause-tree
unfolding parenthesized_of
returns-clause-tree g c = grind (arith)

pub returns-in_err-inner-clause-tree : goal.returns-in_err-inner-clause-tree
unfolding parenthesized_of
returns-in_err-inner-clause-tree g c = grind (arith)

pub returns-in_err-open-clause-tree : goal.returns-in_err-open-clause-tree
unfolding parenthesized_of
returns-in_err-open-clause-tree g c = grind (arith)

pub returns-then-sees_specifiers-clause-tree : goal.returns-then-sees_specifiers-clause-tree
unfolding parenthesized_of
returns-then-sees_specifiers-clause-tree g c = grind (arith)
