use Rattle.std.proofs.Common.{arith}
use Rattle.laws_grammar.specs.Expressions.{assignment_of}
use Rattle.parse_expressions.proofs.grammar.Grammar.assignment.Goals as goal

pub returns-clause-tree : goal.returns-clause-tree
unfolding assignment_of
returns-clause-tree g c = grind (arith)

pub returns-in_err-take-clause-tree : goal.returns-in_err-take-clause-tree
unfolding assignment_of
returns-in_err-take-clause-tree g c = grind (arith)

pub returns-in_err-value-clause-tree : goal.returns-in_err-value-clause-tree
unfolding assignment_of
returns-in_err-value-clause-tree g c = grind (arith)

pub returns-then-is_too_high-clause-tree : goal.returns-then-is_too_high-clause-tree
unfolding assignment_of
returns-then-is_too_high-clause-tree g c = grind (arith)
