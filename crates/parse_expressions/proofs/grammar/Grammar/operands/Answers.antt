use Rattle.std.proofs.Common.{arith}
use Rattle.laws_grammar.specs.Expressions.{operands_of}
use Rattle.parse_expressions.proofs.grammar.Grammar.operands.Goals as goal

pub returns-clause-tree : goal.returns-clause-tree
unfolding operands_of
returns-clause-tree g c = grind (arith)

pub returns-in_err-expressions-clause-tree : goal.returns-in_err-expressions-clause-tree
unfolding operands_of
returns-in_err-expressions-clause-tree g c = grind (arith)

pub returns-in_err-push-clause-tree : goal.returns-in_err-push-clause-tree
unfolding operands_of
returns-in_err-push-clause-tree g c = grind (arith)

pub returns-in_err-take-clause-tree : goal.returns-in_err-take-clause-tree
unfolding operands_of
returns-in_err-take-clause-tree g c = grind (arith)

pub returns-then-is_too_high-clause-tree : goal.returns-then-is_too_high-clause-tree
unfolding operands_of
returns-then-is_too_high-clause-tree g c = grind (arith)
