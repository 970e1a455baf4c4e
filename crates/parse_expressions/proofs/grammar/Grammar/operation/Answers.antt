use Rattle.std.proofs.Common.{arith}
use Rattle.laws_grammar.specs.Expressions.{operation_of}
use Rattle.parse_expressions.proofs.grammar.Grammar.operation.Goals as goal

pub returns-clause-tree : goal.returns-clause-tree
unfolding operation_of
returns-clause-tree g c = grind (arith)

pub returns-in_err-right-clause-tree : goal.returns-in_err-right-clause-tree
unfolding operation_of
returns-in_err-right-clause-tree g c = grind (arith)

pub returns-in_err-take-clause-tree : goal.returns-in_err-take-clause-tree
unfolding operation_of
returns-in_err-take-clause-tree g c = grind (arith)

pub returns-then-is_too_high-clause-tree : goal.returns-then-is_too_high-clause-tree
unfolding operation_of
returns-then-is_too_high-clause-tree g c = grind (arith)
