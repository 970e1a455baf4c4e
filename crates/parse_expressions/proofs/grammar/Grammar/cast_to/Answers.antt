use Rattle.std.proofs.Common.{arith}
use Rattle.laws_grammar.specs.Expressions.{cast_to_of}
use Rattle.parse_expressions.proofs.grammar.Grammar.cast_to.Goals as goal

pub returns-clause-tree : goal.returns-clause-tree
unfolding cast_to_of
returns-clause-tree g c = grind (arith)

pub returns-in_err-expect-clause-tree : goal.returns-in_err-expect-clause-tree
unfolding cast_to_of
returns-in_err-expect-clause-tree g c = grind (arith)

pub returns-in_err-name-clause-tree : goal.returns-in_err-name-clause-tree
unfolding cast_to_of
returns-in_err-name-clause-tree g c = grind (arith)

pub returns-in_err-open-clause-tree : goal.returns-in_err-open-clause-tree
unfolding cast_to_of
returns-in_err-open-clause-tree g c = grind (arith)

pub returns-in_err-operand-clause-tree : goal.returns-in_err-operand-clause-tree
unfolding cast_to_of
returns-in_err-operand-clause-tree g c = grind (arith)
