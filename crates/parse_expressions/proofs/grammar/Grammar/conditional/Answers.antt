use Rattle.std.proofs.Common.{arith}
use Rattle.laws_grammar.specs.Expressions.{conditional_of}
use Rattle.parse_expressions.proofs.grammar.Grammar.conditional.Goals as goal

pub returns-clause-tree : goal.returns-clause-tree
unfolding conditional_of
returns-clause-tree g c = grind (arith)

pub returns-in_err-chosen-clause-tree : goal.returns-in_err-chosen-clause-tree
unfolding conditional_of
returns-in_err-chosen-clause-tree g c = grind (arith)

pub returns-in_err-expect-clause-tree : goal.returns-in_err-expect-clause-tree
unfolding conditional_of
returns-in_err-expect-clause-tree g c = grind (arith)

pub returns-in_err-other-clause-tree : goal.returns-in_err-other-clause-tree
unfolding conditional_of
returns-in_err-other-clause-tree g c = grind (arith)

pub returns-in_err-take-clause-tree : goal.returns-in_err-take-clause-tree
unfolding conditional_of
returns-in_err-take-clause-tree g c = grind (arith)

pub returns-then-is_too_high-clause-tree : goal.returns-then-is_too_high-clause-tree
unfolding conditional_of
returns-then-is_too_high-clause-tree g c = grind (arith)
