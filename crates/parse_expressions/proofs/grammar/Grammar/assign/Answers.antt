use Rattle.std.proofs.Common.{arith}
use Rattle.laws_grammar.specs.Expressions.{assign_of}
use Rattle.parse_expressions.proofs.grammar.Grammar.assign.Goals as goal

pub returns-in-Some-clause-tree : goal.returns-in-Some-clause-tree
unfolding assign_of
returns-in-Some-clause-tree g c = grind (arith)

pub returns-in_default-clause-tree : goal.returns-in_default-clause-tree
unfolding assign_of
returns-in_default-clause-tree g c = grind (arith)

pub returns-in_err-target-clause-tree : goal.returns-in_err-target-clause-tree
unfolding assign_of
returns-in_err-target-clause-tree g c = grind (arith)
