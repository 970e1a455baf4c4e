use Rattle.std.proofs.Common.{arith}
use Rattle.laws_grammar.specs.Expressions.{unary_of}
use Rattle.parse_expressions.proofs.grammar.Grammar.unary.Goals as goal

pub returns-in-None-clause-tree : goal.returns-in-None-clause-tree
unfolding unary_of
returns-in-None-clause-tree g c = grind (arith)

pub returns-in-Some-clause-tree : goal.returns-in-Some-clause-tree
unfolding unary_of
returns-in-Some-clause-tree g c = grind (arith)

pub returns-in-Some-unary_operator-clause-tree : goal.returns-in-Some-unary_operator-clause-tree
unfolding unary_of
returns-in-Some-unary_operator-clause-tree g c = grind (arith)
