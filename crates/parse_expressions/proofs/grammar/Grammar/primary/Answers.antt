use Rattle.std.proofs.Common.{arith}
use Rattle.laws_grammar.specs.Expressions.{primary_of}
use Rattle.parse_expressions.proofs.grammar.Grammar.primary.Goals as goal

pub returns-in-Some-Character-clause-tree : goal.returns-in-Some-Character-clause-tree
unfolding primary_of
returns-in-Some-Character-clause-tree g c = grind (arith)

pub returns-in-Some-Constant-clause-tree : goal.returns-in-Some-Constant-clause-tree
unfolding primary_of
returns-in-Some-Constant-clause-tree g c = grind (arith)

pub returns-in-Some-Identifier-clause-tree : goal.returns-in-Some-Identifier-clause-tree
unfolding primary_of
returns-in-Some-Identifier-clause-tree g c = grind (arith)

pub returns-in-Some-Punctuator-clause-tree : goal.returns-in-Some-Punctuator-clause-tree
unfolding primary_of
returns-in-Some-Punctuator-clause-tree g c = grind (arith)

pub returns-in_default-clause-tree : goal.returns-in_default-clause-tree
unfolding primary_of
returns-in_default-clause-tree g c = grind (arith)
