use Rattle.std.proofs.Common.{arith}
use Rattle.laws_grammar.specs.Expressions.{named_of}
use Rattle.parse_expressions.proofs.grammar.Grammar.named.Goals as goal

pub returns-in-None-clause-tree : goal.returns-in-None-clause-tree
unfolding named_of
returns-in-None-clause-tree g c = grind (arith)

pub returns-in_err-name-clause-tree : goal.returns-in_err-name-clause-tree
unfolding named_of
returns-in_err-name-clause-tree g c = grind (arith)

pub returns-in-Some-clause-tree : goal.returns-in-Some-clause-tree
unfolding named_of
returns-in-Some-clause-tree g c = grind (arith)
