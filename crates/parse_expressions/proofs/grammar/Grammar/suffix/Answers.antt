use Rattle.std.proofs.Common.{arith}
use Rattle.laws_grammar.specs.Expressions.{suffix_of}
use Rattle.parse_expressions.proofs.grammar.Grammar.suffix.Goals as goal

pub returns-clause-tree : goal.returns-clause-tree
unfolding suffix_of
returns-clause-tree g c = grind (arith)

pub returns-then-is_too_high-clause-tree : goal.returns-then-is_too_high-clause-tree
unfolding suffix_of
returns-then-is_too_high-clause-tree g c = grind (arith)

pub returns-in-Some-clause-tree : goal.returns-in-Some-clause-tree
unfolding suffix_of
returns-in-Some-clause-tree g c = grind (arith)
