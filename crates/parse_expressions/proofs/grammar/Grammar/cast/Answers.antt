use Rattle.std.proofs.Common.{arith}
use Rattle.laws_grammar.specs.Expressions.{cast_of}
use Rattle.parse_expressions.proofs.grammar.Grammar.cast.Goals as goal

pub returns-else-sees_cast-clause-tree : goal.returns-else-sees_cast-clause-tree
unfolding cast_of
returns-else-sees_cast-clause-tree g c = grind (arith)

pub returns-then-sees_cast-clause-tree : goal.returns-then-sees_cast-clause-tree
unfolding cast_of
returns-then-sees_cast-clause-tree g c = grind (arith)
