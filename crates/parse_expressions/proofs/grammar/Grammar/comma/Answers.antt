use Rattle.std.proofs.Common.{arith}
use Rattle.laws_grammar.specs.Expressions.{comma_of}
use Rattle.parse_expressions.proofs.grammar.Grammar.comma.Goals as goal

pub returns-else-sees-clause-tree : goal.returns-else-sees-clause-tree
unfolding comma_of
returns-else-sees-clause-tree g c = grind (arith)

pub returns-in_err-first-clause-tree : goal.returns-in_err-first-clause-tree
unfolding comma_of
returns-in_err-first-clause-tree g c = grind (arith)

pub returns-then-sees-clause-tree : goal.returns-then-sees-clause-tree
unfolding comma_of
returns-then-sees-clause-tree g c = grind (arith)
