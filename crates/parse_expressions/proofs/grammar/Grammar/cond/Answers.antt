use Rattle.std.proofs.Common.{arith}
use Rattle.laws_grammar.specs.Expressions.{cond_of, level_of}
use Rattle.parse_expressions.proofs.grammar.Grammar.cond.Goals as goal

pub returns-else-sees-clause-tree : goal.returns-else-sees-clause-tree
unfolding cond_of level_of
returns-else-sees-clause-tree g c = grind (arith)

pub returns-in_err-test-clause-tree : goal.returns-in_err-test-clause-tree
unfolding cond_of level_of
returns-in_err-test-clause-tree g c = grind (arith)

pub returns-then-sees-clause-tree : goal.returns-then-sees-clause-tree
unfolding cond_of level_of
returns-then-sees-clause-tree g c = grind (arith)
