use Rattle.std.proofs.Common.{arith}
use Rattle.laws_grammar.specs.Expressions.{climb}
use Rattle.parse_expressions.proofs.grammar.Grammar.climb.Goals as goal

pub returns-in_err-left-clause-tree : goal.returns-in_err-left-clause-tree
unfolding climb
returns-in_err-left-clause-tree g c = grind (arith)

pub loop-later-init : goal.loop-later-init
unfolding climb
loop-later-init g c = grind (arith)

pub returns-in_err-left-2-clause-tree : goal.returns-in_err-left-2-clause-tree
unfolding climb
returns-in_err-left-2-clause-tree g c = grind (arith)
