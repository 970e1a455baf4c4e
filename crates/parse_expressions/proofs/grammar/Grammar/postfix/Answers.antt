use Rattle.std.proofs.Common.{arith}
use Rattle.parse_expressions.proofs.Turns.{suffixes_steps}
use Rattle.parse_expressions.proofs.grammar.Grammar.postfix.Goals as goal

pub returns-then-not-sees_suffix-clause-tree : goal.returns-then-not-sees_suffix-clause-tree
returns-then-not-sees_suffix-clause-tree g c = grind (arith, suffixes_steps)

pub returns-in_err-base-2-clause-tree : goal.returns-in_err-base-2-clause-tree
returns-in_err-base-2-clause-tree g c = grind (arith, suffixes_steps)

pub loop-turn-preserved : goal.loop-turn-preserved
loop-turn-preserved g c = grind (arith, suffixes_steps)

pub returns-clause-tree : goal.returns-clause-tree
returns-clause-tree g c = grind (arith, suffixes_steps)
