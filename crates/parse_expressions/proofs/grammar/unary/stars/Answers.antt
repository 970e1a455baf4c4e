use Rattle.std.proofs.Common.{arith}
use Rattle.parse_expressions.proofs.Turns.{stars_steps}
use Rattle.parse_expressions.proofs.grammar.unary.stars.Goals as goal

pub loop-turn-preserved : goal.loop-turn-preserved
loop-turn-preserved c = grind (arith, stars_steps)

pub returns : goal.returns
returns c = grind (arith, stars_steps)
