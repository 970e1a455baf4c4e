use Rattle.std.proofs.Common.{arith}
use Rattle.parse_expressions.proofs.Levels.{initializer_steps}
use Rattle.parse_expressions.proofs.Lists.{braced_steps}
use Rattle.parse_expressions.proofs.initializers.+initializers.Goals as goal

pub initializers-returns-in_err-one : goal.initializers-returns-in_err-one
initializers-returns-in_err-one t c = grind (arith, braced_steps)

pub initializers-returns-then-sees : goal.initializers-returns-then-sees
initializers-returns-then-sees t c = grind (arith, braced_steps)

pub initializers-loop-turn-preserved : goal.initializers-loop-turn-preserved
initializers-loop-turn-preserved t c = grind (arith, braced_steps)

pub initializers-returns : goal.initializers-returns
initializers-returns t c = grind (arith, braced_steps)

pub initializer-returns : goal.initializer-returns
initializer-returns t c = grind (arith, initializer_steps)

pub initializer-returns-in_err-items : goal.initializer-returns-in_err-items
initializer-returns-in_err-items t c = grind (arith, initializer_steps)

pub initializer-returns-in_err-last : goal.initializer-returns-in_err-last
initializer-returns-in_err-last t c = grind (arith, initializer_steps)
