-- The limit is a numeral.
use Rattle.std.proofs.Common.{arith}
use Rattle.mc_typed.specs.Levels.{limited}
use Rattle.mc_typed.proofs.heights.deeper.Goals as goal

pub returns-then-levels-lt4294967295 : goal.returns-then-levels-lt4294967295
unfolding limited
returns-then-levels-lt4294967295 c = omega arith

pub returns-else-levels-lt4294967295 : goal.returns-else-levels-lt4294967295
unfolding limited
returns-else-levels-lt4294967295 c = omega arith
