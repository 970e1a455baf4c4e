use Rattle.std.proofs.Common.{arith}
use Rattle.parse_expressions.proofs.allowed.Allowed.refused.Goals as goal

pub returns-then-not-goes_on : goal.returns-then-not-goes_on
returns-then-not-goes_on c = grind (arith)
