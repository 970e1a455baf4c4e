use Rattle.std.proofs.Common.{arith}
use Rattle.laws_cases.proofs.vectors.ranks_rise.Goals as goal

pub returns : goal.returns
returns c = (omega arith, omega arith)
