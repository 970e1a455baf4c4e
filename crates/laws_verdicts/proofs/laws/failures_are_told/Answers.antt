use Rattle.std.proofs.Common.{[], ◌∷◌, length, ap, arith}
use Rattle.laws_verdicts.proofs.laws.failures_are_told.Goals as goal

pub returns-clause-want : goal.returns-clause-want
returns-clause-want c byte before now text h = let longer = ap length h in omega (arith, longer)

pub returns-clause-count : goal.returns-clause-count
returns-clause-count c old new count text less h = omega (arith, less, h.0)
