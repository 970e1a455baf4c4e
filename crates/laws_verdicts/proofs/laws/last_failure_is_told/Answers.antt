use Rattle.std.proofs.Common.{arith}
use Rattle.std.specs.Prelude.{◌^◌, ◌-◌}
use Rattle.laws_verdicts.proofs.laws.last_failure_is_told.Goals as goal

pub returns : goal.returns
returns c old new text = c.failures_are_told.ensures.count old new (2 ^ 64 - 2) text (omega arith)
