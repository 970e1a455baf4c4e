use Rattle.mc_value.proofs.Bounds.{right_returns}
use Rattle.mc_value.proofs.shifts.shift_by.Goals as goal

pub returns-in-Right-clause-within : goal.returns-in-Right-clause-within
returns-in-Right-clause-within c = right_returns c.args.t c.args.a c.args.count c.requires.operand c.ranges.a
