use Rattle.mc_value.proofs.Results.{rounded_down}
use Rattle.mc_value.proofs.laws.right_shift_rounds_down.Goals as goal

pub returns : goal.returns
returns c = rounded_down
