use Rattle.interp_trail.proofs.Worked.{worked}
use Rattle.interp_trail.proofs.laws.trails_are_worked.Goals as goal

pub returns : goal.returns
returns c = worked
