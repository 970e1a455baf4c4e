use Rattle.mc_typed.proofs.Places.{within}
use Rattle.mc_typed.proofs.laws.parts_lie_within.Goals as goal

pub returns : goal.returns
returns c = within
