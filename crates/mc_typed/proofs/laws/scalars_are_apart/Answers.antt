use Rattle.mc_typed.proofs.Places.{apart}
use Rattle.mc_typed.proofs.laws.scalars_are_apart.Goals as goal

pub returns : goal.returns
returns c = apart
