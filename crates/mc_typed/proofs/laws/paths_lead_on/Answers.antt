use Rattle.mc_typed.proofs.Places.{lead_on}
use Rattle.mc_typed.proofs.laws.paths_lead_on.Goals as goal

pub returns : goal.returns
returns c = lead_on
