use Rattle.mc_station.proofs.Calling.{causes_call}
use Rattle.mc_station.proofs.statuses.causes_call.Goals as goal

pub returns : goal.returns
returns c = causes_call
