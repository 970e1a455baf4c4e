use Rattle.mc_station.proofs.Ends.{refusals_are_silent}
use Rattle.mc_station.proofs.laws.refusals_are_silent.Goals as goal

pub returns : goal.returns
returns c = refusals_are_silent
