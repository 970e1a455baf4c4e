use Rattle.mc_station.proofs.Causes.{asked_in_turn}
use Rattle.mc_station.proofs.statuses.asked_in_turn.Goals as goal

pub returns : goal.returns
returns c = asked_in_turn
