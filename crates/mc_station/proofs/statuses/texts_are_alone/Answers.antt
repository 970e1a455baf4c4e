use Rattle.mc_station.proofs.Causes.{texts_are_alone}
use Rattle.mc_station.proofs.statuses.texts_are_alone.Goals as goal

pub returns : goal.returns
returns c = texts_are_alone
