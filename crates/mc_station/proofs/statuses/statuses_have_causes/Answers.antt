use Rattle.mc_station.proofs.Causes.{statuses_have_causes}
use Rattle.mc_station.proofs.statuses.statuses_have_causes.Goals as goal

pub returns : goal.returns
returns c = statuses_have_causes
