use Rattle.mc_station.proofs.Ends.{source_alone}
use Rattle.mc_station.proofs.laws.source_alone.Goals as goal

pub returns : goal.returns
returns c = source_alone
