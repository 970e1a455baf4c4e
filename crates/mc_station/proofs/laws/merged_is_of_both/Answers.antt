use Rattle.mc_station.proofs.Both.{merged_is_of_both}
use Rattle.mc_station.proofs.laws.merged_is_of_both.Goals as goal

pub returns : goal.returns
returns c = merged_is_of_both
