use Rattle.mc_needs.proofs.Having.{has_pair}
use Rattle.mc_needs.proofs.laws.condition_has_pair.Goals as goal

pub returns : goal.returns
returns c = has_pair
