use Rattle.mc_needs.proofs.Having.{has_outcome}
use Rattle.mc_needs.proofs.laws.outcome_has_vector.Goals as goal

pub returns : goal.returns
returns c = has_outcome
