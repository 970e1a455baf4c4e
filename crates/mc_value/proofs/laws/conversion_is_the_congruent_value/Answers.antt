use Rattle.mc_value.proofs.Wrapping.{congruent_value}
use Rattle.mc_value.proofs.laws.conversion_is_the_congruent_value.Goals as goal

pub returns : goal.returns
returns c = congruent_value
