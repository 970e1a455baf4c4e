use Rattle.mc_value.specs.Conversions.{converted}
use Rattle.mc_value.proofs.Wrapping.{converted_within, converted_own}
use Rattle.mc_value.proofs.laws.conversion_keeps_the_range.Goals as goal

pub returns : goal.returns
returns c = (converted_within, converted_own, λ t v. converted_own t (converted t v) (converted_within t v))
