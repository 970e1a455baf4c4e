use Rattle.mc_adapt.proofs.Lines.{untouched_source}
use Rattle.mc_adapt.proofs.laws.untouched_is_the_source.Goals as goal

pub returns : goal.returns
returns c = λ source ps h u. untouched_source source ps h u
