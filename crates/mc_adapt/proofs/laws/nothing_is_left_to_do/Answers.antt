use Rattle.mc_adapt.proofs.Left.{nothing_left}
use Rattle.mc_adapt.proofs.laws.nothing_is_left_to_do.Goals as goal

pub returns : goal.returns
returns c = λ ps r. nothing_left ps r
