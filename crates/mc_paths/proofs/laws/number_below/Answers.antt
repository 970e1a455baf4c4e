use Rattle.mc_paths.proofs.Numbers.{vector_below}
use Rattle.mc_paths.proofs.laws.number_below.Goals as goal

pub returns : goal.returns
returns c = λ t v n is. vector_below t v is
