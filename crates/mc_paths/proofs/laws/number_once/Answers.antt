use Rattle.mc_paths.proofs.Numbers.{vector_once}
use Rattle.mc_paths.proofs.laws.number_once.Goals as goal

pub returns : goal.returns
returns c = vector_once
