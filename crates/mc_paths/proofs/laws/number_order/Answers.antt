use Rattle.mc_paths.proofs.Numbers.{vector_order}
use Rattle.mc_paths.proofs.laws.number_order.Goals as goal

pub returns : goal.returns
returns c = vector_order
