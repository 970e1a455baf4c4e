use Rattle.mc_paths.proofs.Before.{vectors_before}
use Rattle.mc_paths.proofs.laws.number_counts.Goals as goal

pub returns : goal.returns
returns c = λ t v short n is. vectors_before t v short n.in_order is
