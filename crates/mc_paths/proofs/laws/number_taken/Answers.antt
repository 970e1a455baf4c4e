use Rattle.mc_paths.specs.Paths.{increments}
use Rattle.mc_paths.specs.steps.Descent.{descent}
use Rattle.mc_paths.proofs.Numbers.{descent_path}
use Rattle.mc_paths.proofs.Reaching.{seen}
use Rattle.mc_paths.proofs.laws.number_taken.Goals as goal

pub returns : goal.returns
returns c = λ t path short n lt. (seen (descent t (increments t) path), descent_path t path short n.in_order lt)
