use Rattle.mc_unique.proofs.Pairs.{evaluated_first, evaluated_second}
use Rattle.mc_unique.proofs.laws.pair_evaluated.Goals as goal

pub returns : goal.returns
returns c = λ t k v w n is_v is_w pair. (evaluated_first t k v w n is_v pair, evaluated_second t k v w n is_w pair)
