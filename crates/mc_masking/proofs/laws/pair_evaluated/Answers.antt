use Rattle.mc_cond.proofs.Flips.{evaluated_with}
use Rattle.mc_masking.proofs.laws.pair_evaluated.Goals as goal

pub returns : goal.returns
returns c = λ t k v w n is_v is_w p. (evaluated_with t k v p.a n is_v p.first p.first_changes, evaluated_with t k w p.b n is_w p.second p.second_changes)
