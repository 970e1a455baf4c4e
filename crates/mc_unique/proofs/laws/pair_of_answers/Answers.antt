use Rattle.mc_unique.proofs.Pairs.{pair_prefix, pair_behind, pair_outcomes, pair_by, agree_by}
use Rattle.mc_unique.proofs.laws.pair_of_answers.Goals as goal

pub returns : goal.returns
returns c = λ t k v w n is_v is_w on off. (
  λ p. (pair_prefix t k v w n is_v is_w p, pair_behind t k v w is_v p, pair_outcomes t k v w n is_v is_w p),
  λ h. pair_by t k v w n is_v is_w on off h.2 (agree_by k v w h.0 h.1),
)
