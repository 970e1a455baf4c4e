use Rattle.mc_unique.proofs.Pairs.{pair_prefix, pair_of, first_influence, second_influence}
use Rattle.mc_unique.proofs.laws.pair_of_prefix.Goals as goal

pub returns : goal.returns
returns c = λ t k v w short n is_v is_w on off. (
  λ p. (pair_prefix t k v w n is_v is_w p, first_influence t k v w n is_v is_w p, second_influence t k v w n is_v is_w p),
  λ h. pair_of t k v w short n is_v is_w on off h.0 h.1 h.2,
)
