use Rattle.mc_masking.proofs.Pairs.{first_influence, second_influence, pair_of}
use Rattle.mc_masking.proofs.laws.pair_of_influence_alone.Goals as goal

pub returns : goal.returns
returns c = λ t k v w short n is_v is_w on off. (
  λ p. (first_influence t k v w p, second_influence t k v w p),
  λ h. pair_of t k v w short n is_v is_w on off h.0 h.1,
)
