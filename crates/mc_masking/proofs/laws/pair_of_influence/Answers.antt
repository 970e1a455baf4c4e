use Rattle.mc_masking.proofs.Pairs.{first_influence, second_influence, pair_by}
use Rattle.mc_masking.proofs.laws.pair_of_influence.Goals as goal

pub returns : goal.returns
returns c = λ t k v w on off. (
  λ p. (first_influence t k v w p, second_influence t k v w p, p.outcomes),
  λ h. pair_by t k v w on off h.2 h.0 h.1,
)
