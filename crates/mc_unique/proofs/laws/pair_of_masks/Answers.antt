use Rattle.mc_unique.proofs.Pairs.{pair_outcomes}
use Rattle.mc_unique.proofs.Words.{masks_of_pair, pair_of_masks}
use Rattle.mc_unique.proofs.laws.pair_of_masks.Goals as goal

pub returns : goal.returns
returns c = λ t k v w a x b y n is_v is_w evaluated_v value_v evaluated_w value_w. (
  λ p. (masks_of_pair t v w is_v is_w a x b y evaluated_v value_v evaluated_w value_w k n p, pair_outcomes t k v w n is_v is_w p),
  λ h. pair_of_masks t v w is_v is_w a x b y evaluated_v value_v evaluated_w value_w k n h.0 h.1,
)
