use Rattle.mc_cond.proofs.Flips.{evaluated_with}
use Rattle.mc_masking.proofs.Pairs.{first_influence, second_influence, pair_where, pair_differs, values_apart, outcomes_apart}
use Rattle.mc_masking.proofs.laws.pair_of_masks_alone.Goals as goal

pub returns : goal.returns
returns c = λ t k v w a b x y short n is_v is_w mask_a mask_b mask_x mask_y. (
  λ p. ((mask_x k).1 (first_influence t k v w p), (mask_y k).1 (second_influence t k v w p), pair_differs t k v w n is_v is_w a b mask_a mask_b p),
  λ h.
      let first = (mask_x k).0 h.0 in
      let second = (mask_y k).0 h.1 in
      let one = evaluated_with t k v first.row n is_v first.completion first.changes in
      let other = evaluated_with t k w second.row n is_w second.completion second.changes in
      pair_where t k v w n is_v is_w a b mask_a mask_b (first.row k) (second.row k) one other h.2
      (outcomes_apart t k v w short n is_v is_w (first.row k) (second.row k) one other (values_apart t k v w n is_v is_w a b mask_a mask_b (first.row k) (second.row k) one other h.2) first second)
      first second,
)
