use Rattle.mc_cond.proofs.Flips.{evaluated_with}
use Rattle.mc_masking.proofs.Pairs.{first_influence, second_influence, pair_where, pair_differs}
use Rattle.mc_masking.proofs.laws.pair_of_masks.Goals as goal

pub returns : goal.returns
returns c = λ t k v w a b x y n is_v is_w mask_a mask_b mask_x mask_y. (
  λ p. ((mask_x k).1 (first_influence t k v w p), (mask_y k).1 (second_influence t k v w p), pair_differs t k v w n is_v is_w a b mask_a mask_b p, p.outcomes),
  λ h.
      let first = (mask_x k).0 h.0 in
      let second = (mask_y k).0 h.1 in
      pair_where t k v w n is_v is_w a b mask_a mask_b (first.row k) (second.row k)
      (evaluated_with t k v first.row n is_v first.completion first.changes) (evaluated_with t k w second.row n is_w second.completion second.changes) h.2 h.3 first second,
)
