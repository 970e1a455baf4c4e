-- When two vectors show a condition's independence by masking.
use Rattle.std.specs.Prelude.{◌≢◌, ℕ}
use Rattle.mc_cond.specs.Tree.{Tree}
use Rattle.mc_cond.specs.Vectors.{Row, Evaluation, IsCompletion}
use Rattle.mc_cond.specs.Influence.{FlipChanges}

-- Two vectors are a masking pair for condition k where their outcomes differ, and they have
-- completions in which k has different values and a flip of k alone changes the outcome. What a row
-- says beyond the last condition plays no part.
pub record IsMaskingPair (t : Tree) (k : ℕ) (v w : Evaluation) : Type 0 where
  pub outcomes : v.outcome ≢ w.outcome
  pub a : Row
  pub b : Row
  pub first : IsCompletion v a
  pub second : IsCompletion w b
  pub differ : a k ≢ b k
  pub first_changes : FlipChanges t k a
  pub second_changes : FlipChanges t k b
