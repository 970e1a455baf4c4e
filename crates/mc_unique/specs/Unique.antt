-- Unique-cause pairs, in this project's own words. What a condition and a decision are is told by
-- the DO-178C glossary.
use Rattle.std.specs.Prelude.{◌≡◌, ◌≢◌, ℕ, ◌<◌}
use Rattle.mc_cond.specs.Tree.{Tree, size}
use Rattle.mc_cond.specs.Vectors.{Row, Evaluation, truth_of, IsCompletion}

-- Two vectors are a unique-cause pair for condition k where they have completions that differ at k
-- and at no other condition of the decision, and the decision's outcomes on these differ. What a
-- row says beyond the last condition plays no part.
pub record IsUniquePair (t : Tree) (k : ℕ) (v w : Evaluation) : Type 0 where
  pub a : Row
  pub b : Row
  pub first : IsCompletion v a
  pub second : IsCompletion w b
  pub differ : a k ≢ b k
  pub alike : (j : ℕ) → j < size t → j ≢ k → a j ≡ b j
  pub outcomes : truth_of t a ≢ truth_of t b
