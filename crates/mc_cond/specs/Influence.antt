-- Influence of conditions on the outcome of a decision.
use Rattle.std.specs.Prelude.{◌≢◌, ℕ}
use Rattle.mc_cond.specs.Tree.{Tree}
use Rattle.mc_cond.specs.Vectors.{Row, Evaluation, truth_of, flipped, IsCompletion}

-- a flip of condition k alone changes the decision's outcome on the row
abbrev pub FlipChanges : Tree → ℕ → Row → Type 0
FlipChanges t k row = truth_of t (flipped k row) ≢ truth_of t row

-- condition k influences the outcome on some completion of the vector
pub record HasInfluence (t : Tree) (k : ℕ) (v : Evaluation) : Type 0 where
  pub row : Row
  pub completion : IsCompletion v row
  pub changes : FlipChanges t k row
