-- What a watcher found while the tests were run, for the proofs alone.
use Rattle.std.specs.Prelude.{◌≡◌, ◌≤◌, ℕ, List, All, length}
use Rattle.std.specs.List.Sorted.{IsNonDecreasing}
use Rattle.mc_core.specs.Matrix.{Holds, MatrixView}
use Rattle.mc_watch.specs.Watched.{AreSoMany}

-- this number of looks at what was recorded: none counts less than the one before, and none more
-- than all pairs of the matrix
pub record IsLooked (looks : ℕ) (matrix : MatrixView) (counts : List ℕ) : Type 0 where
  pub as_many : length counts ≡ looks
  pub rising : IsNonDecreasing counts
  pub within : (n : ℕ) → AreSoMany (Holds matrix) n → All (λ count. count ≤ n) counts
