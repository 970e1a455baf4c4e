-- A step of the proofs: it follows the code, and no public clause rests on it.
-- The words of two matrices, one after the other.
use Rattle.std.specs.Prelude.{◌≡◌, ℕ, ◌+◌, ◌*◌, ◌/◌, ◌%◌, ◌<◌, ◌↔◌, List, length, get_or}
use Rattle.std.specs.Int.{bit_at}
use Rattle.mc_core.specs.Matrix.{MatrixView}
use Rattle.mc_core.specs.Merged.{HoldsEither}

-- the word has the bits of the 64 tests of a row
abbrev pub IsWordOf : (ℕ → Type 0) → ℕ → ℕ → Type 0
IsWordOf holds word row = (j : ℕ) → j < 64 → (bit_at word j ≡ 1) ↔ holds (64 * row + j)

-- the first n words of both, with so many rows to a bit
pub record AreJoined (left right : MatrixView) (rows n : ℕ) (words : List ℕ) : Type 0 where
  pub many : length words ≡ n
  pub each : (i : ℕ) → i < n →
      IsWordOf (HoldsEither left right (i / rows)) (get_or words i 0) (i % rows)
