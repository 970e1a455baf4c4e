-- The words of one row of tests, and how many tests have each bit.
use Rattle.std.specs.Prelude.{◌≡◌, ℕ, zero, suc, ◌+◌, ◌*◌, ◌%◌, ◌<◌, ◌≤◌, List, [], ◌∷◌, length, slice_index}
use Rattle.std.specs.Int.{bit_at}
use Rattle.mc_core.specs.Shape.{rows}
use Rattle.mc_core.specs.Matrix.{MatrixView, bit_of}

-- the words of the tests from 64 * row on, one for each bit
pub record AreWordsAt (x : MatrixView) (row : ℕ) (words : List ℕ) : Type 0 where
  pub inside : row < rows x.shape
  pub count : length words ≡ x.shape.bits
  pub each : (b : ℕ) → b < x.shape.bits →
      slice_index words b ≡ slice_index x.words (b * rows x.shape + row)

-- how many of the first n tests have the bit
abbrev pub count_below : MatrixView → ℕ → ℕ → ℕ
count_below x b zero = 0
count_below x b (suc n) = bit_of x.shape x.words b n + count_below x b n

-- how many of these tests have it
abbrev pub count_among : MatrixView → ℕ → List ℕ → ℕ
count_among x b [] = 0
count_among x b (t ∷ ts) = bit_of x.shape x.words b t + count_among x b ts

-- the counts of the first n tests with those that stay
pub record AreCounts (x : MatrixView) (n : ℕ) (stayed counts : List ℕ) : Type 0 where
  pub count : length counts ≡ x.shape.bits
  pub each : (b : ℕ) → b < x.shape.bits →
      slice_index counts b ≡ count_below x b n + count_among x b stayed

-- each bit of the test is counted
pub record HasCounts (test : ℕ) (counts words : List ℕ) : Type 0 where
  pub same : length counts ≡ length words
  pub each : (b : ℕ) → b < length counts →
      bit_at (slice_index words b) (test % 64) ≤ slice_index counts b

-- the test has the bit, and no other that is counted
pub record IsSingle (test : ℕ) (counts words : List ℕ) (b : ℕ) : Type 0 where
  pub one : slice_index counts b ≡ 1
  pub own : bit_at (slice_index words b) (test % 64) ≡ 1
