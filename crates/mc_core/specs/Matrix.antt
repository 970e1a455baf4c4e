-- A matrix as a set of pairs of a bit and a test.
use Rattle.std.specs.Prelude.{◌≡◌, ℕ, ◌*◌, ◌%◌, ◌<◌, ◌≤◌, List, length, replicate, slice_index}
use Rattle.std.specs.Int.{bit_at}
use Rattle.mc_core.specs.declared.shape.Shape.{Shape}
use Rattle.mc_core.specs.Shape.{rows, word_count, place}
use Rattle.mc_core.specs.Steps.{words_after}

-- what contracts see of a matrix
pub record MatrixView : Type 0 where
  pub shape : Shape
  pub words : List ℕ

-- bit b under test t as it stands in the words, 0 or 1: bit t mod 64 of its word
abbrev pub bit_of : Shape → List ℕ → ℕ → ℕ → ℕ
bit_of s words b t = bit_at (slice_index words (place s b t)) (t % 64)

-- the matrix has the pair of bit b and test t: both are in range, and the bit is set
abbrev pub Holds : MatrixView → ℕ → ℕ → Type 0
Holds m b t = (b < m.shape.bits) × (t < m.shape.tests) × (bit_of m.shape m.words b t ≡ 1)

-- the bits after the last test, up to the end of its word, are clear
abbrev pub HasNoSpareBit : Shape → List ℕ → Type 0
HasNoSpareBit s words =
    (b t : ℕ) → b < s.bits → s.tests ≤ t → t < 64 * rows s → bit_of s words b t ≡ 0

-- what each matrix keeps
pub record IsSound (s : Shape) (words : List ℕ) : Type 0 where
  pub whole : length words ≡ word_count s
  pub spare : HasNoSpareBit s words

-- the matrix without a pair
abbrev pub empty_matrix : Shape → MatrixView
empty_matrix s = record { shape = s; words = replicate (word_count s) 0 }

-- the matrix after a hit
abbrev pub with_pair : MatrixView → ℕ → ℕ → MatrixView
with_pair m b t = record { shape = m.shape; words = words_after m.shape m.words b t }
