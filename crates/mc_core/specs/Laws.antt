-- What follows from the definitions of a matrix.
use Rattle.std.specs.Prelude.{◌≡◌, ◌↔◌, ℕ, ◌^◌, ◌<◌, List, All}
use Rattle.mc_core.specs.declared.shape.Shape.{Shape}
use Rattle.mc_core.specs.Matrix.{MatrixView, Holds, IsSound}

-- the words of a sound matrix of this shape
pub record AreWords (s : Shape) (words : List ℕ) : Type 0 where
  pub sound : IsSound s words
  pub fit : All (λ x. x < 2 ^ 64) words

abbrev pub HaveSamePairs : MatrixView → MatrixView → Type 0
HaveSamePairs m n = (b t : ℕ) → Holds m b t ↔ Holds n b t

-- a matrix is its shape and its set of pairs
abbrev pub WordsFollowFromPairs : Type 0
WordsFollowFromPairs =
    (s : Shape) (v w : List ℕ) → AreWords s v → AreWords s w →
    HaveSamePairs record { shape = s; words = v } record { shape = s; words = w } → v ≡ w
