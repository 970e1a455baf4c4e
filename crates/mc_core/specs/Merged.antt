-- The tests of one matrix, followed by those of another with the same bits.
use Rattle.std.specs.Prelude.{ℕ, ◌+◌, ◌-◌, ◌≤◌, ◌⊎◌}
use Rattle.mc_core.specs.declared.shape.Shape.{Shape}
use Rattle.mc_core.specs.Shape.{word_count}
use Rattle.mc_core.specs.Matrix.{MatrixView, Holds}

abbrev pub both_shapes : Shape → Shape → Shape
both_shapes left right = record { bits = left.bits; tests = left.tests + right.tests }

-- how many words they need
abbrev pub words_of_both : MatrixView → MatrixView → ℕ
words_of_both left right = word_count (both_shapes left.shape right.shape)

-- left holds the pair, or right does, where its tests are counted from the number of left's on
abbrev pub HoldsEither : MatrixView → MatrixView → ℕ → ℕ → Type 0
HoldsEither left right b t =
    Holds left b t ⊎ ((left.shape.tests ≤ t) × Holds right b (t - left.shape.tests))
