-- The words of a closed cover.
use Rattle.std.specs.Prelude.{◌≡◌, ℕ, ◌*◌, ◌<◌, ◌==◌, List, min, All, if◌then◌else◌}
use Rattle.mc_core.specs.declared.shape.Shape.{Shape}
use Rattle.mc_core.specs.Shape.{rows}
use Rattle.mc_core.specs.Matrix.{bit_of}
use Rattle.mc_core.specs.Counts.{times, marks}

-- a bit under test t, where the tests of the list are left out
abbrev pub left_of : List ℕ → ℕ → ℕ → ℕ
left_of skipped t x = if times t skipped == 0 then x else 0

-- the words have the hits but for those of the skipped tests
abbrev pub HasHits : Shape → List (ℕ × ℕ) → List ℕ → List ℕ → Type 0
HasHits k hits skipped words =
    (b t : ℕ) → b < k.bits → t < 64 * rows k →
    bit_of k words b t ≡ left_of skipped t (min 1 (marks b t hits))

abbrev pub AreInRange : Shape → List (ℕ × ℕ) → Type 0
AreInRange k hits = All (λ h. (h.0 < k.bits) × (h.1 < k.tests)) hits
