-- A step of the proofs: it follows the code, and no public clause rests on it.
-- Where two vectors have completions that differ in one condition alone.
use Rattle.std.specs.Prelude.{◌≡◌, ◌≢◌, ℕ, Bool, Option, Some, None, List, slice_get}

-- one completion can have both answers
abbrev pub AreCompatible : Option Bool → Option Bool → Type 0
AreCompatible (Some x) (Some y) = x ≡ y
AreCompatible (Some x) None = Unit {0}
AreCompatible None y = Unit {0}

abbrev pub AgreeAt : List (Option Bool) → List (Option Bool) → ℕ → Type 0
AgreeAt xs ys j =
    (x y : Option Bool) → slice_get xs j ≡ Some x → slice_get ys j ≡ Some y → AreCompatible x y

-- no condition but k was evaluated in both with different values
abbrev pub AgreeElsewhere : ℕ → List (Option Bool) → List (Option Bool) → Type 0
AgreeElsewhere k xs ys = (j : ℕ) → j ≢ k → AgreeAt xs ys j
