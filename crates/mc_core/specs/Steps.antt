-- The two atomic steps of a worker: a claim of a test, and a hit of a bit under a test.
use Rattle.std.specs.Prelude.{ℕ, ◌+◌, ◌%◌, ◌^◌, Bool, List, [], ◌∷◌, ◌++◌, slice_index, slice_set, bit_or, nat_lt, nat_le, if◌then◌else◌}
use Rattle.mc_core.specs.declared.shape.Shape.{Shape}
use Rattle.mc_core.specs.Shape.{place}

-- A claim takes the number of draws so far and adds one to it.
abbrev pub draws_after : ℕ → ℕ
draws_after drawn = drawn + 1

-- The number that it took is claimed where it is below `tests` ..
abbrev pub claims_after : ℕ → ℕ → List ℕ → List ℕ
claims_after tests drawn claimed = if nat_lt drawn tests then claimed ++ drawn ∷ [] else claimed

-- .. and any other ends the worker.
abbrev pub ends : ℕ → ℕ → Bool
ends tests drawn = nat_le tests drawn

-- A hit sets the bit of its test in one word ..
abbrev pub word_after : ℕ → ℕ → ℕ
word_after word t = bit_or word (2 ^ (t % 64))

-- .. the one of its bit and test, and no other word changes.
abbrev pub words_after : Shape → List ℕ → ℕ → ℕ → List ℕ
words_after s words b t =
    slice_set words (place s b t) (word_after (slice_index words (place s b t)) t)
