-- The numbers of this profile of which only the rules of names and types speak. The others stand in
-- mc_limits, and the cells of an object in mc_value. An implementation may have such limits, but C17
-- 5.2.4.1 asks for 127 parameters.
use Rattle.std.specs.Prelude.{◌≡◌, ℕ, ◌+◌, ◌<◌, min, nat_le, if◌then◌else◌}
use Rattle.mc_limits.specs.Limits.{most_nesting}
use Rattle.mc_value.specs.ObjectTypes.{most_cells}

-- The lengths that a type keeps, the outermost ones. A type with more of them nests too deep, and
-- so does its element: two lengths more than arrays may nest are enough to see it.
abbrev pub most_lengths : ℕ
most_lengths = most_nesting + 2

-- The greatest length of an array that a type keeps: one with more elements is too long as well.
abbrev pub most_kept : ℕ
most_kept = most_cells + 1

-- Where an object starts: after the limit none stands, since no unit that passes it has a typing.
abbrev pub start_at : ℕ → ℕ → ℕ
start_at most before = if nat_le before most then before else most

-- Objects and array parameters have numbers of 32 bits, and each list of them at most so many.
abbrev pub most_numbered : ℕ
most_numbered = 4294967295

-- The cells of a type, the cells before a member, and the numbers of members and of structure types
-- are counted up to 2 ^ 32 - 1: a unit that has a typing has no more of them.
abbrev pub most_counted : ℕ
most_counted = 4294967295

abbrev pub counted : ℕ → ℕ
counted n = min n most_counted

-- Cells in all are counted up to 2 ^ 64 - 1, for the same reason.
abbrev pub most_summed : ℕ
most_summed = 18446744073709551615

abbrev pub sum_of : ℕ → ℕ → ℕ
sum_of before more = start_at most_summed (before + more)

-- below that, a sum is exact
abbrev pub SumsAreExact : Type 0
SumsAreExact =
    (before more : ℕ) → sum_of before more < most_summed → sum_of before more ≡ before + more
