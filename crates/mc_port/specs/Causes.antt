-- Counts of faults, which end at the last value of a u64.
use Rattle.std.specs.Prelude.{ℕ, ◌+◌, ◌-◌, ◌^◌, ◌≤◌, min}

-- a count after one more fault; at its last value it stays
abbrev pub raised : ℕ → ℕ
raised count = min (count + 1) (2 ^ 64 - 1)

-- the count rose in a call: it grew, or stands at its last value as the call ends
abbrev pub Rose : ℕ → ℕ → Type 0
Rose before now = raised before ≤ now
