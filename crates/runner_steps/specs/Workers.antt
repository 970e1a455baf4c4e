-- How many workers run tests.
use Rattle.std.specs.Prelude.{ℕ, max, min}

-- as many as are asked for, but no more than there are tests, and at least one
abbrev pub workers_for : (asked tests : ℕ) → ℕ
workers_for asked tests = max 1 (min asked tests)
