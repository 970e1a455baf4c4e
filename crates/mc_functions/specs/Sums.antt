-- Sums of terms that have numbers.
use Rattle.std.specs.Prelude.{ℕ, zero, suc, ◌+◌}

-- of the terms whose numbers are below n
abbrev pub sum_below : ℕ → (ℕ → ℕ) → ℕ
sum_below zero term = 0
sum_below (suc n) term = sum_below n term + term n
