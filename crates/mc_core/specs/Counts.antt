-- How often something stands in a list.
use Rattle.std.specs.Prelude.{ℕ, ◌==◌, ◌&&◌, List, count_by, nat_lt, if◌then◌else◌}

-- how often n stands in the list
abbrev pub times : ℕ → List ℕ → ℕ
times n xs = count_by (λ x. x == n) xs

-- once where n is below m, and else never
abbrev pub once_below : ℕ → ℕ → ℕ
once_below n m = if nat_lt n m then 1 else 0

-- how often the pair of bit b and test t stands in the list
abbrev pub marks : ℕ → ℕ → List (ℕ × ℕ) → ℕ
marks b t hits = count_by (λ h. (h.0 == b) && (h.1 == t)) hits
