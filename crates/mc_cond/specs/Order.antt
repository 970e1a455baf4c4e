-- The answers of conditions, and the order of vectors.
use Rattle.std.specs.Prelude.{◌≡◌, ℕ, ◌<◌, Bool, true, false, ◌⊎◌, Option, Some, None, List, [], ◌∷◌}

-- what an evaluation says of a condition: true, false or not evaluated (`None`)
abbrev pub Answer : Type 0
Answer = Option Bool

-- true before false before not evaluated
abbrev pub rank : Answer → ℕ
rank (Some true) = 0
rank (Some false) = 1
rank None = 2

-- the order of vectors: the first condition in which they differ decides
abbrev pub IsBefore : List Answer → List Answer → Type 0
IsBefore (x ∷ xs) (y ∷ ys) = (rank x < rank y) ⊎ ((x ≡ y) × IsBefore xs ys)
IsBefore (x ∷ xs) [] = ⊥
IsBefore [] ys = ⊥
