-- The names of tests, by the order of their file.
use Rattle.std.specs.Prelude.{ℕ, List, [], ◌∷◌, codes, slice_index_or}
use Rattle.std.specs.List.{concat}

abbrev pub name_of : List (List ℕ) → ℕ → List ℕ
name_of names test = slice_index_or names test []

-- by which test a vector is evaluated
abbrev pub name_text : List (List ℕ) → ℕ → List ℕ
name_text names test = concat (codes " by " ∷ name_of names test ∷ [])
