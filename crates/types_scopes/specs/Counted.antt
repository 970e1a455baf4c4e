-- Cells of arrays.
use Rattle.std.specs.Prelude.{ℕ, ◌*◌, List, [], ◌∷◌}

abbrev pub product : List ℕ → ℕ
product [] = 1
product (n ∷ ns) = n * product ns
