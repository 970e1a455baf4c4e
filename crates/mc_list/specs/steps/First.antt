-- The length of the first line.
use Rattle.std.specs.Prelude.{ℕ, suc, if◌then◌else◌, List, [], ◌∷◌}
use Rattle.mc_lex.specs.Bytes.{is_line_end}

abbrev pub first_len : List ℕ → ℕ
first_len [] = 0
first_len (b ∷ bs) = if is_line_end b then 1 else suc (first_len bs)
