-- How numbers and values are written, as in a report.
use Rattle.std.specs.Prelude.{ℕ, ℤ, List, [], ◌∷◌, flat_map, codes}
pub use Rattle.told_lines.specs.Values.{newline, number_text, value_text}

-- numbers of an output, or that there is none
abbrev pub numbers_text : List ℤ → List ℕ
numbers_text [] = codes " none"
numbers_text (n ∷ numbers) = flat_map number_text (n ∷ numbers)
