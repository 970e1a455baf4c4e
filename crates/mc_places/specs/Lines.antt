-- The lines of a text, without the LF that ends each of them.
use Rattle.std.specs.Prelude.{ℕ, if◌then◌else◌, List, [], ◌∷◌}
use Rattle.mc_lex.specs.Bytes.{is_line_end}

-- a byte that ends no line stands in the line of what follows it
abbrev pub with_byte : ℕ → List (List ℕ) → List (List ℕ)
with_byte b [] = (b ∷ []) ∷ []
with_byte b (line ∷ lines) = (b ∷ line) ∷ lines

-- after each LF one more line begins, also at the end of the text
abbrev pub lines_of : List ℕ → List (List ℕ)
lines_of [] = [] ∷ []
lines_of (b ∷ bs) = if is_line_end b then [] ∷ lines_of bs else with_byte b (lines_of bs)
