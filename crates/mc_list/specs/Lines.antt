-- The lines of a text. A line ends after LF, or with the text.
use Rattle.std.specs.Prelude.{ℕ, ◌+◌, if◌then◌else◌, List, [], ◌∷◌, length, drop, map}
use Rattle.mc_lex.specs.Bytes.{is_line_end}

-- a byte that ends no line stands in the line of what follows it
abbrev pub with_byte : ℕ → List (List ℕ) → List (List ℕ)
with_byte b [] = (b ∷ []) ∷ []
with_byte b (line ∷ lines) = (b ∷ line) ∷ lines

abbrev pub lines_of : List ℕ → List (List ℕ)
lines_of [] = []
lines_of (b ∷ bs) =
    if is_line_end b then (b ∷ []) ∷ lines_of bs else with_byte b (lines_of bs)

-- a line where it stands: its number from 1, and the place of its first byte
pub record Placed : Type 0 where
  pub number : ℕ
  pub start : ℕ
  pub bytes : List ℕ

abbrev pub placed_from : ℕ → ℕ → List (List ℕ) → List Placed
placed_from number start [] = []
placed_from number start (line ∷ lines) =
    record { number = number; start = start; bytes = line }
    ∷ placed_from (number + 1) (start + length line) lines

-- the lines of a source, in their order
abbrev pub placed_lines : List ℕ → List Placed
placed_lines source = placed_from 1 0 (lines_of source)

-- the lines of a listing, each without its margin of 12 bytes
abbrev pub stripped : List ℕ → List (List ℕ)
stripped text = map (drop 12) (lines_of text)
