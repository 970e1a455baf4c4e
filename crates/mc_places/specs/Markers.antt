-- Line markers, as `gcc -E` and `clang -E` write them: `# 12 "modes.c" 1`.
use Rattle.std.specs.Prelude.{ℕ, Bool, true, false, ◌&&◌, ◌==◌, nat_le, if◌then◌else◌, List, [], ◌∷◌, take, drop, Option, Some, None}
use Rattle.std.specs.List.{list_all, prefix_len}
use Rattle.std.specs.Str.Parse.{digits_value}
use Rattle.mc_lex.specs.Bytes.{is_digit, is_white_space_in_line}
use Rattle.mc_lex.specs.Gaps.{is_digit_or_white_space, is_quoted}
use Rattle.mc_places.specs.Comments.{stays_open}
use Rattle.mc_places.specs.Lines.{lines_of}

-- the number of the line after it, where C has it, and the name of its file as it is written there,
-- where it has one
pub record Marker : Type 0 where
  pub number : Option ℕ
  pub name : Option (List ℕ)

-- the greatest number of a line (C17 6.10.4)
abbrev pub greatest_line : ℕ
greatest_line = 2147483647

abbrev pub line_number : ℕ → Option ℕ
line_number n = if nat_le n greatest_line then Some n else None

-- the longest first part whose bytes pass, and what stands after it
abbrev pub run_of : (ℕ → Bool) → List ℕ → List ℕ
run_of passes bs = take (prefix_len passes bs) bs

abbrev pub past : (ℕ → Bool) → List ℕ → List ℕ
past passes bs = drop (prefix_len passes bs) bs

-- the `"` that closes the name, and digits and white space after it
abbrev pub closed : Option ℕ → (name after : List ℕ) → Option Marker
closed number name [] = None
closed number name (b ∷ bs) =
    if b == 34 && list_all is_digit_or_white_space bs
    then Some (record { number = number; name = Some name }) else None

-- a name in double quotes
abbrev pub named : Option ℕ → List ℕ → Option Marker
named number [] = None
named number (b ∷ bs) =
    if b == 34 then closed number (run_of is_quoted bs) (past is_quoted bs) else None

-- after the number: digits and white space, or white space and a name
abbrev pub after_number : Option ℕ → List ℕ → Option Marker
after_number number bs =
    if list_all is_digit_or_white_space bs then Some (record { number = number; name = None })
    else named number (past is_white_space_in_line bs)

-- the number, of one digit at least
abbrev pub numbered : List ℕ → Option Marker
numbered [] = None
numbered (b ∷ bs) =
    if is_digit b
    then after_number (line_number (digits_value 10 (run_of is_digit (b ∷ bs))))
    (past is_digit (b ∷ bs))
    else None

abbrev pub hashed : List ℕ → Option Marker
hashed [] = None
hashed (b ∷ bs) = if b == 35 then numbered (past is_white_space_in_line bs) else None

-- the marker that a line is, where it is one: white space, `#`, white space, and the number
abbrev pub marker_of : List ℕ → Option Marker
marker_of line = hashed (past is_white_space_in_line line)

-- a line that begins inside a comment is none
abbrev pub marker_on : (inside : Bool) → List ℕ → Option Marker
marker_on true line = None
marker_on false line = marker_of line

-- whether a comment is open after the line
abbrev pub open_after : Option Marker → (inside : Bool) → List ℕ → Bool
open_after (Some m) inside line = false
open_after None inside line = stays_open inside line

abbrev pub markers_from : (inside : Bool) → List (List ℕ) → List (Option Marker)
markers_from inside [] = []
markers_from inside (line ∷ lines) =
    marker_on inside line ∷ markers_from (open_after (marker_on inside line) inside line) lines

-- for each line of a text the marker that it is, where it is one
abbrev pub markers_of : List ℕ → List (Option Marker)
markers_of text = markers_from false (lines_of text)
