-- Lines of a source, and places on them.
use Rattle.std.specs.Prelude.{ℕ, ◌+◌, Bool, List, length, take, reverse, take_while, count_by}
use Rattle.std.specs.List.{list_all}
use Rattle.mc_lex.specs.Bytes.{is_line_end, goes_on, is_white_space}

-- the bytes of a line that stand before a place, the nearest first,
-- by all bytes that stand before it
abbrev pub line_before : List ℕ → List ℕ
line_before before = take_while goes_on (reverse before)

-- only white space stands before the place on its line
abbrev pub is_first_on_line : List ℕ → Bool
is_first_on_line before = list_all is_white_space (line_before before)

-- the number of the line of a place, from 1; a line ends after LF
abbrev pub line_of : List ℕ → ℕ → ℕ
line_of source at = 1 + count_by is_line_end (take at source)

-- the number of a place on its line, in bytes from 1
abbrev pub column_of : List ℕ → ℕ → ℕ
column_of source at = 1 + length (line_before (take at source))
