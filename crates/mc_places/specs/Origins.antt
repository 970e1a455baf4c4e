-- From which file and line each line of a preprocessed text comes, by its line markers.
use Rattle.std.specs.Prelude.{ℕ, ◌+◌, Bool, false, nat_lt, if◌then◌else◌, List, [], ◌∷◌, Option, Some, None, slice_get, ◌-◌}
use Rattle.std.specs.List.{list_any}
use Rattle.std.specs.Str.{bytes_eq}
use Rattle.mc_lex.specs.Lines.{line_of}
use Rattle.mc_places.specs.Markers.{Marker, greatest_line, markers_of}
use Rattle.mc_places.specs.Names.{decoded}

-- the name of the file, and the number of the line in it
pub record Origin : Type 0 where
  pub file : List ℕ
  pub line : ℕ

-- of the line after one that is no marker: the next line of the same file
abbrev pub one_on : Option Origin → Option Origin
one_on None = None
one_on (Some o) =
    if nat_lt o.line greatest_line then Some (record { file = o.file; line = o.line + 1 }) else None

-- the file goes on at another line
abbrev pub moved_to : ℕ → Option Origin → Option Origin
moved_to number None = None
moved_to number (Some o) = Some (record { file = o.file; line = number })

-- of the line after a marker: what the marker says; one without a name leaves the file
abbrev pub said : (number : Option ℕ) → (name : Option (List ℕ)) → Option Origin → Option Origin
said None name now = None
said (Some number) None now = moved_to number now
said (Some number) (Some name) now = Some (record { file = decoded name; line = number })

-- of the next line, by that of a line and the marker that this line is
abbrev pub next_origin : Option Origin → Option Marker → Option Origin
next_origin now None = one_on now
next_origin now (Some m) = said m.number m.name now

abbrev pub origins_from : Option Origin → List (Option Marker) → List (Option Origin)
origins_from now [] = []
origins_from now (m ∷ ms) = now ∷ origins_from (next_origin now m) ms

-- for each line of a text its file and line; before the first marker it has none
abbrev pub origins : List ℕ → List (Option Origin)
origins text = origins_from None (markers_of text)

abbrev pub joined : Option (Option Origin) → Option Origin
joined None = None
joined (Some o) = o

-- the file and line of a byte: those of the line on which it stands
abbrev pub origin_at : List ℕ → ℕ → Option Origin
origin_at text at = joined (slice_get (origins text) (line_of text at - 1))

-- it is a line of the file of this name
abbrev pub is_of : List ℕ → Option Origin → Bool
is_of name None = false
is_of name (Some o) = bytes_eq o.file name

-- the byte stands in the file of this name
abbrev pub stands_in : List ℕ → List ℕ → ℕ → Bool
stands_in text name at = is_of name (origin_at text at)

abbrev pub has_name : List ℕ → Option (List ℕ) → Bool
has_name name None = false
has_name name (Some written) = bytes_eq (decoded written) name

abbrev pub names_file : List ℕ → Option Marker → Bool
names_file name None = false
names_file name (Some m) = has_name name m.name

-- some marker of the text names the file
abbrev pub is_named : List ℕ → List ℕ → Bool
is_named text name = list_any (names_file name) (markers_of text)
