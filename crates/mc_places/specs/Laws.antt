-- What follows from the definitions of markers and places.
use Rattle.std.specs.Prelude.{◌≡◌, ℕ, ◌+◌, ◌-◌, ◌<◌, ◌≤◌, ◌↔◌, List, length, slice_get, Some, None, IsSome}
use Rattle.mc_lex.specs.Bytes.{is_white_space_in_line}
use Rattle.mc_lex.specs.Gaps.{IsMarker}
use Rattle.mc_lex.specs.Lines.{line_of}
use Rattle.mc_places.specs.Markers.{Marker, greatest_line, marker_of, markers_of, past}
use Rattle.mc_places.specs.Names.{decoded}
use Rattle.mc_places.specs.Origins.{Origin, origin_at, origins}

-- the line of each byte is one of those whose file and line are said: each byte has at most one
abbrev pub BytesStandOnLines : Type 0
BytesStandOnLines =
    (text : List ℕ) (at : ℕ) → at ≤ length text → line_of text at - 1 < length (origins text)

-- after a line that is no marker the number goes up by one, in the same file
abbrev pub LinesGoUp : Type 0
LinesGoUp =
    (text : List ℕ) (k : ℕ) (o : Origin) → slice_get (markers_of text) k ≡ Some None →
    slice_get (origins text) k ≡ Some (Some o) → o.line < greatest_line →
    k + 1 < length (origins text) →
    slice_get (origins text) (k + 1) ≡ Some (Some (record { file = o.file; line = o.line + 1 }))

-- the line after a marker has the file and the number that the marker gives
abbrev pub MarkersGiveLines : Type 0
MarkersGiveLines =
    (text : List ℕ) (k number : ℕ) (name : List ℕ) →
    slice_get (markers_of text) k ≡ Some (Some (record { number = Some number; name = Some name })) →
    k + 1 < length (origins text) →
    slice_get (origins text) (k + 1) ≡ Some (Some (record { file = decoded name; line = number }))

-- a text without a marker has no file
abbrev pub NoMarkerNoPlace : Type 0
NoMarkerNoPlace =
    (text : List ℕ) (at : ℕ) →
    ((k : ℕ) (m : Marker) → slice_get (markers_of text) k ≡ Some (Some m) → ⊥) →
    origin_at text at ≡ None

-- a line is a marker exactly where, after white space, it is one for the tokens of a source
abbrev pub MarkersAreLexers : Type 0
MarkersAreLexers =
    (line : List ℕ) → IsSome (marker_of line) ↔ IsMarker (past is_white_space_in_line line)
