-- What the program's markers and places stand for.
use Rattle.std.specs.Prelude.{ℕ, List, [], Option, Some, None, option_map, map}
use denote.Ref.{Bor}
use Rattle.mc_places.specs.declared.marker.Marker as code_marker
use Rattle.mc_places.specs.declared.markers.Markers as code_markers
use Rattle.mc_places.specs.declared.name.Written as code_written
use Rattle.mc_places.specs.declared.origin.Origin as code_origin
use Rattle.mc_places.specs.Lines.{lines_of}
use Rattle.mc_places.specs.Markers.{Marker, markers_from}
use Rattle.mc_places.specs.Names.{Written, decoded}
use Rattle.mc_places.specs.Origins.{Origin}

abbrev pub name_of : Option (Bor (List ℕ)) → Option (List ℕ)
name_of name = option_map (λ n. n.now) name

abbrev pub marker_seen : code_marker.Marker → Marker
marker_seen m = record { number = m.number; name = name_of m.name }

-- the lines that are left of a text
abbrev pub lines_in : Option (Bor (List ℕ)) → List (List ℕ)
lines_in None = []
lines_in (Some bytes) = lines_of bytes.now

-- the markers that are left, one or none for each line
abbrev pub markers_left : code_markers.Markers → List (Option Marker)
markers_left s = markers_from s.is_open (lines_in s.left)

abbrev pub origin_of : code_origin.Origin → Origin
origin_of o = record { file = decoded o.written.now; line = o.line }

abbrev pub origins_of : List (Option code_origin.Origin) → List (Option Origin)
origins_of os = map (option_map origin_of) os

abbrev pub written_seen : code_written.Written → Written
written_seen w = record { byte = w.byte; more = w.more }
