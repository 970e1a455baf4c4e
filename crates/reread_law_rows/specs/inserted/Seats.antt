-- The probes among the rows of a text: where they stand between the tokens of the source, and as
-- what is placed.
use Rattle.std.specs.Prelude.{◌≡◌, ℕ, Bool, true, false, List, [], ◌∷◌, map, if◌then◌else◌}
use Rattle.mc_span.specs.declared.span.Span.{Span}
use Rattle.reread_pieces.specs.declared.piece.What.{What}
use Rattle.reread_pieces.specs.declared.piece.What.TheVariants as what
use Rattle.reread_pieces.specs.declared.placed.Placed.{Placed}
use Rattle.reread_probes.specs.declared.probe.Probe.{Probe}
use Rattle.reread_probes.specs.declared.spot.Spot.{Spot}
use Rattle.reread_probes.specs.declared.spot.Spot.TheVariants as spot
use Rattle.reread_probes.specs.Probes.{is_probe}
use Rattle.reread_probes.specs.Walks.{is_there}
use Rattle.reread_law_rows.specs.inserted.Rows.{Row}

-- ---- probes between the tokens of the source

-- those rows that are no end of another
abbrev pub probe_rows : List Row → List Row
probe_rows [] = []
probe_rows (r ∷ rest) = if is_probe r.what then r ∷ probe_rows rest else probe_rows rest

-- the place of the tree at which the table puts a row
abbrev pub spot_of : What → Span → ℕ → Spot
spot_of (what.Registers count) span end = spot.Registers end
spot_of (what.Entry bit) span end = spot.Entry end
spot_of (what.Exit bit) span end = spot.Exit end
spot_of (what.Declaration bit) span end = spot.Declaration span.start
spot_of (what.Label register bit) span end = spot.Label span.end
spot_of (what.Default register bit) span end = spot.Default span.end
spot_of (what.Statement bit) span end = spot.Statement span.start
spot_of what.Value span end = spot.Value span.start
spot_of (what.ValueEnd bit) span end = spot.ValueEnd
spot_of (what.Return bit) span end = spot.Return span.start
spot_of w span end = spot.Operand span.start true

abbrev pub IsThere : Row → Probe → Type 0
IsThere r q =
    (q.what ≡ r.what) × (is_there (spot_of r.what r.span r.end) q.last q.next ≡ true)

-- These probes, one for each of these rows, stand where the rows do.
abbrev pub AreThere : List Row → List Probe → Type 0
AreThere [] [] = Unit {0}
AreThere (r ∷ rows) (q ∷ probes) = IsThere r q × AreThere rows probes
AreThere _ _ = ⊥

-- ---- what is placed

-- What stands in place of the word `return` is not placed: its end is.
abbrev pub is_placed : What → Bool
is_placed what.Value = false
is_placed w = is_probe w

abbrev pub placed_rows : List Row → List Row
placed_rows [] = []
placed_rows (r ∷ rest) = if is_placed r.what then r ∷ placed_rows rest else placed_rows rest

-- what stands at which place
pub record Seat : Type 0 where
  pub what : What
  pub span : Span

abbrev pub seat_of_row : Row → Seat
seat_of_row r = record { what = r.what; span = r.span }

abbrev pub seat_of : Placed → Seat
seat_of q = record { what = q.what; span = q.span }

-- These are the probes of these rows, each at what the row stands at.
abbrev pub ArePlaced : List Row → List Placed → Type 0
ArePlaced rows placed = map seat_of placed ≡ map seat_of_row (placed_rows rows)
