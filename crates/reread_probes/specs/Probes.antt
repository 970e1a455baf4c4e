-- The probes of an instrumented text: those of its pieces that are rows of the table, in the order
-- of the text.
use Rattle.std.specs.Prelude.{ℕ, Bool, true, false, List, [], ◌∷◌, ◌++◌, if◌then◌else◌}
use Rattle.reread_pieces.specs.declared.piece.What.{What}
use Rattle.reread_pieces.specs.declared.piece.What.TheVariants as what
use Rattle.reread_pieces.specs.declared.without.Stand.{Stand}
use Rattle.reread_pieces.specs.declared.without.Stand.TheVariants.{Own}
use Rattle.reread_pieces.specs.Pieces.{Mark}
use Rattle.reread_pieces.specs.Plain.{stand_of, end_of}
use Rattle.reread_probes.specs.declared.probe.Probe.{Probe}

-- whether a piece is a row of the table: no token of the source, and no end of what a row encloses
abbrev pub is_probe : What → Bool
is_probe what.Source = false
is_probe (what.Opening b) = false
is_probe what.Closing = false
is_probe what.StatementEnd = false
is_probe what.ReturnEnd = false
is_probe what.OperandEnd = false
is_probe _ = true

abbrev pub is_own : Stand → Bool
is_own Own = true
is_own _ = false

-- whether a piece leaves a token that has a place of its own
abbrev pub has_place : What → Bool
has_place w = is_own (stand_of w)

-- where the next token with a place of its own starts
abbrev pub next_start : List Mark → ℕ
next_start [] = 0
next_start (m ∷ ms) = if has_place m.row then m.token.start else next_start ms

-- a piece and those after it, where the last token before them ends at `end`
abbrev pub probe_of : ℕ → Mark → List Mark → Probe
probe_of end m ms =
    record { what = m.row; word = m.word; last = end; next = next_start (m ∷ ms) }

abbrev pub front_probe : ℕ → Mark → List Mark → List Probe
front_probe end m ms = if is_probe m.row then probe_of end m ms ∷ [] else []

abbrev pub probes_from : ℕ → List Mark → List Probe
probes_from end [] = []
probes_from end (m ∷ ms) = front_probe end m ms ++ probes_from (end_of m end) ms

abbrev pub probes : List Mark → List Probe
probes ms = probes_from 0 ms
