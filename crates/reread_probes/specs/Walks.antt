-- A walk over a tree in the order of the text. It takes each probe at the place where the table
-- puts such a one; what it does not take stays in front of all later ones.
use Rattle.std.specs.Prelude.{ℕ, ◌==◌, nat_lt, Bool, true, false, ◌&&◌, List, [], ◌∷◌, ◌++◌, Option}
use Rattle.std.specs.Prelude.{Some, None, if◌then◌else◌}
use Rattle.mc_span.specs.declared.span.Span.{Span}
use Rattle.reread_pieces.specs.declared.piece.What.{What}
use Rattle.reread_pieces.specs.declared.piece.What.TheVariants as what
use Rattle.reread_pieces.specs.declared.placed.Placed.{Placed}
use Rattle.reread_probes.specs.declared.probe.Probe.{Probe}
use Rattle.reread_probes.specs.declared.spot.Spot.{Spot}
use Rattle.reread_probes.specs.declared.spot.Spot.TheVariants as spot

-- the probes that are not taken yet, those that are placed, and whether all so far has the shape of
-- the table
pub record Walk : Type 0 where
  pub left : List Probe
  pub placed : List Placed
  pub fits : Bool

-- ---- the places of probes

-- which row of the table stands at a spot
abbrev pub is_row : Spot → What → Bool
is_row (spot.Registers end) (what.Registers count) = true
is_row (spot.Entry end) (what.Entry bit) = true
is_row (spot.Exit end) (what.Exit bit) = true
is_row (spot.Declaration start) (what.Declaration bit) = true
is_row (spot.Label end) (what.Label register bit) = true
is_row (spot.Default end) (what.Default register bit) = true
is_row (spot.Statement start) (what.Statement bit) = true
is_row (spot.Value start) what.Value = true
is_row spot.ValueEnd (what.ValueEnd bit) = true
is_row (spot.Return start) (what.Return bit) = true
is_row (spot.Operand start is_cond) (what.Decision register base) = is_cond
is_row (spot.Operand start is_cond) (what.Condition register on_true on_false) = is_cond
is_row (spot.Operand start is_cond) (what.Switch register) = true
is_row _ _ = false

-- Whether a probe is there: `last` is where the last token before it ends, `next` where the next
-- one starts. Those of a function's body stand before its end, the others directly before or after
-- what they stand at. The end of a value follows its start.
abbrev pub is_there : Spot → ℕ → ℕ → Bool
is_there (spot.Registers end) last next = nat_lt next end
is_there (spot.Entry end) last next = nat_lt next end
is_there (spot.Exit end) last next = nat_lt next end
is_there (spot.Declaration start) last next = next == start
is_there (spot.Label end) last next = last == end
is_there (spot.Default end) last next = last == end
is_there (spot.Statement start) last next = next == start
is_there (spot.Value start) last next = next == start
is_there spot.ValueEnd last next = true
is_there (spot.Return start) last next = next == start
is_there (spot.Operand start is_cond) last next = next == start

-- whether the first of these probes stands at a spot
abbrev pub stands : Spot → List Probe → Bool
stands s [] = false
stands s (p ∷ ps) = is_row s p.what && is_there s p.last p.next

-- ---- the steps of a walk

abbrev pub start : List Probe → Walk
start ps = record { left = ps; placed = []; fits = true }

-- something has no shape
abbrev pub refused : Walk → Walk
refused w = record { left = w.left; placed = w.placed; fits = false }

abbrev pub refused_if : Bool → Walk → Walk
refused_if b w = if b then refused w else w

abbrev pub after_first : List Probe → List Probe
after_first [] = []
after_first (p ∷ ps) = ps

-- the first probe is taken and not placed
abbrev pub passed : Walk → Walk
passed w = record { left = after_first w.left; placed = w.placed; fits = w.fits }

abbrev pub passed_if : Bool → Walk → Walk
passed_if b w = if b then passed w else w

abbrev pub placed_at : Span → List Probe → List Placed
placed_at span [] = []
placed_at span (p ∷ ps) = record { what = p.what; word = p.word; span = span } ∷ []

-- the first probe is taken, and placed at what stands there
abbrev pub taken : Span → Walk → Walk
taken span w =
    record {
      left = after_first w.left;
      placed = w.placed ++ placed_at span w.left;
      fits = w.fits;
    }

abbrev pub may_take : Spot → Span → Walk → Walk
may_take s span w = if stands s w.left then taken span w else w

abbrev pub must_take : Spot → Span → Walk → Walk
must_take s span w = if stands s w.left then taken span w else refused w

-- ---- the end

abbrev pub answer_of : Bool → List Probe → List Placed → Option (List Placed)
answer_of true [] placed = Some placed
answer_of _ _ placed = None

-- All probes are taken.
abbrev pub answer : Walk → Option (List Placed)
answer w = answer_of w.fits w.left w.placed
