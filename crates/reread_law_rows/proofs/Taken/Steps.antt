-- A walk that takes the probes of rows one after the other.
use Rattle.std.proofs.Common.{◌≡◌, ℕ, zero, suc, Bool, true, false, ◌&&◌, ◌||◌, List, [], ◌∷◌, ◌++◌, length, map, if◌then◌else◌, refl, sym, ap, ap₂, subst, ◌∙◌}
use Rattle.mc_span.specs.declared.span.Span.{Span}
use Rattle.mc_typed.specs.declared.probes.Probe.{Probe as Inserted}
use Rattle.mc_typed.specs.declared.probes.Probe.TheVariants as probe
use Rattle.reread_pieces.specs.declared.piece.What.TheVariants as what
use Rattle.reread_pieces.specs.declared.placed.Placed.{Placed}
use Rattle.reread_probes.specs.declared.probe.Probe.{Probe}
use Rattle.reread_probes.specs.declared.spot.Spot.{Spot}
use Rattle.reread_probes.specs.declared.spot.Spot.TheVariants as spot
use Rattle.reread_probes.specs.Probes.{is_probe}
use Rattle.reread_probes.specs.Walks.{Walk, is_row, is_there, stands, after_first, passed, placed_at, taken, refused, may_take, must_take}
use Rattle.reread_law_texts.specs.weave.Brackets.{Brackets}
use Rattle.reread_law_rows.specs.inserted.Rows.{Row, row, row_of_probe}
use Rattle.reread_law_rows.specs.inserted.Signs.{encloses, is_counted}
use Rattle.reread_law_rows.specs.inserted.Seats.{probe_rows, spot_of, AreThere, is_placed, placed_rows, Seat, seat_of_row, seat_of}
use Rattle.reread_law_rows.proofs.Taken.Puts.{opens, ends}
use Rattle.reread_law_rows.proofs.Taken.Claims.{Claim, AreRight}

-- These rows are left to a walk that has placed the others, with these claims to come.
pub record Holds (w : Brackets) (all : List Seat) (rows : List Row) (cs : List Claim) (walk : Walk) : Type 0 where
  pub there : AreThere (probe_rows rows) walk.left
  pub fits : walk.fits ≡ true
  pub placed : map seat_of walk.placed ++ map seat_of_row (placed_rows rows) ≡ all
  pub claims : AreRight w cs
  pub braces : (s : Span) → is_counted s rows ≡ true → w.braces s ≡ true

-- ---- the first probe

or_true : (b : Bool) → (b || true) ≡ true
or_true true = refl
or_true false = refl

pub and_false : (a b : Bool) → a ≡ false → (a && b) ≡ false
and_false a b e = ap (λ x. x && b) e

stands_by : (s : Spot) (r : Row) (rows : List Row) (qs : List Probe) → AreThere (r ∷ rows) qs
    → s ≡ spot_of r.what r.span r.end → is_row s r.what ≡ true → stands s qs ≡ true
stands_by s r rows [] h e k = absurd h
stands_by s r rows (q ∷ qs) h e k =
    ap₂ (λ a b. a && b) (ap (is_row s) h.0.0 ∙ k) (ap (λ x. is_there x q.last q.next) e ∙ h.0.1)

elsewhere : (s : Spot) (r : Row) (rows : List Row) (qs : List Probe) → AreThere (r ∷ rows) qs
    → is_row s r.what ≡ false → stands s qs ≡ false
elsewhere s r rows [] h k = refl
elsewhere s r rows (q ∷ qs) h k = and_false (is_row s q.what) (is_there s q.last q.next) (ap (is_row s) h.0.0 ∙ k)

there_after : (r : Row) (rows : List Row) (qs : List Probe) → AreThere (r ∷ rows) qs → AreThere rows (after_first qs)
there_after r rows [] h = absurd h
there_after r rows (q ∷ qs) h = h.1

grows : (ps : List Placed) (q : Placed) (r : Row) (seats : List Seat) → seat_of q ≡ seat_of_row r
    → map seat_of (ps ++ q ∷ []) ++ seats ≡ map seat_of ps ++ seat_of_row r ∷ seats
grows [] q r seats e = ap (λ x. x ∷ seats) e
grows (p ∷ ps) q r seats e = ap (λ x. seat_of p ∷ x) (grows ps q r seats e)

placed_more : (ps : List Placed) (r : Row) (rows : List Row) (qs : List Probe) (seats : List Seat) → AreThere (r ∷ rows) qs
    → map seat_of (ps ++ placed_at r.span qs) ++ seats ≡ map seat_of ps ++ seat_of_row r ∷ seats
placed_more ps r rows [] seats h = absurd h
placed_more ps r rows (q ∷ qs) seats h =
    grows ps (record { what = q.what; word = q.word; span = r.span }) r seats
    (ap (λ x. record { what = x; span = r.span }) h.0.0)

module _ {w : Brackets} {all : List Seat} {rows : List Row} {cs : List Claim} {walk : Walk} where
  first_there : (r : Row) → is_probe r.what ≡ true → Holds w all (r ∷ rows) cs walk
      → AreThere (r ∷ probe_rows rows) walk.left
  first_there r e h =
      subst (λ b. AreThere (if b then r ∷ probe_rows rows else probe_rows rows) walk.left) e h.there

  first_placed : (r : Row) → is_placed r.what ≡ true → Holds w all (r ∷ rows) cs walk
      → map seat_of walk.placed ++ seat_of_row r ∷ map seat_of_row (placed_rows rows) ≡ all
  first_placed r e h =
      subst (λ b. map seat_of walk.placed ++ map seat_of_row (if b then r ∷ placed_rows rows else placed_rows rows) ≡ all)
      e h.placed

  first_kept : (r : Row) → is_placed r.what ≡ false → Holds w all (r ∷ rows) cs walk
      → map seat_of walk.placed ++ map seat_of_row (placed_rows rows) ≡ all
  first_kept r e h =
      subst (λ b. map seat_of walk.placed ++ map seat_of_row (if b then r ∷ placed_rows rows else placed_rows rows) ≡ all)
      e h.placed

  later_braces : (r : Row) → Holds w all (r ∷ rows) cs walk → (s : Span) → is_counted s rows ≡ true → w.braces s ≡ true
  later_braces r h s e = h.braces s (ap (λ b. encloses s r || b) e ∙ or_true (encloses s r))

  taken_holds : (r : Row) → is_probe r.what ≡ true → is_placed r.what ≡ true → Holds w all (r ∷ rows) cs walk
      → Holds w all rows cs (taken r.span walk)
  taken_holds r e k h = record {
    there = there_after r (probe_rows rows) walk.left (first_there r e h);
    fits = h.fits;
    placed =
        placed_more walk.placed r (probe_rows rows) walk.left (map seat_of_row (placed_rows rows)) (first_there r e h)
        ∙ first_placed r k h;
    claims = h.claims;
    braces = later_braces r h;
  }

  pub passed_holds : (r : Row) → is_probe r.what ≡ true → is_placed r.what ≡ false → Holds w all (r ∷ rows) cs walk
      → Holds w all rows cs (passed walk)
  passed_holds r e k h = record {
    there = there_after r (probe_rows rows) walk.left (first_there r e h);
    fits = h.fits;
    placed = first_kept r k h;
    claims = h.claims;
    braces = later_braces r h;
  }

  pub stands_first : (s : Spot) (r : Row) → is_probe r.what ≡ true → s ≡ spot_of r.what r.span r.end
      → is_row s r.what ≡ true → Holds w all (r ∷ rows) cs walk → stands s walk.left ≡ true
  stands_first s r e k l h = stands_by s r (probe_rows rows) walk.left (first_there r e h) k l

  pub stands_not : (s : Spot) (r : Row) → is_probe r.what ≡ true → is_row s r.what ≡ false
      → Holds w all (r ∷ rows) cs walk → stands s walk.left ≡ false
  stands_not s r e k h = elsewhere s r (probe_rows rows) walk.left (first_there r e h) k

  pub may : (s : Spot) (r : Row) → is_probe r.what ≡ true → is_placed r.what ≡ true
      → s ≡ spot_of r.what r.span r.end → is_row s r.what ≡ true
      → Holds w all (r ∷ rows) cs walk → Holds w all rows cs (may_take s r.span walk)
  may s r e k l m h =
      subst (λ b. Holds w all rows cs (if b then taken r.span walk else walk)) (sym (stands_first s r e l m h))
      (taken_holds r e k h)

  pub must : (s : Spot) (r : Row) → is_probe r.what ≡ true → is_placed r.what ≡ true
      → s ≡ spot_of r.what r.span r.end → is_row s r.what ≡ true
      → Holds w all (r ∷ rows) cs walk → Holds w all rows cs (must_take s r.span walk)
  must s r e k l m h =
      subst (λ b. Holds w all rows cs (if b then taken r.span walk else refused walk)) (sym (stands_first s r e l m h))
      (taken_holds r e k h)

  pub may_not : (s : Spot) (at : Span) → stands s walk.left ≡ false → Holds w all rows cs walk
      → Holds w all rows cs (may_take s at walk)
  may_not s at e h = subst (λ b. Holds w all rows cs (if b then taken at walk else walk)) (sym e) h

  -- ---- rows that end others

  pub skip_operand : {at : Span} → Holds w all (row what.OperandEnd at rows) cs walk → Holds w all rows cs walk
  skip_operand h =
      record { there = h.there; fits = h.fits; placed = h.placed; claims = h.claims; braces = h.braces }

  pub skip_statement : {at : Span} → Holds w all (row what.StatementEnd at rows) cs walk → Holds w all rows cs walk
  skip_statement h =
      record { there = h.there; fits = h.fits; placed = h.placed; claims = h.claims; braces = h.braces }

  pub skip_return : {at : Span} → Holds w all (row what.ReturnEnd at rows) cs walk → Holds w all rows cs walk
  skip_return h =
      record { there = h.there; fits = h.fits; placed = h.placed; claims = h.claims; braces = h.braces }

  pub claimed : {c : Claim} → Holds w all rows (c ∷ cs) walk → Holds w all rows cs walk
  claimed h =
      record { there = h.there; fits = h.fits; placed = h.placed; claims = h.claims.1; braces = h.braces }

pub skip_ends : (qs : List Inserted) (at : Span) {w : Brackets} {all : List Seat} {later : List Row} {cs : List Claim}
    {walk : Walk} → Holds w all (ends qs at later) cs walk → Holds w all later cs walk
skip_ends [] at h = h
skip_ends (q ∷ qs) at h = skip_ends qs at (skip_operand h)

-- ---- the probes round an expression

abbrev pub taken_all : ℕ → Span → Walk → Walk
taken_all zero at walk = walk
taken_all (suc n) at walk = must_take (spot.Operand at.start true) at (taken_all n at walk)

pub taken_last : (n : ℕ) (at : Span) (walk : Walk)
    → taken_all n at (must_take (spot.Operand at.start true) at walk) ≡ taken_all (suc n) at walk
taken_last zero at walk = refl
taken_last (suc n) at walk = ap (must_take (spot.Operand at.start true) at) (taken_last n at walk)

must_probe : (q : Inserted) (at : Span) {w : Brackets} {all : List Seat} {rows : List Row} {cs : List Claim} {walk : Walk}
    → Holds w all (row (row_of_probe q) at rows) cs walk
    → Holds w all rows cs (must_take (spot.Operand at.start true) at walk)
must_probe (probe.Decision r base) at h =
    must (spot.Operand at.start true) (record { what = what.Decision r base; span = at; end = at.end }) refl refl refl refl h
must_probe (probe.Condition r t f) at h =
    must (spot.Operand at.start true) (record { what = what.Condition r t f; span = at; end = at.end }) refl refl refl refl h
must_probe (probe.Switch r) at h =
    must (spot.Operand at.start true) (record { what = what.Switch r; span = at; end = at.end }) refl refl refl refl h

pub take_opens : (qs : List Inserted) (at : Span) {w : Brackets} {all : List Seat} {rows : List Row} {cs : List Claim}
    {walk : Walk} → Holds w all (opens qs at rows) cs walk → Holds w all rows cs (taken_all (length qs) at walk)
take_opens [] at h = h
take_opens (q ∷ qs) at h = must_probe q at (take_opens qs at h)
