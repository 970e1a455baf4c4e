-- The rows of a part of a tree, with what the pen of the text does there.
use Rattle.std.proofs.Common.{◌≡◌, ℕ, Bool, true, false, List, [], ◌∷◌, ◌++◌, refl, sym, ap, ◌∙◌, append_assoc}
use Rattle.std.specs.List.{AllByRecursion as Each}
use Rattle.mc_span.specs.declared.span.Span.{Span}
use Rattle.mc_lex.specs.Tokens.{Tok}
use Rattle.reread_pieces.specs.declared.piece.What.{What}
use Rattle.reread_pieces.specs.declared.piece.What.TheVariants as what
use Rattle.mc_print.specs.Pens.{Pen, ◌▸◌, nothing}
use Rattle.mc_print.specs.Insertions.{at, open_value, close_value}
use Rattle.reread_law_rows.specs.inserted.Rows.{Row, Rows, row, no_rows}
use Rattle.reread_law_rows.specs.inserted.Fits.{Fits, IsOperandAmong, IsStatementAmong, IsReturnAmong, ReturnsAmong}
use Rattle.reread_law_printed.specs.parts.Parts.{row_texts, place_by, is_row}

-- ---- what the pen does at a row

abbrev pub step : What → Span → Pen → Pen
step what.Value span = open_value span
step (what.ValueEnd b) span = close_value b span
step w span = at (place_by w span) (row_texts [] w)

abbrev pub steps : List Row → Pen → Pen
steps [] pen = pen
steps (r ∷ rows) pen = steps rows (step r.what r.span pen)

-- ---- rows that stand alone, and rows that enclose something

pub data IsAlone : What → Type 0 where
  declaration : {b : ℕ} → IsAlone (what.Declaration b)
  label : {r b : ℕ} → IsAlone (what.Label r b)
  absent : {r b : ℕ} → IsAlone (what.Default r b)

pub data IsRound : What → What → Type 0 where
  statement : {b : ℕ} → IsRound (what.Statement b) what.StatementEnd
  value : {b : ℕ} → IsRound what.Value (what.ValueEnd b)
  bare : {b : ℕ} → IsRound (what.Return b) what.ReturnEnd
  decision : {r base : ℕ} → IsRound (what.Decision r base) what.OperandEnd
  condition : {r t f : ℕ} → IsRound (what.Condition r t f) what.OperandEnd
  switch : {r : ℕ} → IsRound (what.Switch r) what.OperandEnd

pub data Tied : Rows → (Pen → Pen) → Type 0 where
  none : Tied no_rows nothing
  both : (f g : Rows) (act also : Pen → Pen) → Tied f act → Tied g also → Tied (λ later. f (g later)) (act ▸ also)
  alone : (w : What) (span : Span) → IsAlone w → Tied (row w span) (step w span)
  round : (w v : What) (span : Span) (f : Rows) (act : Pen → Pen)
      → IsRound w v → Tied f act → Tied (λ later. row w span (f (row v span later))) (step w span ▸ (act ▸ step v span))

-- one after the other
pub seq : {f g : Rows} {act also : Pen → Pen} → Tied f act → Tied g also → Tied (λ later. f (g later)) (act ▸ also)
seq {f = f} {g = g} {act = act} {also = also} t u = both f g act also t u

-- ---- what follows

pub steps_tied : {f : Rows} {act : Pen → Pen} → Tied f act → (later : List Row) (pen : Pen) → steps later (act pen) ≡ steps (f later) pen
steps_tied none later pen = refl
steps_tied (both f g act also t u) later pen = steps_tied u later (act pen) ∙ steps_tied t (g later) pen
steps_tied (alone w span i) later pen = refl
steps_tied (round w v span f act i t) later pen = steps_tied t (row v span later) (step w span pen)

pub added : {f : Rows} {act : Pen → Pen} → Tied f act → (later : List Row) → f later ≡ f [] ++ later
added none later = refl
added (both f g act also t u) later =
    added t (g later) ∙ (ap (λ l. f [] ++ l) (added u later) ∙ (sym (append_assoc (f []) (g []) later) ∙ ap (λ l. l ++ later) (sym (added t (g [])))))
added (alone w span i) later = refl
added (round w v span f act i t) later =
    ap (row w span) (added t (row v span later) ∙ (sym (append_assoc (f []) (row v span []) later) ∙ ap (λ l. l ++ later) (sym (added t (row v span [])))))

-- ---- what the rows are

-- what holds of rows that stand alone, and of rows that enclose something and their ends
module _ (P : What → Type 0) (single : (w : What) → IsAlone w → P w) (double : (w v : What) → IsRound w v → P w × P v) where
  pub each_row : {f : Rows} {act : Pen → Pen} → Tied f act → (later : List Row) → Each (λ (r : Row). P r.what) later → Each (λ (r : Row). P r.what) (f later)
  each_row none later h = h
  each_row (both f g act also t u) later h = each_row t (g later) (each_row u later h)
  each_row (alone w span i) later h = (single w i, h)
  each_row (round w v span f act i t) later h = let two = double w v i in (two.0, each_row t (row v span later) (two.1, h))

-- rows among the tokens of a body
abbrev pub is_inner : What → Bool
is_inner what.Source = false
is_inner (what.Opening b) = false
is_inner what.Closing = false
is_inner (what.Registers n) = false
is_inner (what.Entry b) = false
is_inner (what.Exit b) = false
is_inner w = true

abbrev pub Inner : What → Type 0
Inner w = is_inner w ≡ true

alone_is : (w : What) → IsAlone w → Inner w
alone_is _ declaration = refl
alone_is _ label = refl
alone_is _ absent = refl

round_is : (w v : What) → IsRound w v → Inner w × Inner v
round_is _ _ statement = (refl, refl)
round_is _ _ value = (refl, refl)
round_is _ _ bare = (refl, refl)
round_is _ _ decision = (refl, refl)
round_is _ _ condition = (refl, refl)
round_is _ _ switch = (refl, refl)

pub inner_rows : {f : Rows} {act : Pen → Pen} → Tied f act → Each (λ (r : Row). Inner r.what) (f [])
inner_rows t = each_row Inner alone_is round_is t [] tt

abbrev pub IsRow : Row → Type 0
IsRow r = is_row r.what ≡ true

inner_is : (w : What) → Inner w → is_row w ≡ true
inner_is what.Source h = h
inner_is (what.Opening b) h = h
inner_is what.Closing h = h
inner_is w h = refl

each_is : (rows : List Row) → Each (λ (r : Row). Inner r.what) rows → Each IsRow rows
each_is [] h = tt
each_is (r ∷ rows) h = (inner_is r.what h.0, each_is rows h.1)

pub rows_are : {f : Rows} {act : Pen → Pen} → Tied f act → Each IsRow (f [])
rows_are {f = f} t = each_is (f []) (inner_rows t)

-- ---- where they stand

-- An end stands at the place of what it ends.
abbrev pub FitsAll : List Tok → What → Span → Type 0
FitsAll tokens what.StatementEnd span = IsStatementAmong tokens span
FitsAll tokens (what.ValueEnd b) span = ReturnsAmong tokens span
FitsAll tokens what.ReturnEnd span = IsReturnAmong tokens span []
FitsAll tokens what.OperandEnd span = IsOperandAmong tokens span
FitsAll tokens w span = Fits tokens w span

module _ (tokens : List Tok) where
  abbrev pub Fit : Row → Type 0
  Fit r = Fits tokens r.what r.span

  abbrev pub FitAll : Row → Type 0
  FitAll r = FitsAll tokens r.what r.span

  alone_fits : (w : What) (span : Span) → IsAlone w → Fits tokens w span → FitsAll tokens w span
  alone_fits _ span declaration h = h
  alone_fits _ span label h = h
  alone_fits _ span absent h = h

  round_fits : (w v : What) (span : Span) → IsRound w v → Fits tokens w span → FitsAll tokens w span × FitsAll tokens v span
  round_fits _ _ span statement h = (h, h)
  round_fits _ _ span value h = (h, h)
  round_fits _ _ span bare h = (h, h)
  round_fits _ _ span decision h = (h, h)
  round_fits _ _ span condition h = (h, h)
  round_fits _ _ span switch h = (h, h)

  pub all_fit : {f : Rows} {act : Pen → Pen} → Tied f act → (later : List Row) → Each Fit (f later) → Each Fit later × (Each FitAll later → Each FitAll (f later))
  all_fit none later h = (h, λ a. a)
  all_fit (both f g act also t u) later h =
      let first = all_fit t (g later) h in
      let second = all_fit u later first.0 in
      (second.0, λ a. first.1 (second.1 a))
  all_fit (alone w span i) later h = (h.1, λ a. (alone_fits _ span i h.0, a))
  all_fit (round w v span f act i t) later h =
      let inner = all_fit t (row v span later) h.1 in
      let two = round_fits _ _ span i h.0 in
      (inner.0.1, λ a. (two.0, inner.1 (two.1, a)))
