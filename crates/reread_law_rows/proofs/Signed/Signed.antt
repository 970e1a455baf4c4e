-- The brackets of the rows of a part of a text are those of its tree: the parts of this.
use Rattle.std.proofs.Common.{◌≡◌, ◌≤◌, ◌<◌, ◌-◌, ℕ, zero, suc, true, false, List, [], ◌∷◌, length, refl, sym, ap, subst, ◌∙◌, codes, arith}
use Rattle.std.proofs.lemmas.Bool.{false≢true}
use Rattle.mc_span.specs.declared.span.Span.{Span}
use Rattle.mc_typed.specs.declared.probes.Probe.{Probe}
use Rattle.mc_typed.specs.declared.probes.Probe.TheVariants as probe
use Rattle.mc_probe.specs.Tree as p
use Rattle.reread_pieces.specs.declared.piece.What.TheVariants as what
use Rattle.reread_law_texts.specs.weave.Brackets.{Brackets, sign}
use Rattle.reread_law_texts.specs.brackets.Signs.{Sign, opened, closed, once}
use Rattle.reread_law_rows.specs.inserted.Rows.{Row, row, row_of_probe, extent, rows}
use Rattle.reread_law_rows.specs.inserted.Signs.{sign_of_row, signs_of, is_round, is_enclosing}
use Rattle.reread_law_texts.specs.apart.Distinct.{Each, HasBytes, IsDistinct}
use Rattle.reread_law_rows.proofs.Signed.Split.{probed_by, openings, endings, rows_probed, counted_openings, counted_endings, counted_other, Within, within_opens, within_closes, within_other, Right, right_opens, right_closes, right_other, right_braces, Few, EndsLate, BracesEndLate, few_opens, few_closes, few_other, late_opens, late_closes, late_other, braces_late}

-- ---- brackets of rows

sign_of_probe : (q : Probe) (at : Span) (later : List Row) → signs_of (row (row_of_probe q) at later) ≡ record { place = at.start; token = sign (codes "(") at.start } ∷ signs_of later
sign_of_probe (probe.Decision r base) at later = refl
sign_of_probe (probe.Condition r t f) at later = refl
sign_of_probe (probe.Switch r) at later = refl

signs_opened : (qs : List Probe) (at : Span) (later : List Row) → signs_of (openings qs at later) ≡ opened (length qs) (codes "(") at (signs_of later)
signs_opened [] at later = refl
signs_opened (q ∷ qs) at later =
    sign_of_probe q at (openings qs at later) ∙ ap (λ ps. record { place = at.start; token = sign (codes "(") at.start } ∷ ps) (signs_opened qs at later)

signs_closed : (n : ℕ) (at : Span) (later : List Row) → signs_of (endings n at later) ≡ closed n (codes ")") at (signs_of later)
signs_closed zero at later = refl
signs_closed (suc n) at later = signs_closed n at (row what.OperandEnd at later)

-- ---- what stands open

-- an expression with so many parentheses round it, or a statement in braces
pub data Level : Type 0 where
  round : Span → ℕ → Level
  curly : Span → Level

abbrev pub Known : Brackets → List Level → Type 0
Known w [] = Unit {0}
Known w (round span n ∷ rest) = (w.parentheses span ≡ n) × Known w rest
Known w (curly span ∷ rest) = (w.braces span ≡ true) × Known w rest

-- From here on, inside of these, the rows have these brackets, if the brackets of the text are known.
-- `own` are the places of expressions, and `held` those of statements.
pub record Signed (w : Brackets) (open_ones : List Level) (own held : List Span) (mine : List Row) (ps : List Sign) : Type 0 where
  pub within : Within own mine
  pub few : IsDistinct own → Few mine
  pub late : Each HasBytes own → EndsLate mine
  pub braces_late : Each HasBytes held → BracesEndLate mine
  pub same : Known w open_ones → Right w own mine → signs_of mine ≡ ps

-- ---- parts

pub ended : (w : Brackets) → Signed w [] [] [] [] []
ended w =
    record {
      within = λ s off. refl;
      few = λ d s. none_few;
      late = λ d s n. none_late s.end n;
      braces_late = λ d s e. none_counted s.end e;
      same = λ o k. refl;
    }
  where
    none_few : 0 ≤ 3
    none_few = omega arith

    none_late : (end : ℕ) → 0 < 0 → 0 < end
    none_late end n = omega (arith, n)

    none_counted : (end : ℕ) → false ≡ true → 0 < end
    none_counted end e = absurd (false≢true e)

pub opens : (w : Brackets) (qs : List Probe) (at : Span) → length qs ≤ 3 → {open_ones : List Level} {own held : List Span} {mine : List Row} {ps : List Sign}
    → Signed w (round at (length qs) ∷ open_ones) own held mine ps
    → Signed w open_ones (at ∷ own) held (openings qs at mine) (opened (w.parentheses at) (codes "(") at ps)
opens w qs at l {own = own} {mine = mine} {ps = ps} t =
    record {
      within = within_opens qs at own mine t.within;
      few = λ d. few_opens qs at own mine l t.within d.0 (t.few d.1);
      late = λ d. late_opens qs at mine d.0 (t.late d.1);
      braces_late = λ d s e. t.braces_late d s (sym (counted_openings qs at s mine) ∙ e);
      same = λ o k.
          let split = right_opens w qs at own mine t.within k in
          signs_opened qs at mine ∙ ap (λ n. opened n (codes "(") at (signs_of mine)) (sym split.here)
          ∙ ap (λ qs. opened (w.parentheses at) (codes "(") at qs) (t.same (split.here, o) split.later);
    }

-- an expression without probes
pub opens_none : (w : Brackets) (at : Span) {open_ones : List Level} {own held : List Span} {mine : List Row} {ps : List Sign}
    → Signed w (round at 0 ∷ open_ones) own held mine ps
    → Signed w open_ones (at ∷ own) held mine (opened (w.parentheses at) (codes "(") at ps)
opens_none w at t = opens w [] at none t
  where
    none : 0 ≤ 3
    none = omega arith

pub closes : (w : Brackets) (n : ℕ) (at : Span) {open_ones : List Level} {own held : List Span} {mine : List Row} {ps : List Sign}
    → Signed w open_ones own held mine ps
    → Signed w (round at n ∷ open_ones) own held (endings n at mine) (closed (w.parentheses at) (codes ")") at ps)
closes w n at {own = own} {mine = mine} {ps = ps} t =
    record {
      within = within_closes n at own mine t.within;
      few = λ d. few_closes n at mine (t.few d);
      late = λ d. late_closes n at mine (t.late d);
      braces_late = λ d s e. t.braces_late d s (sym (counted_endings n at s mine) ∙ e);
      same = λ o k.
          signs_closed n at mine ∙ ap (λ n. closed n (codes ")") at (signs_of mine)) (sym o.0)
          ∙ ap (λ qs. closed (w.parentheses at) (codes ")") at qs) (t.same o.1 (right_closes w n at own mine k));
    }

pub braces_open : (w : Brackets) (b : ℕ) (at : Span) {open_ones : List Level} {own held : List Span} {mine : List Row} {ps : List Sign}
    → Signed w (curly at ∷ open_ones) own held mine ps
    → Signed w open_ones own (at ∷ held) (row (what.Statement b) at mine) (opened (once (w.braces at)) (codes "{") at ps)
braces_open w b at {own = own} {mine = mine} {ps = ps} t =
    let r : Row = record { what = what.Statement b; span = at; end = at.end } in
    record {
      within = within_other r own mine refl t.within;
      few = λ d. few_other r mine refl (t.few d);
      late = λ d. late_other r mine refl (t.late d);
      braces_late = λ d. braces_late b at mine d.0 (t.braces_late d.1);
      same = λ o k.
          let here = right_braces w b at own mine k in
          ap (λ ps. record { place = at.start; token = sign (codes "{") at.start } ∷ ps) (t.same (here, o) (right_other w r own mine refl k))
          ∙ ap (λ b. opened (once b) (codes "{") at ps) (sym here);
    }

pub braces_close : (w : Brackets) (at : Span) {open_ones : List Level} {own held : List Span} {mine : List Row} {ps : List Sign}
    → Signed w open_ones own held mine ps
    → Signed w (curly at ∷ open_ones) own held (row what.StatementEnd at mine) (closed (once (w.braces at)) (codes "}") at ps)
braces_close w at {own = own} {mine = mine} {ps = ps} t =
    let r : Row = record { what = what.StatementEnd; span = at; end = at.end } in
    record {
      within = within_other r own mine refl t.within;
      few = λ d. few_other r mine refl (t.few d);
      late = λ d. late_other r mine refl (t.late d);
      braces_late = λ d s e. t.braces_late d s e;
      same = λ o k.
          ap (λ ps. record { place = at.end; token = sign (codes "}") (at.end - 1) } ∷ ps) (t.same o.1 (right_other w r own mine refl k))
          ∙ ap (λ b. closed (once b) (codes "}") at ps) (sym o.0);
    }

-- a row without a bracket
pub other : (w : Brackets) (r : Row) {open_ones : List Level} {own held : List Span} {mine : List Row} {ps : List Sign}
    → is_round r.what ≡ false → is_enclosing r.what ≡ false → ((later : List Sign) → sign_of_row r later ≡ later)
    → Signed w open_ones own held mine ps → Signed w open_ones own held (r ∷ mine) ps
other w r {own = own} {mine = mine} q h none t =
    record {
      within = within_other r own mine q t.within;
      few = λ d. few_other r mine q (t.few d);
      late = λ d. late_other r mine q (t.late d);
      braces_late = λ d s e. t.braces_late d s (sym (counted_other r s mine h) ∙ e);
      same = λ o k. none (signs_of mine) ∙ t.same o (right_other w r own mine q k);
    }

-- an expression with probes round it
pub node : (w : Brackets) (qs : List Probe) (x : p.Expression) (mine : List Row) → length qs ≤ 3 → {open_ones : List Level} {own held : List Span} {ps : List Sign}
    → Signed w (round (extent x) (length qs) ∷ open_ones) own held (rows x (endings (length qs) (extent x) mine)) ps
    → Signed w open_ones (extent x ∷ own) held (rows (probed_by qs x) mine) (opened (w.parentheses (extent x)) (codes "(") (extent x) ps)
node w qs x mine l {open_ones = open_ones} {own = own} {held = held} {ps = ps} t =
    subst (λ rs. Signed w open_ones (extent x ∷ own) held rs (opened (w.parentheses (extent x)) (codes "(") (extent x) ps)) (sym (rows_probed qs x mine)) (opens w qs (extent x) l t)
