-- What is known of the brackets of a text at the places of a part of its tree, and the same of what
-- is left after the first rows. A part is told before what follows, as its rows and its places are:
-- `own` are the places from here on, and `mine` the rows from here on.
use Rattle.std.proofs.Common.{◌≡◌, ◌≤◌, ◌<◌, ◌+◌, ℕ, zero, suc, nat_eq, Bool, true, false, ◌&&◌, ◌||◌, if◌then◌else◌, List, [], ◌∷◌, length, refl, sym, ap, subst, ◌∙◌, arith}
use Rattle.std.proofs.lemmas.Bool.{false≢true, eqb-true, eq-eqb, and_parts, and_from, false_from_ne_true, or_right, or_left}
use Rattle.mc_span.specs.declared.span.Span.{Span}
use Rattle.mc_typed.specs.declared.probes.Probe.{Probe}
use Rattle.mc_typed.specs.declared.probes.Probe.TheVariants as probe
use Rattle.mc_probe.specs.Tree as p
use Rattle.reread_pieces.specs.declared.piece.What.TheVariants as what
use Rattle.reread_law_texts.specs.weave.Brackets.{Brackets}
use Rattle.reread_law_rows.specs.inserted.Rows.{Row, row, row_of_probe, extent, rows}
use Rattle.reread_law_rows.specs.inserted.Signs.{is_same, is_round, is_enclosing, encloses, count_round, is_counted}
use Rattle.reread_law_texts.specs.apart.Distinct.{Each, HasBytes, IsDistinct}

-- ---- probes round one expression

-- these probes, the first of them outside
abbrev pub probed_by : List Probe → p.Expression → p.Expression
probed_by [] x = x
probed_by (q ∷ qs) x = p.Probe q (probed_by qs x)

-- their rows at a place, before those that follow
abbrev pub openings : List Probe → Span → List Row → List Row
openings [] span later = later
openings (q ∷ qs) span later = row (row_of_probe q) span (openings qs span later)

-- the ends of so many
abbrev pub endings : ℕ → Span → List Row → List Row
endings zero span later = later
endings (suc n) span later = endings n span (row what.OperandEnd span later)

pub extent_probed : (qs : List Probe) (x : p.Expression) → extent (probed_by qs x) ≡ extent x
extent_probed [] x = refl
extent_probed (q ∷ qs) x = extent_probed qs x

pub rows_probed : (qs : List Probe) (x : p.Expression) (later : List Row)
    → rows (probed_by qs x) later ≡ openings qs (extent x) (rows x (endings (length qs) (extent x) later))
rows_probed [] x later = refl
rows_probed (q ∷ qs) x later =
    ap (λ span. row (row_of_probe q) span (rows (probed_by qs x) (row what.OperandEnd span later))) (extent_probed qs x)
    ∙ ap (λ rs. row (row_of_probe q) (extent x) rs) (rows_probed qs x (row what.OperandEnd (extent x) later))

-- ---- places

-- A place is none of these.
abbrev pub IsOff : Span → List Span → Type 0
IsOff s own = Each (λ y. s ≡ y → ⊥) own

pub each_of : {A : Type 0} {P Q R : A → Type 0} (all : List A) → ((x : A) → P x → Q x → R x) → Each P all → Each Q all → Each R all
each_of [] f ps qs = tt
each_of (x ∷ all) f ps qs = (f x ps.0 qs.0, each_of all f ps.1 qs.1)

pub same_place : (a b : Span) → is_same a b ≡ true → a ≡ b
same_place a b e =
    let parts = and_parts (nat_eq a.start b.start) (nat_eq a.end b.end) e in
    let start = eqb-true a.start b.start parts.0 in
    let end = eqb-true a.end b.end parts.1 in
    ap (λ n. let s : Span = record { start = n; end = a.end } in s) start
    ∙ ap (λ n. let s : Span = record { start = b.start; end = n } in s) end

pub other_place : (a b : Span) → (a ≡ b → ⊥) → is_same a b ≡ false
other_place a b h = false_from_ne_true (is_same a b) (λ e. h (same_place a b e))

pub own_place : (a : Span) → is_same a a ≡ true
own_place a = and_from (nat_eq a.start a.start) (nat_eq a.end a.end) (eq-eqb a.start a.start refl) (eq-eqb a.end a.end refl)

-- ---- counts

stands : (q : Probe) (at s : Span) (later : List Row) → count_round s (row (row_of_probe q) at later) ≡ (if is_same at s then 1 + count_round s later else count_round s later)
stands (probe.Decision r base) at s later = refl
stands (probe.Condition r t f) at s later = refl
stands (probe.Switch r) at s later = refl

counts_there : (q : Probe) (at : Span) (later : List Row) → count_round at (row (row_of_probe q) at later) ≡ 1 + count_round at later
counts_there q at later = stands q at at later ∙ ap (λ b. if b then 1 + count_round at later else count_round at later) (own_place at)

counts_not : (q : Probe) (at s : Span) (later : List Row) → (at ≡ s → ⊥) → count_round s (row (row_of_probe q) at later) ≡ count_round s later
counts_not q at s later h = stands q at s later ∙ ap (λ b. if b then 1 + count_round s later else count_round s later) (other_place at s h)

pub openings_there : (qs : List Probe) (at : Span) (later : List Row) → count_round at (openings qs at later) ≡ length qs + count_round at later
openings_there [] at later = no_more (count_round at later)
  where
    no_more : (n : ℕ) → n ≡ 0 + n
    no_more n = omega arith
openings_there (q ∷ qs) at later = counts_there q at (openings qs at later) ∙ ap (λ n. 1 + n) (openings_there qs at later) ∙ one_more (length qs) (count_round at later)
  where
    one_more : (n m : ℕ) → 1 + (n + m) ≡ suc n + m
    one_more n m = omega arith

pub openings_not : (qs : List Probe) (at s : Span) (later : List Row) → (at ≡ s → ⊥) → count_round s (openings qs at later) ≡ count_round s later
openings_not [] at s later h = refl
openings_not (q ∷ qs) at s later h = counts_not q at s (openings qs at later) h ∙ openings_not qs at s later h

pub endings_not : (n : ℕ) (at s : Span) (later : List Row) → count_round s (endings n at later) ≡ count_round s later
endings_not zero at s later = refl
endings_not (suc n) at s later = endings_not n at s (row what.OperandEnd at later)

pub counted_later : (s : Span) (r : Row) (later : List Row) → is_counted s later ≡ true → is_counted s (r ∷ later) ≡ true
counted_later s r later e = or_right (encloses s r) (is_counted s later) e

counted_probe : (q : Probe) (at s : Span) (later : List Row) → is_counted s (row (row_of_probe q) at later) ≡ is_counted s later
counted_probe (probe.Decision r base) at s later = refl
counted_probe (probe.Condition r t f) at s later = refl
counted_probe (probe.Switch r) at s later = refl

pub counted_openings : (qs : List Probe) (at s : Span) (later : List Row) → is_counted s (openings qs at later) ≡ is_counted s later
counted_openings [] at s later = refl
counted_openings (q ∷ qs) at s later = counted_probe q at s (openings qs at later) ∙ counted_openings qs at s later

pub counted_endings : (n : ℕ) (at s : Span) (later : List Row) → is_counted s (endings n at later) ≡ is_counted s later
counted_endings zero at s later = refl
counted_endings (suc n) at s later = counted_endings n at s (row what.OperandEnd at later)

pub counted_other : (r : Row) (s : Span) (later : List Row) → is_enclosing r.what ≡ false → is_counted s (r ∷ later) ≡ is_counted s later
counted_other r s later e = ap (λ b. b && is_same r.span s || is_counted s later) e

-- ---- no rows elsewhere

-- No row of these stands round what stands at another place.
abbrev pub Within : List Span → List Row → Type 0
Within own mine = (s : Span) → IsOff s own → count_round s mine ≡ 0

pub within_opens : (qs : List Probe) (at : Span) (own : List Span) (mine : List Row) → Within own mine → Within (at ∷ own) (openings qs at mine)
within_opens qs at own mine h s off = openings_not qs at s mine (λ e. off.0 (sym e)) ∙ h s off.1

pub within_closes : (n : ℕ) (at : Span) (own : List Span) (mine : List Row) → Within own mine → Within own (endings n at mine)
within_closes n at own mine h s off = endings_not n at s mine ∙ h s off

-- a row that stands round nothing
pub within_other : (r : Row) (own : List Span) (mine : List Row) → is_round r.what ≡ false → Within own mine → Within own (r ∷ mine)
within_other r own mine e h s off = ap (λ b. if b && is_same r.span s then 1 + count_round s mine else count_round s mine) e ∙ h s off

-- ---- what is known

-- The places are all different; at each there are as many parentheses as rows stand round it, and
-- there are braces where a row encloses a statement.
pub record Right (w : Brackets) (own : List Span) (mine : List Row) : Type 0 where
  pub distinct : IsDistinct own
  pub parentheses : Each (λ s. w.parentheses s ≡ count_round s mine) own
  pub braces : (s : Span) → is_counted s mine ≡ true → w.braces s ≡ true

-- what it says of the first place, and of the others
pub record Split (w : Brackets) (at : Span) (n : ℕ) (own : List Span) (mine : List Row) : Type 0 where
  pub here : w.parentheses at ≡ n
  pub later : Right w own mine

pub right_opens : (w : Brackets) (qs : List Probe) (at : Span) (own : List Span) (mine : List Row) → Within own mine → Right w (at ∷ own) (openings qs at mine)
    → Split w at (length qs) own mine
right_opens w qs at own mine h k =
    record {
      here = k.parentheses.0 ∙ openings_there qs at mine ∙ ap (λ n. length qs + n) (h at k.distinct.0) ∙ none_more (length qs);
      later = record {
        distinct = k.distinct.1;
        parentheses = each_of own (λ s off e. e ∙ openings_not qs at s mine off) k.distinct.0 k.parentheses.1;
        braces = λ s e. k.braces s (counted_openings qs at s mine ∙ e);
      };
    }
  where
    none_more : (n : ℕ) → n + 0 ≡ n
    none_more n = omega arith

pub right_closes : (w : Brackets) (n : ℕ) (at : Span) (own : List Span) (mine : List Row) → Right w own (endings n at mine) → Right w own mine
right_closes w n at own mine k =
    record {
      distinct = k.distinct;
      parentheses = each_of own (λ s e f. e ∙ endings_not n at s mine) k.parentheses k.parentheses;
      braces = λ s e. k.braces s (counted_endings n at s mine ∙ e);
    }

pub right_other : (w : Brackets) (r : Row) (own : List Span) (mine : List Row) → is_round r.what ≡ false → Right w own (r ∷ mine) → Right w own mine
right_other w r own mine q k =
    record {
      distinct = k.distinct;
      parentheses =
          each_of own (λ s e f. e ∙ ap (λ b. if b && is_same r.span s then 1 + count_round s mine else count_round s mine) q) k.parentheses k.parentheses;
      braces = λ s e. k.braces s (counted_later s r mine e);
    }

-- There are braces where the first row encloses a statement.
pub right_braces : (w : Brackets) (b : ℕ) (at : Span) (own : List Span) (mine : List Row) → Right w own (row (what.Statement b) at mine) → w.braces at ≡ true
right_braces w b at own mine k = k.braces at (or_left (is_same at at) (is_counted at mine) (own_place at))

-- ---- how many, and where they end

-- at most three at each place
abbrev pub Few : List Row → Type 0
Few mine = (s : Span) → count_round s mine ≤ 3

-- where they stand, the place ends after byte 0
abbrev pub EndsLate : List Row → Type 0
EndsLate mine = (s : Span) → 0 < count_round s mine → 0 < s.end

-- and where they enclose a statement
abbrev pub BracesEndLate : List Row → Type 0
BracesEndLate mine = (s : Span) → is_counted s mine ≡ true → 0 < s.end

-- another place, or this one
data Other (at s : Span) : Type 0 where
  there : at ≡ s → Other at s
  elsewhere : (at ≡ s → ⊥) → Other at s

told : (at s : Span) (b : Bool) → is_same at s ≡ b → Other at s
told at s true e = there (same_place at s e)
told at s false e = elsewhere (λ q. false≢true (sym e ∙ ap (is_same at) (sym q) ∙ own_place at))

bytes_end : (start end : ℕ) → start < end → 0 < end
bytes_end start end h = omega (arith, h)

few_at : (n k l : ℕ) → k ≡ n + l → l ≡ 0 → n ≤ 3 → k ≤ 3
few_at n k l e f h = omega (arith, e, f, h)

same_few : (k l : ℕ) → k ≡ l → l ≤ 3 → k ≤ 3
same_few k l e h = omega (arith, e, h)

same_some : (k l : ℕ) → k ≡ l → 0 < k → 0 < l
same_some k l e h = omega (arith, e, h)

few_told : (qs : List Probe) (at s : Span) (own : List Span) (mine : List Row) → length qs ≤ 3 → Within own mine → IsOff at own → Few mine → Other at s → count_round s (openings qs at mine) ≤ 3
few_told qs at s own mine l within off few (there e) =
    subst (λ s. count_round s (openings qs at mine) ≤ 3) e
    (few_at (length qs) (count_round at (openings qs at mine)) (count_round at mine) (openings_there qs at mine) (within at off) l)
few_told qs at s own mine l within off few (elsewhere h) =
    same_few (count_round s (openings qs at mine)) (count_round s mine) (openings_not qs at s mine h) (few s)

pub few_opens : (qs : List Probe) (at : Span) (own : List Span) (mine : List Row) → length qs ≤ 3 → Within own mine → IsOff at own → Few mine → Few (openings qs at mine)
few_opens qs at own mine l within off few s = few_told qs at s own mine l within off few (told at s (is_same at s) refl)

pub few_closes : (n : ℕ) (at : Span) (mine : List Row) → Few mine → Few (endings n at mine)
few_closes n at mine few s = same_few (count_round s (endings n at mine)) (count_round s mine) (endings_not n at s mine) (few s)

other_not : (r : Row) (s : Span) (mine : List Row) → is_round r.what ≡ false → count_round s (r ∷ mine) ≡ count_round s mine
other_not r s mine e = ap (λ b. if b && is_same r.span s then 1 + count_round s mine else count_round s mine) e

pub few_other : (r : Row) (mine : List Row) → is_round r.what ≡ false → Few mine → Few (r ∷ mine)
few_other r mine e few s = same_few (count_round s (r ∷ mine)) (count_round s mine) (other_not r s mine e) (few s)

late_told : (qs : List Probe) (at s : Span) (mine : List Row) → HasBytes at → EndsLate mine → Other at s → 0 < count_round s (openings qs at mine) → 0 < s.end
late_told qs at s mine h late (there e) n = subst (λ s. 0 < s.end) e (bytes_end at.start at.end h)
late_told qs at s mine h late (elsewhere q) n = late s (same_some (count_round s (openings qs at mine)) (count_round s mine) (openings_not qs at s mine q) n)

pub late_opens : (qs : List Probe) (at : Span) (mine : List Row) → HasBytes at → EndsLate mine → EndsLate (openings qs at mine)
late_opens qs at mine h late s n = late_told qs at s mine h late (told at s (is_same at s) refl) n

pub late_closes : (n : ℕ) (at : Span) (mine : List Row) → EndsLate mine → EndsLate (endings n at mine)
late_closes n at mine late s k = late s (same_some (count_round s (endings n at mine)) (count_round s mine) (endings_not n at s mine) k)

pub late_other : (r : Row) (mine : List Row) → is_round r.what ≡ false → EndsLate mine → EndsLate (r ∷ mine)
late_other r mine e late s k = late s (same_some (count_round s (r ∷ mine)) (count_round s mine) (other_not r s mine e) k)

braces_told : (b : ℕ) (at s : Span) (mine : List Row) → HasBytes at → BracesEndLate mine → Other at s → is_counted s (row (what.Statement b) at mine) ≡ true → 0 < s.end
braces_told b at s mine h late (there e) n = subst (λ s. 0 < s.end) e (bytes_end at.start at.end h)
braces_told b at s mine h late (elsewhere q) n = late s (ap (λ b. b || is_counted s mine) (sym (other_place at s q)) ∙ n)

pub braces_late : (b : ℕ) (at : Span) (mine : List Row) → HasBytes at → BracesEndLate mine → BracesEndLate (row (what.Statement b) at mine)
braces_late b at mine h late s n = braces_told b at s mine h late (told at s (is_same at s) refl) n
