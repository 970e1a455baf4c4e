-- The first line of a text, and the lines after it.
use Rattle.std.proofs.Common.{◌≡◌, ◌∙◌, ◌+◌, ◌<◌, ◌≤◌, ℕ, suc, Bool, true, false, not, cond, List, [], ◌∷◌, length, take, drop, refl, sym, ap, arith}
use Rattle.std.specs.Prelude.{if◌then◌else◌, count_by}
use Rattle.std.specs.List.{prefix_len}
use Rattle.std.proofs.lemmas.List.Sums.{sum_by-cons}
use Rattle.mc_lex.specs.Bytes.{is_line_end, goes_on}
use Rattle.mc_places.specs.Lines.{with_byte, lines_of}

-- the lines after the first one, by what stands from its end on
abbrev pub lines_past : List ℕ → List (List ℕ)
lines_past [] = []
lines_past (b ∷ bs) = lines_of bs

by_end : (ends : Bool) (b n : ℕ) (bs : List ℕ) → lines_of bs ≡ take n bs ∷ lines_past (drop n bs)
    → (if ends then [] ∷ lines_of bs else with_byte b (lines_of bs)) ≡ take (cond (not ends) (1 + n) 0) (b ∷ bs) ∷ lines_past (drop (cond (not ends) (1 + n) 0) (b ∷ bs))
by_end true b n bs e = refl
by_end false b n bs e =
    let next : suc n ≡ 1 + n = omega arith in
    ap (with_byte b) e ∙ ap (λ (k : ℕ). take k (b ∷ bs) ∷ lines_past (drop k (b ∷ bs))) next

pub first_line : (bs : List ℕ) → lines_of bs ≡ take (prefix_len goes_on bs) bs ∷ lines_past (drop (prefix_len goes_on bs) bs)
first_line [] = refl
first_line (b ∷ bs) = by_end (is_line_end b) b (prefix_len goes_on bs) bs (first_line bs)

pub split : (bs line later : List ℕ) → line ≡ take (prefix_len goes_on bs) bs → later ≡ drop (prefix_len goes_on bs) bs → lines_of bs ≡ line ∷ lines_past later
split bs line later is after = rw (is, after) (first_line bs)

pub past_none : (later : List ℕ) → length later < 1 → lines_past later ≡ []
past_none [] few = refl
past_none (b ∷ bs) few = absurd (omega arith)

pub past_one : (later rest : List ℕ) → 1 ≤ length later → rest ≡ drop 1 later → lines_past later ≡ lines_of rest
past_one [] rest some is = absurd (omega arith)
past_one (b ∷ bs) rest some is = ap lines_of (sym is)

-- ---- how many lines there are

longer : (b : ℕ) (lines : List (List ℕ)) → 1 ≤ length lines → length (with_byte b lines) ≡ length lines
longer b [] some = absurd (omega arith)
longer b (line ∷ lines) some = refl

ends_first : (b : ℕ) (bs : List ℕ) → count_by is_line_end (b ∷ bs) ≡ cond (is_line_end b) 1 0 + count_by is_line_end bs
ends_first b bs = sum_by-cons (λ (x : ℕ). cond (is_line_end x) 1 0) b bs

count_first : (ends : Bool) (b : ℕ) (bs : List ℕ) (n : ℕ) → length (lines_of bs) ≡ 1 + n → length (if ends then [] ∷ lines_of bs else with_byte b (lines_of bs)) ≡ 1 + (cond ends 1 0 + n)
count_first true b bs n e = omega (arith, e)
count_first false b bs n e = longer b (lines_of bs) (omega (arith, e)) ∙ omega (arith, e)

-- one more than there are line ends
pub line_count : (bs : List ℕ) → length (lines_of bs) ≡ 1 + count_by is_line_end bs
line_count [] = refl
line_count (b ∷ bs) = count_first (is_line_end b) b bs (count_by is_line_end bs) (line_count bs) ∙ ap (λ (n : ℕ). 1 + n) (sym (ends_first b bs))
