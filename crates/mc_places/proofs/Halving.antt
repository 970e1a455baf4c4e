-- The starts of lines, byte after byte.
use Rattle.std.proofs.Common.{◌≡◌, ◌∙◌, ◌≤◌, ◌<◌, ◌+◌, ◌-◌, ℕ, zero, suc, Bool, true, false, not, cond, List, [], ◌∷◌, ◌++◌, length, take, get_or, refl, ap, arith, inl, inr, min}
use Rattle.std.specs.Prelude.{reverse, count_by, take_while, if◌then◌else◌}
use Rattle.std.proofs.lemmas.Bool.{cases_lt}
use Rattle.std.proofs.lemmas.List.{take_more, take_min, reverse-append, get_or_append_left, get_or_push, length_push, length-take}
use Rattle.std.proofs.lemmas.List.Sums.{count_by_more_no, count_by_more_yes, count_by-le-length, take_while-cons}
use Rattle.mc_lex.specs.Bytes.{is_line_end, goes_on}
use Rattle.mc_lex.specs.Lines.{line_before, line_of, column_of}
use Rattle.mc_places.specs.steps.Starts.{AreStarts, IsStartOf, with_start}

-- ---- one more byte

module _ (source : List ℕ) (n : ℕ) (inside : n < length source) where
  abbrev byte : ℕ
  byte = get_or source n 0

  bytes : reverse (take (n + 1) source) ≡ byte ∷ reverse (take n source)
  bytes = ap reverse (take_more source n 0 inside) ∙ reverse-append (take n source) (byte ∷ [])

  same_line : is_line_end byte ≡ false → line_of source (n + 1) ≡ line_of source n
  same_line goes = omega (arith, count_by_more_no is_line_end source n 0 inside goes)

  next_line : is_line_end byte ≡ true → line_of source (n + 1) ≡ line_of source n + 1
  next_line ends = omega (arith, count_by_more_yes is_line_end source n 0 inside ends)

  stands_before : line_before (take (n + 1) source) ≡ cond (goes_on byte) (byte ∷ line_before (take n source)) []
  stands_before = ap (take_while goes_on) bytes ∙ take_while-cons goes_on byte (reverse (take n source))

  next_column : is_line_end byte ≡ false → column_of source (n + 1) ≡ column_of source n + 1
  next_column goes =
      let front : line_before (take (n + 1) source) ≡ byte ∷ line_before (take n source) = stands_before ∙ ap (λ (b : Bool). cond (not b) (byte ∷ line_before (take n source)) []) goes in
      omega (arith, ap length front)

  first_column : is_line_end byte ≡ true → column_of source (n + 1) ≡ 1
  first_column ends =
      let front : line_before (take (n + 1) source) ≡ [] = stands_before ∙ ap (λ (b : Bool). cond (not b) (byte ∷ line_before (take n source)) []) ends in
      omega (arith, ap length front)

-- ---- the starts after one more byte

module _ (source : List ℕ) (n : ℕ) (starts : List ℕ) (inside : n < length source) (are : AreStarts source n starts) where
  -- goes start comes after the bytes so far
  none_after : (i at : ℕ) → n ≤ at → IsStartOf starts i at → i + 1 < length starts → ⊥
  none_after i at le start more = omega (arith, start.next more, are.within (i + 1) more, le)

  at_end : (i at : ℕ) → n ≤ at → IsStartOf starts i at → IsStartOf starts i n
  at_end i at le start = record {
    inside = start.inside;
    begun = are.within i start.inside;
    next = λ more. absurd (none_after i at le start more);
  }

  line_goes_on : is_line_end (get_or source n 0) ≡ false → (i at : ℕ) → at ≤ n + 1 → IsStartOf starts i at → line_of source at ≡ i + 1
  line_goes_on goes i at le start =
      elim (cases_lt at (n + 1)) as (λ _. line_of source at ≡ i + 1) [
        | inl lt ↦ are.line i at (omega (arith, lt)) start
        | inr ge ↦
            let is : at ≡ n + 1 = omega (arith, le, ge) in
            ap (line_of source) is ∙ same_line source n inside goes ∙ are.line i n (omega arith) (at_end i at (omega (arith, ge)) start)
      ]

  column_goes_on : is_line_end (get_or source n 0) ≡ false → (i at : ℕ) → at ≤ n + 1 → IsStartOf starts i at → column_of source at ≡ (at - get_or starts i 0) + 1
  column_goes_on goes i at le start =
      elim (cases_lt at (n + 1)) as (λ _. column_of source at ≡ (at - get_or starts i 0) + 1) [
        | inl lt ↦ are.column i at (omega (arith, lt)) start
        | inr ge ↦
            let is : at ≡ n + 1 = omega (arith, le, ge) in
            let old : column_of source n ≡ (n - get_or starts i 0) + 1 = are.column i n (omega arith) (at_end i at (omega (arith, ge)) start) in
            let here : column_of source at ≡ column_of source n + 1 = ap (column_of source) is ∙ next_column source n inside goes in
            omega (arith, here, old, is, are.within i start.inside)
      ]

  going_on : is_line_end (get_or source n 0) ≡ false → AreStarts source (n + 1) starts
  going_on goes = record {
    some = are.some;
    first = are.first;
    within = λ i less. omega (arith, are.within i less);
    line = line_goes_on goes;
    column = column_goes_on goes;
  }

  abbrev more : List ℕ
  more = starts ++ (n + 1) ∷ []

  count : length more ≡ length starts + 1
  count = length_push starts (n + 1)

  old_start : (i : ℕ) → i < length starts → get_or more i 0 ≡ get_or starts i 0
  old_start i less = get_or_append_left starts ((n + 1) ∷ []) 0 i less

  new_start : (i : ℕ) → length starts ≡ i → get_or more i 0 ≡ n + 1
  new_start i is = get_or_push starts (n + 1) 0 i is

  within_more : (i : ℕ) → i < length more → get_or more i 0 ≤ n + 1
  within_more i less =
      elim (cases_lt i (length starts)) as (λ _. get_or more i 0 ≤ n + 1) [
        | inl lt ↦ omega (arith, old_start i lt, are.within i lt)
        | inr ge ↦ omega (arith, new_start i (omega (arith, ge, less, count)))
      ]

  -- a place before the new line
  before : (i at : ℕ) → at ≤ n → IsStartOf more i at → IsStartOf starts i at
  before i at le start =
      elim (cases_lt i (length starts)) as (λ _. IsStartOf starts i at) [
        | inl lt ↦ record {
          inside = lt;
          begun = omega (arith, start.begun, old_start i lt);
          next = λ less. omega (arith, start.next (omega (arith, less, count)), old_start (i + 1) less);
        }
        | inr ge ↦ absurd (omega (arith, le, start.begun, new_start i (omega (arith, ge, start.inside, count))))
      ]

  -- right after the bytes the new line begins
  is_new : (i at : ℕ) → at ≡ n + 1 → IsStartOf more i at → length starts ≡ i
  is_new i at is start =
      elim (cases_lt i (length starts)) as (λ _. length starts ≡ i) [
        | inl lt ↦ absurd (omega (arith, is, start.next (omega (arith, lt, count)), within_more (i + 1) (omega (arith, lt, count))))
        | inr ge ↦ omega (arith, ge, start.inside, count)
      ]

  last : IsStartOf starts (length starts - 1) n
  last =
      let inside : length starts - 1 < length starts = omega (arith, are.some) in
      record {
        inside = inside;
        begun = are.within (length starts - 1) inside;
        next = λ less. absurd (omega (arith, less, are.some));
      }

  line_ends : is_line_end (get_or source n 0) ≡ true → (i at : ℕ) → at ≤ n + 1 → IsStartOf more i at → line_of source at ≡ i + 1
  line_ends ends i at le start =
      elim (cases_lt at (n + 1)) as (λ _. line_of source at ≡ i + 1) [
        | inl lt ↦ are.line i at (omega (arith, lt)) (before i at (omega (arith, lt)) start)
        | inr ge ↦
            let is : at ≡ n + 1 = omega (arith, le, ge) in
            let here : line_of source at ≡ line_of source n + 1 = ap (line_of source) is ∙ next_line source n inside ends in
            omega (arith, here, are.line (length starts - 1) n (omega arith) last, are.some, is_new i at is start)
      ]

  column_ends : is_line_end (get_or source n 0) ≡ true → (i at : ℕ) → at ≤ n + 1 → IsStartOf more i at → column_of source at ≡ (at - get_or more i 0) + 1
  column_ends ends i at le start =
      elim (cases_lt at (n + 1)) as (λ _. column_of source at ≡ (at - get_or more i 0) + 1) [
        | inl lt ↦
            let old = before i at (omega (arith, lt)) start in
            omega (arith, are.column i at (omega (arith, lt)) old, old_start i old.inside)
        | inr ge ↦
            let is : at ≡ n + 1 = omega (arith, le, ge) in
            let here : column_of source at ≡ 1 = ap (column_of source) is ∙ first_column source n inside ends in
            omega (arith, here, is, new_start i (is_new i at is start))
      ]

  ended : is_line_end (get_or source n 0) ≡ true → AreStarts source (n + 1) more
  ended ends = record {
    some = omega (arith, count);
    first = old_start 0 (omega (arith, are.some)) ∙ are.first;
    within = within_more;
    line = line_ends ends;
    column = column_ends ends;
  }

  by_end : (b : Bool) → is_line_end (get_or source n 0) ≡ b → AreStarts source (n + 1) (if b then more else starts)
  by_end true is = ended is
  by_end false is = going_on is

  pub one_more : AreStarts source (n + 1) (with_start (get_or source n 0) n starts)
  one_more = by_end (is_line_end (get_or source n 0)) refl

-- ---- before the first byte

first_within : (i : ℕ) → i < 1 → get_or (0 ∷ []) i 0 ≤ 0
first_within zero less = omega arith
first_within (suc i) less = absurd (omega (arith, less))

line_zero : (source : List ℕ) → line_of source 0 ≡ 1
line_zero [] = refl
line_zero (b ∷ bs) = refl

column_zero : (source : List ℕ) → column_of source 0 ≡ 1
column_zero [] = refl
column_zero (b ∷ bs) = refl

first_line : (source : List ℕ) (i at : ℕ) → at ≤ 0 → IsStartOf (0 ∷ []) i at → line_of source at ≡ i + 1
first_line source i at le start =
    let none : at ≡ 0 = omega (arith, le) in
    let only : i ≡ 0 = omega (arith, start.inside) in
    omega (arith, ap (line_of source) none, line_zero source, only)

first_place : (source : List ℕ) (i at : ℕ) → at ≤ 0 → IsStartOf (0 ∷ []) i at → column_of source at ≡ (at - get_or (0 ∷ []) i 0) + 1
first_place source i at le start =
    let none : at ≡ 0 = omega (arith, le) in
    omega (arith, ap (column_of source) none, column_zero source, none)

pub at_first : (source : List ℕ) → AreStarts source 0 (0 ∷ [])
at_first source = record {
  some = omega arith;
  first = refl;
  within = first_within;
  line = first_line source;
  column = first_place source;
}

-- ---- the place of an offset

-- a place after the source's end is its end
pub line_within : (source : List ℕ) (at : ℕ) → line_of source (min at (length source)) ≡ line_of source at
line_within source at = ap (λ (xs : List ℕ). 1 + count_by is_line_end xs) (take_min at source)

pub column_within : (source : List ℕ) (at : ℕ) → column_of source (min at (length source)) ≡ column_of source at
column_within source at = ap (λ (xs : List ℕ). 1 + length (line_before xs)) (take_min at source)

-- a source has not many lines
pub few_lines : (source : List ℕ) (at : ℕ) → line_of source at ≤ 1 + length source
few_lines source at =
    let counted = count_by-le-length is_line_end (take at source) in
    omega (arith, counted, length-take at source)
