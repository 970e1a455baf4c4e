-- The counts say which bits the counted tests have.
use Rattle.std.proofs.Common.{◌≡◌, ◌∙◌, ◌+◌, ◌*◌, ◌/◌, ◌%◌, ◌<◌, ◌≤◌, ℕ, zero, suc, List, [], ◌∷◌, length, get_or, sym, ap, subst, arith, inl, inr}
use Rattle.std.specs.Prelude.{◌↔◌, Contains}
use Rattle.std.specs.Int.{bit_at}
use Rattle.std.proofs.lemmas.Bool.{cases_lt}
use Rattle.std.proofs.lemmas.List.{get_or_past}
use Rattle.mc_core.specs.Shape.{rows}
use Rattle.mc_core.specs.Matrix.{MatrixView, bit_of}
use Rattle.mc_probe.specs.Maps.{Map}
use Rattle.report_options.specs.declared.mode.Mode.{Mode}
use Rattle.mc_oblige.specs.Shown.{HasEvent}
use Rattle.mc_reduce.specs.Kept.{IsStillKept, IsOther, Leaves, AreKept}
use Rattle.mc_reduce.specs.steps.Bits.{HasBit}
use Rattle.mc_reduce.specs.steps.Counts.{AreWordsAt, count_below, count_among, AreCounts, HasCounts}
use Rattle.mc_reduce.specs.steps.Loss.{IsCounted, IsLeft}
use Rattle.mc_reduce.proofs.Counting.{Distinct, some_below, below_some, some_among, among_some, no_more, other_among, among_other}
use Rattle.mc_reduce.proofs.Keeping.{at_place}

-- the word of a bit tells whether the test has it
pub own_bit : (x : MatrixView) (test row : ℕ) (words : List ℕ) → AreWordsAt x row words → row ≡ test / 64 → (b : ℕ) → b < x.shape.bits → bit_at (get_or words b 0) (test % 64) ≡ bit_of x.shape x.words b test
own_bit x test row words are e b lt =
    ap (λ (w : ℕ). bit_at w (test % 64)) (are.each b lt)
    ∙ ap (λ (r : ℕ). bit_at (get_or x.words (b * rows x.shape + r) 0) (test % 64)) e

-- a bit that is counted is one of the matrix
inside : (counts : List ℕ) (bits b : ℕ) → length counts ≡ bits → 0 < get_or counts b 0 → b < bits
inside counts bits b whole some = elim (cases_lt b bits) [
  | inl less ↦ less
  | inr more ↦ (let none : get_or counts b 0 ≡ 0 = get_or_past counts b 0 (omega (arith, whole, more)) in absurd (omega (arith, none, some)))
]

module _ (m : Map) (x : MatrixView) (mode : Mode) where
  abbrev Still : ℕ → List ℕ → ℕ → Type 0
  Still n stayed = IsStillKept n stayed

  -- a number that is the count of the first n tests and of those that stayed
  tallied : (n : ℕ) (stayed : List ℕ) (b : ℕ) → n ≤ x.shape.tests → ((t : ℕ) → Contains stayed t → t < x.shape.tests) → b < x.shape.bits → 0 < count_below x b n + count_among x b stayed → HasBit x (Still n stayed) b
  tallied n stayed b few within lt some = elim (cases_lt 0 (count_below x b n)) [
    | inl below ↦
        (let h = some_below x b n below in
        let less = h.1 in
        record { test = h.0; is_kept = inl less; held = (lt, omega (arith, less, few), h.2) })
    | inr none ↦
        (let h = some_among x b stayed (omega (arith, some, none)) in
        record { test = h.0; is_kept = inr h.1; held = (lt, within h.0 h.1, h.2) })
  ]

  has_tally : (n : ℕ) (stayed : List ℕ) (b : ℕ) → HasBit x (Still n stayed) b → 0 < count_below x b n + count_among x b stayed
  has_tally n stayed b h = elim h.is_kept [
    | inl below ↦ (let some = below_some x b n h.test below h.held.2 in omega (arith, some))
    | inr own ↦ (let some = among_some x b stayed h.test own h.held.2 in omega (arith, some))
  ]

  pub counted_is : (n : ℕ) (stayed counts : List ℕ) → AreCounts x n stayed counts → n ≤ x.shape.tests → ((t : ℕ) → Contains stayed t → t < x.shape.tests) → (b : ℕ) → IsCounted counts b ↔ HasBit x (Still n stayed) b
  counted_is n stayed counts are few within b = (
    λ some.
        (let lt = inside counts x.shape.bits b are.count some in
        let whole = are.each b lt in
        tallied n stayed b few within lt (omega (arith, some, whole))),
    λ h.
        (let whole = are.each b h.held.0 in
        let some = has_tally n stayed b h in
        omega (arith, some, whole)),
  )

  -- ---- without the last of the first tests

  module _ (n : ℕ) (stayed counts words : List ℕ) (row : ℕ) (are : AreCounts x (suc n) stayed counts) (at : AreWordsAt x row words) (is : row ≡ n / 64) where
    pub counts_fit : HasCounts n counts words
    counts_fit = record {
      same = are.count ∙ sym at.count;
      each = λ b lt. (
          let within : b < x.shape.bits = omega (arith, lt, are.count) in
          let own = own_bit x n row words at is b within in
          let whole = are.each b within in
          omega (arith, own, whole)
          );
    }

    pub left_is : n < x.shape.tests → ((t : ℕ) → Contains stayed t → t < x.shape.tests) → (b : ℕ) → IsLeft n counts words b ↔ HasBit x (Still n stayed) b
    left_is few within b = (
      λ some.
          (let lt = inside counts x.shape.bits b are.count (omega (arith, some)) in
          let own = own_bit x n row words at is b lt in
          let whole = are.each b lt in
          tallied n stayed b (omega (arith, few)) within lt (omega (arith, some, own, whole))),
      λ h.
          (let own = own_bit x n row words at is b h.held.0 in
          let whole = are.each b h.held.0 in
          let some = has_tally n stayed b h in
          omega (arith, some, own, whole)),
    )

  -- ---- without one of those that are kept

  distinct : (n : ℕ) (stayed kept : List ℕ) → Leaves (HasEvent m x) m mode n stayed kept → Distinct stayed → ((t : ℕ) → Contains stayed t → n ≤ t) → Distinct kept
  distinct zero stayed kept same so low = subst (λ (ts : List ℕ). Distinct ts) (sym same) so
  distinct (suc n) stayed kept leaves so low = elim leaves [
    | inl dropped ↦ distinct n stayed kept dropped.1 so (λ t h. (let le = low t h in omega (arith, le)))
    | inr stays ↦ distinct n (n ∷ stayed) kept stays.1 ((λ h. (let le = low n h in omega (arith, le))), so)
        (λ t h. elim (at_place n t stayed h.0 h.1 h.2) [ inl same ↦ omega (arith, same) | inr own ↦ (let le = low t own in omega (arith, le)) ])
  ]

  pub kept_distinct : (kept : List ℕ) → AreKept (HasEvent m x) m mode x.shape.tests kept → Distinct kept
  kept_distinct kept are = distinct x.shape.tests [] kept are tt (λ t h. absurd (let lt = h.1 in omega (arith, lt)))

  module _ (kept counts words : List ℕ) (test row : ℕ) (are : AreCounts x 0 kept counts) (at : AreWordsAt x row words) (is : row ≡ test / 64) (once : Distinct kept) (has : Contains kept test)
      (within : (t : ℕ) → Contains kept t → t < x.shape.tests) where
    among : (b : ℕ) → b < x.shape.bits → get_or counts b 0 ≡ count_among x b kept
    among b lt = let whole = are.each b lt in omega (arith, whole)

    pub kept_fit : HasCounts test counts words
    kept_fit = record {
      same = are.count ∙ sym at.count;
      each = λ b lt. (
          let inside_is : b < x.shape.bits = omega (arith, lt, are.count) in
          let own = own_bit x test row words at is b inside_is in
          let whole = among b inside_is in
          let le = no_more x b kept test has in
          omega (arith, own, whole, le)
          );
    }

    pub kept_counted : (b : ℕ) → IsCounted counts b ↔ HasBit x (Contains kept) b
    kept_counted b = (
      λ some.
          (let lt = inside counts x.shape.bits b are.count some in
          let whole = among b lt in
          let h = some_among x b kept (omega (arith, some, whole)) in
          record { test = h.0; is_kept = h.1; held = (lt, within h.0 h.1, h.2) }),
      λ h.
          (let whole = among b h.held.0 in
          let some = among_some x b kept h.test h.is_kept h.held.2 in
          omega (arith, some, whole)),
    )

    pub other_is : (b : ℕ) → IsLeft test counts words b ↔ HasBit x (IsOther kept test) b
    other_is b = (
      λ some.
          (let lt = inside counts x.shape.bits b are.count (omega (arith, some)) in
          let own = own_bit x test row words at is b lt in
          let whole = among b lt in
          let h = other_among x b kept test once has (omega (arith, some, own, whole)) in
          record { test = h.0; is_kept = h.1; held = (lt, within h.0 h.1.0, h.2) }),
      λ h.
          (let own = own_bit x test row words at is b h.held.0 in
          let whole = among b h.held.0 in
          let some = among_other x b kept test h.test has h.is_kept.0 h.is_kept.1 h.held.2 in
          omega (arith, some, own, whole)),
    )
