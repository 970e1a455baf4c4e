-- One turn after the other, from the last test to the first; and what each kept test is kept for.
use Rattle.std.proofs.Common.{◌≡◌, ◌∙◌, ◌+◌, ◌/◌, ◌%◌, ◌<◌, ◌≤◌, ℕ, suc, Bool, List, [], ◌∷◌, length, get_or, refl, arith, inl, inr}
use Rattle.std.specs.Prelude.{◌↔◌, Contains}
use Rattle.std.specs.Int.{bit_at}
use Rattle.std.proofs.lemmas.Bool.{cases_lt}
use Rattle.std.proofs.lemmas.List.{get_or_past}
use Rattle.mc_core.specs.Matrix.{MatrixView}
use Rattle.mc_steps.specs.Events.{Event}
use Rattle.mc_probe.specs.Maps.{Map}
use Rattle.report_options.specs.declared.mode.Mode.{Mode}
use Rattle.mc_oblige.specs.Shown.{HasEvent}
use Rattle.mc_reduce.specs.Kept.{AreEnough, IsStillKept, Leaves, AreKept, IsOther, IsFirstLost}
use Rattle.mc_reduce.specs.steps.Bits.{HasBit}
use Rattle.mc_reduce.specs.steps.Counts.{AreWordsAt, AreCounts}
use Rattle.mc_reduce.specs.steps.Loss.{IsCounted, IsLeft, AreShown, IsFirstMissed, NoneMissed, SomeMissed}
use Rattle.mc_reduce.proofs.Seeing.{see_too}
use Rattle.mc_reduce.proofs.Showing.{more_kept}
use Rattle.mc_reduce.proofs.Keeping.{at_place, still_stays, all_enough, kept_enough, kept_needed, kept_is_test}
use Rattle.mc_reduce.proofs.Turning.{listed_at, seen_on, on_seen, seen_left, left_seen, none_lost, some_lost}
use Rattle.mc_reduce.proofs.Tallies.{own_bit, counted_is, left_is, kept_distinct, kept_counted, other_is}

module _ (m : Map) (x : MatrixView) (mode : Mode) where
  -- events stand under tests of the matrix
  pub under_tests : (e : Event) (t : ℕ) → HasEvent m x e t → t < x.shape.tests
  under_tests e t h = h.held.1

  -- what holds when the first n tests are left
  pub record IsTurn (n : ℕ) (stayed counts : List ℕ) (shown : List Bool) : Type 0 where
    pub few : n ≤ x.shape.tests
    pub leads : (kept : List ℕ) → Leaves (HasEvent m x) m mode n stayed kept → AreKept (HasEvent m x) m mode x.shape.tests kept
    pub enough : AreEnough (HasEvent m x) m mode (IsStillKept n stayed)
    pub tallies : AreCounts x n stayed counts
    pub showing : AreShown m mode (IsCounted counts) shown
    pub within : (t : ℕ) → Contains stayed t → t < x.shape.tests

  pub first_turn : (counts : List ℕ) (shown : List Bool) → AreCounts x x.shape.tests [] counts → AreShown m mode (IsCounted counts) shown → IsTurn x.shape.tests [] counts shown
  first_turn counts shown are showing = record {
    few = omega arith;
    leads = λ kept leaves. leaves;
    enough = all_enough (HasEvent m x) m mode x.shape.tests under_tests;
    tallies = are;
    showing = showing;
    within = λ t h. absurd (let lt = h.1 in omega (arith, lt));
  }

  pub last_turn : (stayed counts : List ℕ) (shown : List Bool) → IsTurn 0 stayed counts shown → AreKept (HasEvent m x) m mode x.shape.tests stayed
  last_turn stayed counts shown h = h.leads stayed refl

  -- ---- one test

  module _ (n : ℕ) (stayed counts words : List ℕ) (shown : List Bool) (row : ℕ) (turn : IsTurn (suc n) stayed counts shown) (at : AreWordsAt x row words) (is : row ≡ n / 64) where
    abbrev on : ℕ → Type 0
    on = IsCounted counts

    abbrev left : ℕ → Type 0
    left = IsLeft n counts words

    on_is : (b : ℕ) → on b ↔ HasBit x (IsStillKept (suc n) stayed) b
    on_is = counted_is m x mode (suc n) stayed counts turn.tallies turn.few turn.within

    low : n < x.shape.tests
    low = let few = turn.few in omega (arith, few)

    left_has : (b : ℕ) → left b ↔ HasBit x (IsStillKept n stayed) b
    left_has = left_is m x mode n stayed counts words row turn.tallies at is low turn.within

    -- the test stays
    pub stays : SomeMissed m mode on left → IsTurn n (n ∷ stayed) counts shown
    stays missed = record {
      few = (let few = low in omega (arith, few));
      leads = λ kept leaves. turn.leads kept (inr (some_lost m x mode (IsStillKept (suc n) stayed) (IsStillKept n stayed) on left on_is left_has missed.0 missed.1, leaves));
      enough = λ o listed all. more_kept (HasEvent m x) m mode (IsStillKept (suc n) stayed) (IsStillKept n (n ∷ stayed)) (still_stays (HasEvent m x) m mode n stayed) o.id (turn.enough o listed all);
      tallies = record {
        count = turn.tallies.count;
        each = λ b lt. (let whole = turn.tallies.each b lt in omega (arith, whole));
      };
      showing = turn.showing;
      within = λ t h. elim (at_place n t stayed h.0 h.1 h.2) [ inl same ↦ (let few = low in omega (arith, few, same)) | inr own ↦ turn.within t own ];
    }

    -- it is dropped, and its bits are taken away from the counts
    module _ (new : List ℕ) (same : length new ≡ length counts) (less : (b : ℕ) → b < length counts → get_or new b 0 + bit_at (get_or words b 0) (n % 64) ≡ get_or counts b 0) where
      left_new : (b : ℕ) → left b → IsCounted new b
      left_new b h = elim (cases_lt b (length counts)) [
        | inl lt ↦ (let e = less b lt in omega (arith, e, h))
        | inr more ↦ (let none : get_or counts b 0 ≡ 0 = get_or_past counts b 0 more in absurd (omega (arith, none, h)))
      ]

      new_on : (b : ℕ) → IsCounted new b → on b
      new_on b h = elim (cases_lt b (length counts)) [
        | inl lt ↦ (let e = less b lt in omega (arith, e, h))
        | inr more ↦ (let none : get_or new b 0 ≡ 0 = get_or_past new b 0 (omega (arith, same, more)) in absurd (omega (arith, none, h)))
      ]

      enough_without : NoneMissed m mode on left → AreEnough (HasEvent m x) m mode (IsStillKept n stayed)
      enough_without none = none_lost m x mode (IsStillKept (suc n) stayed) (IsStillKept n stayed) on left on_is left_has none turn.enough

      pub drops : NoneMissed m mode on left → IsTurn n stayed new shown
      drops none = record {
        few = (let few = low in omega (arith, few));
        leads = λ kept leaves. turn.leads kept (inl (enough_without none, leaves));
        enough = enough_without none;
        tallies = record {
          count = same ∙ turn.tallies.count;
          each = λ b lt. (
              let whole = turn.tallies.each b lt in
              let e = less b (omega (arith, lt, turn.tallies.count)) in
              let own = own_bit x n row words at is b lt in
              omega (arith, whole, e, own)
              );
        };
        showing = record {
          count = turn.showing.count;
          each = λ q o there. (
            λ is_shown. see_too left (IsCounted new) left_new m mode o.id (none q o there ((turn.showing.each q o there).0 is_shown)),
            λ seen. (turn.showing.each q o there).1 (see_too (IsCounted new) on new_on m mode o.id seen),
          );
        };
        within = turn.within;
      }

  -- ---- what a kept test is kept for

  module _ (kept counts words : List ℕ) (test row : ℕ) (are : AreKept (HasEvent m x) m mode x.shape.tests kept) (tallies : AreCounts x 0 kept counts) (at : AreWordsAt x row words) (is : row ≡ test / 64) (has : Contains kept test) where
    abbrev counted : ℕ → Type 0
    counted = IsCounted counts

    abbrev others : ℕ → Type 0
    others = IsLeft test counts words

    counted_has : (b : ℕ) → counted b ↔ HasBit x (Contains kept) b
    counted_has = kept_counted m x mode kept counts words test row tallies at is (kept_distinct m x mode kept are) has (kept_is_test (HasEvent m x) m mode x.shape.tests kept are)

    others_have : (b : ℕ) → others b ↔ HasBit x (IsOther kept test) b
    others_have = other_is m x mode kept counts words test row tallies at is (kept_distinct m x mode kept are) has (kept_is_test (HasEvent m x) m mode x.shape.tests kept are)

    pub never_none : ¬ NoneMissed m mode counted others
    never_none none = kept_needed (HasEvent m x) m mode x.shape.tests kept are test has
        (none_lost m x mode (Contains kept) (IsOther kept test) counted others counted_has others_have none (kept_enough (HasEvent m x) m mode x.shape.tests kept under_tests are))

    pub lost_first : (position : ℕ) → IsFirstMissed m mode counted others position → IsFirstLost (HasEvent m x) m mode kept test position
    lost_first position h =
        let o = h.obligation in
        let listed = listed_at m position o h.at in
        record {
          obligation = o;
          at = h.at;
          lost = record {
            shown = on_seen m x mode (Contains kept) (IsOther kept test) counted others counted_has others_have o.id listed h.shown;
            missed = λ shown. h.missed (seen_left m x mode (Contains kept) (IsOther kept test) counted others counted_has others_have o.id shown);
          };
          none_before = λ q p less there lost.
              lost.missed (left_seen m x mode (Contains kept) (IsOther kept test) counted others counted_has others_have p.id (listed_at m q p there)
              (h.none_before q p less there (seen_on m x mode (Contains kept) (IsOther kept test) counted others counted_has others_have p.id lost.shown)));
        }
