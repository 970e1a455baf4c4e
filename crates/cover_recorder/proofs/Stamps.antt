-- What the stamps say after a hit.
use Rattle.std.proofs.Common.{◌≡◌, ◌∙◌, ℕ, zero, suc, ◌+◌, ◌<◌, List, [], ◌∷◌, ◌++◌, length, get_or, set, refl, sym, ap, subst, arith, inl, inr}
use Rattle.std.specs.Prelude.{◌↔◌, ◌⊎◌, nat_lt, slice_index, Contains}
use Rattle.std.proofs.lemmas.List.{get_or-set_same, get_or-set_other}
use Rattle.std.proofs.lemmas.List.Elements.{Contains-append_left, Contains-append_right, Contains-append_cases}
use Rattle.std.proofs.lemmas.Bool.{cond-true, cond-false, lt-ltb, le-ltb}
use mathlib.Core.Logic.{dite}
use native.Mathlib.Decide.{dec_lt, ℕ_discrete}
use Rattle.mc_core.specs.Counts.{marks, times}
use Rattle.mc_cover.specs.declared.view.View.{View}
use Rattle.mc_cover.specs.Model.{CoverView, PassView}
use Rattle.mc_cover.specs.Views as of
use Rattle.mc_cover.proofs.Counts.{marks_same, marks_append, contains_of_marks}
use Rattle.cover_recorder.specs.Recorder.{RecorderView, IsKept, AreStamps, Leads, bits_of, with_hit}

-- a hit and its stamp
pub stamped : (stamps : List ℕ) (hits : List (ℕ × ℕ)) (b t : ℕ) → AreStamps stamps hits → b < length stamps → AreStamps (set stamps b (t + 1)) (hits ++ (b, t) ∷ [])
stamped stamps hits b t are less c u e =
    let grown = marks_append c u hits ((b, t) ∷ []) in
    dite (ℕ_discrete c b)
    (λ same.
    let at : slice_index (set stamps b (t + 1)) c ≡ t + 1 = ap (λ (k : ℕ). get_or (set stamps b (t + 1)) k 0) same ∙ get_or-set_same stamps b (t + 1) 0 less in
    let test : t ≡ u = omega arith in
    let one = marks_same b t hits in
    subst (λ (k : ℕ). 0 < marks k u (hits ++ (b, t) ∷ [])) (sym same)
    (subst (λ (k : ℕ). 0 < marks b k (hits ++ (b, t) ∷ [])) test (omega arith)))
    (λ other.
    let old = are c u (sym (get_or-set_other stamps b c (t + 1) 0 other) ∙ e) in omega arith)

-- an element of a list of one
pub only : {X : Type 0} (x y : X) → Contains (x ∷ []) y → x ≡ y
only x y (zero, less, e) = e
only x y (suc k, less, e) = absurd (omega (arith, less))

-- a hit leads there
pub first_leads : (p : RecorderView) (b : ℕ) → Leads (b ∷ []) p (with_hit p b)
first_leads p b = record {
  cover = refl;
  test = refl;
  kept = refl;
  pairs = λ c t. (
    λ h. elim (Contains-append_cases p.view.hits ((b, p.test) ∷ []) (c, t) h) [
      | inl old ↦ inl old
      | inr new ↦ (
          let e = only (b, p.test) (c, t) new in
          inr ((0, omega arith, ap (λ (x : ℕ × ℕ). x.0) e), sym (ap (λ (x : ℕ × ℕ). x.1) e))
          )
    ],
    λ h. elim h [
      | inl old ↦ Contains-append_left p.view.hits ((b, p.test) ∷ []) (c, t) old
      | inr new ↦ Contains-append_right p.view.hits ((b, p.test) ∷ []) (c, t) (0, omega arith, λ i. (only b c new.0 i, sym new.1 i))
    ],
  );
}

-- a bit that has been hit under the item may be hit again
again_leads : (p : RecorderView) (b : ℕ) → 0 < marks b p.test p.view.hits → Leads (b ∷ []) p p
again_leads p b is = record {
  cover = refl;
  test = refl;
  kept = refl;
  pairs = λ c t. (
    λ h. inl h,
    λ h. elim h [
      | inl old ↦ old
      | inr new ↦ subst (λ (x : ℕ × ℕ). Contains p.view.hits x) (λ i. (only b c new.0 i, sym new.1 i)) (contains_of_marks b p.test p.view.hits is)
    ],
  );
}

can_hit : (r : RecorderView) (b : ℕ) → b < bits_of r → (0 < times r.test r.view.claims) × (b < r.cover.shape.bits)
can_hit r b h =
    let n : ℕ = times r.test r.view.claims in
    dite (dec_lt 0 n)
    (λ yes. (yes, subst (λ (k : ℕ). b < k) (cond-true (nat_lt 0 n) r.cover.shape.bits 0 (lt-ltb 0 n yes)) h))
    (λ no. let none : b < 0 = subst (λ (k : ℕ). b < k) (cond-false (nat_lt 0 n) r.cover.shape.bits 0 (le-ltb 0 n (omega arith))) h in absurd (omega arith))

-- where a bit can be recorded, the item has been claimed, and the bit is one of the cover
pub hits_now : (c : CoverView) (v : View) (t b : ℕ) (now : RecorderView) → record { cover = c; view = v; test = t } ≡ now → b < bits_of now
    → (0 < times t v.claims) × (b < c.shape.bits)
hits_now c v t b now is h = can_hit (record { cover = c; view = v; test = t }) b (subst (λ (x : RecorderView). b < bits_of x) (sym is) h)

-- a bit that is stamped with the item may be hit again
pub stamped_leads : (c : CoverView) (p : PassView) (stamps : List ℕ) (count t b : ℕ) (now : RecorderView) → IsKept c p stamps count t → record { cover = c; view = p.view; test = t } ≡ now
    → slice_index stamps b ≡ t + 1 → Leads (b ∷ []) now now
stamped_leads c p stamps count t b now is at e =
    let r : RecorderView = record { cover = c; view = p.view; test = t } in
    subst (λ (x : RecorderView). Leads (b ∷ []) x x) at (again_leads r b (is.stamped b t e))

-- ---- what a recorder keeps

pub kept_ended : (c : CoverView) (p q : PassView) (stamps : List ℕ) (count t : ℕ) → IsKept c p stamps count t → q.cover ≡ p.cover → q.view ≡ of.ended p.view → IsKept c q stamps count t
kept_ended c p q stamps count t is own e = record {
  own = (own ∙ is.own.0, ap (λ (v : View). v.shape) e ∙ is.own.1);
  stamped = subst (λ (v : View). AreStamps stamps v.hits) (sym e) is.stamped;
  whole = is.whole;
  few = is.few;
  inside = λ h. is.inside (subst (λ (v : View). 0 < times t v.claims) e h);
}

pub kept_claimed : (c : CoverView) (p q : PassView) (stamps : List ℕ) (count t u : ℕ) → IsKept c p stamps count t → q.cover ≡ p.cover → q.view ≡ of.with_claim p.view u
    → u < c.shape.tests → IsKept c q stamps count u
kept_claimed c p q stamps count t u is own e less = record {
  own = (own ∙ is.own.0, ap (λ (v : View). v.shape) e ∙ is.own.1);
  stamped = subst (λ (v : View). AreStamps stamps v.hits) (sym e) is.stamped;
  whole = is.whole;
  few = is.few;
  inside = λ h. less;
}

pub kept_hit : (c : CoverView) (p q : PassView) (stamps : List ℕ) (count t b : ℕ) → IsKept c p stamps count t → q.cover ≡ p.cover → q.view ≡ of.after_hit p.view b t
    → b < length stamps → IsKept c q (set stamps b (t + 1)) count t
kept_hit c p q stamps count t b is own e less = record {
  own = (own ∙ is.own.0, ap (λ (v : View). v.shape) e ∙ is.own.1);
  stamped = subst (λ (v : View). AreStamps (set stamps b (t + 1)) v.hits) (sym e) (stamped stamps p.view.hits b t is.stamped less);
  whole = is.whole;
  few = is.few;
  inside = λ h. is.inside (subst (λ (v : View). 0 < times t v.claims) e h);
}
