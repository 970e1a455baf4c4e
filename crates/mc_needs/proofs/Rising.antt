-- Lists of paths in ascending order, one more at the end.
use Rattle.std.proofs.Common.{◌≡◌, ◌+◌, ◌<◌, ◌++◌, ℕ, Bool, true, false, List, [], ◌∷◌, length, get_or, refl, sym, subst, arith, inl, inr, ◌⊎◌}
use Rattle.std.specs.Prelude.{Contains, All, if◌then◌else◌}
use Rattle.std.specs.List.Sorted.{IsStrictlyIncreasing}
use Rattle.std.proofs.lemmas.Bool.{cases_lt}
use Rattle.std.proofs.lemmas.List.{get_or_append_left, get_or_push, length_push}
use Rattle.std.proofs.lemmas.List.Elements.{Contains-push, Contains-push_cases, Contains-append_left, All-push}
use Rattle.mc_needs.specs.steps.Among.{AreAmong}

pub next : (p n : ℕ) → p < n + 1 → (p < n) ⊎ (p ≡ n)
next p n h = elim (cases_lt p n) [ inl less ↦ inl less | inr more ↦ inr (omega (arith, h, more)) ]

rises : (xs : List ℕ) (y : ℕ) → IsStrictlyIncreasing xs → All (λ p. p < y) xs → IsStrictlyIncreasing (xs ++ y ∷ [])
rises xs y up below k lt =
    let len = length_push xs y in
    let left : get_or (xs ++ y ∷ []) k 0 ≡ get_or xs k 0 = get_or_append_left xs (y ∷ []) 0 k (omega arith) in
    elim (next (k + 1) (length xs) (omega arith)) [
      | inl less ↦ (let right : get_or (xs ++ y ∷ []) (k + 1) 0 ≡ get_or xs (k + 1) 0 = get_or_append_left xs (y ∷ []) 0 (k + 1) less in let u = up k less in omega (arith, left, right, u))
      | inr e ↦ (let right : get_or (xs ++ y ∷ []) (k + 1) 0 ≡ y = get_or_push xs y 0 (k + 1) (sym e) in let u = below k 0 (omega arith) in omega (arith, left, right, u))
    ]

module _ (on : ℕ → Type 0) where
  pub none_yet : AreAmong on 0 []
  none_yet = record {
    ascending = λ k lt. absurd (omega arith);
    below = λ k d lt. absurd (omega arith);
    each = λ p. (λ c. absurd (let lt = c.1 in omega (arith, lt)), λ h. absurd (let lt = h.0 in omega (arith, lt)));
  }

  module _ (n : ℕ) (seen : List ℕ) (h : AreAmong on n seen) where
    with_next : on n → AreAmong on (n + 1) (seen ++ n ∷ [])
    with_next own = record {
      ascending = rises seen n h.ascending h.below;
      below = (let low : All (λ p. p < n + 1) seen = λ k d lt. (let b = h.below k d lt in omega arith) in All-push (λ p. p < n + 1) seen n low (omega arith));
      each = λ p. (
        λ c. elim (Contains-push_cases seen n p c) [
          | inl old ↦ (let e = (h.each p).0 old in (let l = e.0 in omega arith, e.1))
          | inr same ↦ (omega arith, subst (λ (q : ℕ). on q) same own)
        ],
        λ e. elim (next p n e.0) [
          | inl less ↦ Contains-append_left seen (n ∷ []) p ((h.each p).1 (less, e.1))
          | inr same ↦ subst (λ (q : ℕ). Contains (seen ++ n ∷ []) q) (sym same) (Contains-push seen n)
        ],
      );
    }

    without : ¬ on n → AreAmong on (n + 1) seen
    without not = record {
      ascending = h.ascending;
      below = λ k d lt. (let b = h.below k d lt in omega arith);
      each = λ p. (
        λ c. (let e = (h.each p).0 c in (let l = e.0 in omega arith, e.1)),
        λ e. elim (next p n e.0) [
          | inl less ↦ (h.each p).1 (less, e.1)
          | inr same ↦ absurd (not (subst (λ (q : ℕ). on q) same e.1))
        ],
      );
    }

    pub paths_next : (t : Bool) → (t ≡ true → on n) → (t ≡ false → ¬ on n) → AreAmong on (n + 1) (if t then seen ++ n ∷ [] else seen)
    paths_next true is not = with_next (is refl)
    paths_next false is not = without (not refl)
