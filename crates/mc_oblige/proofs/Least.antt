-- Steps of the loops that find least tests and seen paths.
use mathlib.Core.Bool.{beq}
use Rattle.std.proofs.Common.{◌≡◌, Bool, true, false, ℕ, ◌+◌, ◌<◌, ◌++◌, min, Option, Some, None, List, [], ◌∷◌, length, get_or, sym, subst, ◌∙◌, refl, arith, inl, inr, ◌⊎◌}
use Rattle.std.specs.Prelude.{◌↔◌, Contains, All}
use Rattle.std.specs.List.Sorted.{IsStrictlyIncreasing}
use Rattle.std.proofs.lemmas.Bool.{cases_lt}
use Rattle.std.proofs.lemmas.List.{get_or_append_left, get_or_past, get_or_push, length_push}
use Rattle.std.proofs.lemmas.List.Elements.{Contains-push, Contains-push_cases, Contains-append_left, All-push}
use Rattle.mc_oblige.specs.steps.Table.{IsAt, IsLeastBelow, lesser_of, AreSeenBelow, seen_with}

next : (p n : ℕ) → p < n + 1 → (p < n) ⊎ (p ≡ n)
next p n h = elim (cases_lt p n) [ inl less ↦ inl less | inr more ↦ inr (omega (arith, h, more)) ]

pub beq_is : (x y : Bool) → beq x y ≡ true → x ≡ y
beq_is true true e = refl
beq_is true false e = cc
beq_is false true e = cc
beq_is false false e = refl

-- ---- the least number that is shown

module _ (shows : ℕ → ℕ → Type 0) where
  -- what the next path shows, if anything
  abbrev Exact : ℕ → Option ℕ → Type 0
  Exact n o = (t : ℕ) → (o ≡ Some t) ↔ shows n t

  module _ (n : ℕ) where
    abbrev at : (p t : ℕ) → p ≡ n → shows p t → shows n t
    at p t e h = let P : ℕ → Type 0 = λ q. shows q t in subst P e h

    pub one_more : (least own : Option ℕ) → IsLeastBelow shows n least → Exact n own → IsLeastBelow shows (n + 1) (lesser_of least own)
    one_more None None h exact = λ p t lt s. elim (next p n lt) [
      | inl less ↦ h p t less s
      | inr e ↦ (let f : None ≡ Some t = (exact t).1 (at p t e s) in cc)
    ]
    one_more None (Some y) h exact = (
      (n, omega arith, (exact y).0 refl),
      λ p u lt s. elim (next p n lt) [
        | inl less ↦ absurd (h p u less s)
        | inr e ↦ (let f : Some y ≡ Some u = (exact u).1 (at p u e s) in let g : y ≡ u = cc in omega arith)
      ],
    )
    one_more (Some x) None h exact = (
      (let b = h.0 in (b.0, (let l = b.1 in omega arith), b.2)),
      λ p u lt s. elim (next p n lt) [
        | inl less ↦ h.1 p u less s
        | inr e ↦ (let f : None ≡ Some u = (exact u).1 (at p u e s) in cc)
      ],
    )
    one_more (Some x) (Some y) h exact = (
      elim (cases_lt x y) [
        | inl less ↦ (let b = h.0 in let e : x ≡ min x y = omega arith in let P : ℕ → Type 0 = λ t. shows b.0 t in (b.0, (let l = b.1 in omega arith), subst P e b.2))
        | inr more ↦ (let e : y ≡ min x y = omega arith in let P : ℕ → Type 0 = λ t. shows n t in (n, omega arith, subst P e ((exact y).0 refl)))
      ],
      λ p u lt s. elim (next p n lt) [
        | inl less ↦ (let l = h.1 p u less s in omega arith)
        | inr e ↦ (let f : Some y ≡ Some u = (exact u).1 (at p u e s) in let g : y ≡ u = cc in omega arith)
      ],
    )

-- ---- seen paths

pub at_within : (tests : List (Option ℕ)) (p t : ℕ) → IsAt tests p t → p < length tests
at_within tests p t h = elim (cases_lt p (length tests)) [ inl less ↦ less | inr more ↦ (let e : None ≡ Some t = sym (get_or_past tests p None more) ∙ h in cc) ]

rises : (xs : List ℕ) (y : ℕ) → IsStrictlyIncreasing xs → All (λ p. p < y) xs → IsStrictlyIncreasing (xs ++ y ∷ [])
rises xs y up below k lt =
    let len = length_push xs y in
    let left : get_or (xs ++ y ∷ []) k 0 ≡ get_or xs k 0 = get_or_append_left xs (y ∷ []) 0 k (omega arith) in
    elim (next (k + 1) (length xs) (omega arith)) [
      | inl less ↦ (let right : get_or (xs ++ y ∷ []) (k + 1) 0 ≡ get_or xs (k + 1) 0 = get_or_append_left xs (y ∷ []) 0 (k + 1) less in let u = up k less in omega (arith, left, right, u))
      | inr e ↦ (let right : get_or (xs ++ y ∷ []) (k + 1) 0 ≡ y = get_or_push xs y 0 (k + 1) (sym e) in let u = below k 0 (omega arith) in omega (arith, left, right, u))
    ]

module _ (tests : List (Option ℕ)) (n : ℕ) (seen : List ℕ) (h : AreSeenBelow tests n seen) where
  abbrev Has : ℕ → Type 0
  Has p = (t : ℕ) × IsAt tests p t

  pub seen_more : (t : ℕ) → IsAt tests n t → AreSeenBelow tests (n + 1) (seen ++ n ∷ [])
  seen_more t own = record {
    ascending = rises seen n h.ascending h.below;
    below = (let low : All (λ p. p < n + 1) seen = λ k d lt. (let b = h.below k d lt in omega arith) in All-push (λ p. p < n + 1) seen n low (omega arith));
    each = λ p. (
      λ c. elim (Contains-push_cases seen n p c) [
        | inl old ↦ (let e = (h.each p).0 old in (let l = e.0 in omega arith, e.1))
        | inr same ↦ (omega arith, let P : ℕ → Type 0 = λ q. Has q in subst P same (t, own))
      ],
      λ e. elim (next p n e.0) [
        | inl less ↦ Contains-append_left seen (n ∷ []) p ((h.each p).1 (less, e.1))
        | inr same ↦ (let P : ℕ → Type 0 = λ q. Contains (seen ++ n ∷ []) q in subst P (sym same) (Contains-push seen n))
      ],
    );
  }

  pub seen_same : get_or tests n None ≡ None → AreSeenBelow tests (n + 1) seen
  seen_same none = record {
    ascending = h.ascending;
    below = λ k d lt. (let b = h.below k d lt in omega arith);
    each = λ p. (
      λ c. (let e = (h.each p).0 c in (let l = e.0 in omega arith, e.1)),
      λ e. elim (next p n e.0) [
        | inl less ↦ (h.each p).1 (less, e.1)
        | inr same ↦ (let own : Has n = (let P : ℕ → Type 0 = λ q. Has q in subst P same e.1) in let f : None ≡ Some own.0 = sym none ∙ own.1 in cc)
      ],
    );
  }

pub seen_next : (tests : List (Option ℕ)) (n : ℕ) (seen : List ℕ) (o : Option ℕ) → get_or tests n None ≡ o → AreSeenBelow tests n seen → AreSeenBelow tests (n + 1) (seen_with o n seen)
seen_next tests n seen None e h = seen_same tests n seen h e
seen_next tests n seen (Some t) e h = seen_more tests n seen h t e
