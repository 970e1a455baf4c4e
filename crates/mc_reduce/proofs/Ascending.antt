-- The kept tests ascend.
use Rattle.std.proofs.Common.{◌≡◌, ◌+◌, ◌<◌, ◌≤◌, ℕ, zero, suc, List, [], ◌∷◌, get_or, refl, sym, subst, arith, inl, inr}
use Rattle.std.specs.Prelude.{Contains}
use Rattle.std.specs.List.Sorted.{IsStrictlyIncreasing}
use Rattle.mc_steps.specs.Events.{Event}
use Rattle.mc_probe.specs.Maps.{Map}
use Rattle.report_options.specs.declared.mode.Mode.{Mode}
use Rattle.mc_reduce.specs.Kept.{Leaves, AreKept}
use Rattle.mc_reduce.proofs.Keeping.{at_place, kept_is_test}

at_next : (n : ℕ) (xs : List ℕ) (k : ℕ) → get_or xs k 0 < get_or xs (k + 1) 0 → get_or (n ∷ xs) (suc k) 0 < get_or (n ∷ xs) (suc k + 1) 0
at_next n xs k h =
    let same : suc k + 1 ≡ suc (k + 1) = omega arith in
    subst (λ (i : ℕ). get_or xs k 0 < get_or (n ∷ xs) i 0) (sym same) h

-- one more in front of those that it is below
rises : (n : ℕ) (stayed : List ℕ) → IsStrictlyIncreasing stayed → ((t : ℕ) → Contains stayed t → n < t) → IsStrictlyIncreasing (n ∷ stayed)
rises n [] up low k lt = absurd (omega (arith, lt))
rises n (s ∷ ss) up low zero lt = low s (0, omega arith, refl)
rises n (s ∷ ss) up low (suc k) lt = let next : get_or (s ∷ ss) k 0 < get_or (s ∷ ss) (k + 1) 0 = up k (omega (arith, lt)) in at_next n (s ∷ ss) k next

module _ (stands : Event → ℕ → Type 0) (m : Map) (mode : Mode) where
  ascending : (n : ℕ) (stayed kept : List ℕ) → Leaves stands m mode n stayed kept → IsStrictlyIncreasing stayed → ((t : ℕ) → Contains stayed t → n ≤ t) → IsStrictlyIncreasing kept
  ascending zero stayed kept same up low = subst (λ (ts : List ℕ). IsStrictlyIncreasing ts) (sym same) up
  ascending (suc n) stayed kept leaves up low = elim leaves [
    | inl dropped ↦ ascending n stayed kept dropped.1 up (λ t h. (let le = low t h in omega (arith, le)))
    | inr stays ↦ ascending n (n ∷ stayed) kept stays.1 (rises n stayed up (λ t h. (let le = low t h in omega (arith, le))))
        (λ t h. elim (at_place n t stayed h.0 h.1 h.2) [ inl same ↦ omega (arith, same) | inr own ↦ (let le = low t own in omega (arith, le)) ])
  ]

  pub kept_ascend : (tests : ℕ) (kept : List ℕ) → AreKept stands m mode tests kept → IsStrictlyIncreasing kept × ((t : ℕ) → Contains kept t → t < tests)
  kept_ascend tests kept are = (
    ascending tests [] kept are (λ k lt. absurd (omega arith)) (λ t h. absurd (let lt = h.1 in omega (arith, lt))),
    kept_is_test stands m mode tests kept are,
  )
