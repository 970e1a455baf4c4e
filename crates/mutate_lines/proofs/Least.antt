-- The killers of mutants, one after the other.
use Rattle.std.proofs.Common.{◌≡◌, ◌+◌, ◌*◌, ◌<◌, ◌≤◌, ℕ, List, [], ◌∷◌, ◌++◌, length, Option, Some, None, refl, ap, subst, inl, inr, arith}
use Rattle.std.proofs.lemmas.Bool.{cases_lt}
use Rattle.std.proofs.Math.Nat.{mul-le-mul_left}
use Rattle.mutate_lines.specs.Killers.{AreKillers, IsKiller}

module _ (kills : ℕ → ℕ → Type 0) (tests : ℕ) where
  -- one more mutant
  pub one_more : (from at : ℕ) (ks : List (Option ℕ)) (k : Option ℕ) → at ≡ from + length ks → AreKillers kills tests from ks → IsKiller (kills at) tests k
      → AreKillers kills tests from (ks ++ k ∷ [])
  one_more from at [] k is so_far next =
      let same : at ≡ from = omega (arith, is) in (subst (λ n. IsKiller (kills n) tests k) same next, tt)
  one_more from at (x ∷ ks) k is so_far next =
      let same : at ≡ from + 1 + length ks = omega (arith, is) in (so_far.0, one_more (from + 1) at ks k same so_far.1 next)

-- the items of a mutant stand within those of all
pub items_within : (mutant mutants tests : ℕ) → mutant < mutants → mutant * tests + tests ≤ mutants * tests
items_within mutant mutants tests less =
    let more : tests * (mutant + 1) ≤ tests * mutants = mul-le-mul_left tests (omega (arith, less)) in omega (arith, more)

-- ---- there is one least test

module _ (kills : ℕ → Type 0) (tests : ℕ) where
  one_least : (t u : ℕ) → IsKiller kills tests (Some t) → IsKiller kills tests (Some u) → t ≡ u
  one_least t u p q = elim (cases_lt t u) [
    | inl less ↦ absurd (q.1.1 t less p.1.0)
    | inr not ↦ elim (cases_lt u t) [
      | inl more ↦ absurd (p.1.1 u more q.1.0)
      | inr same ↦ omega (arith, not, same)
    ]
  ]

  one_killer : (k l : Option ℕ) → IsKiller kills tests k → IsKiller kills tests l → k ≡ l
  one_killer None None p q = refl
  one_killer None (Some u) p q = absurd (p u q.0 q.1.0)
  one_killer (Some t) None p q = absurd (q t p.0 p.1.0)
  one_killer (Some t) (Some u) p q = ap Some (one_least t u p q)

-- and so one list of them for so many mutants
pub killers_are_one : (kills : ℕ → ℕ → Type 0) (tests from : ℕ) (ks ls : List (Option ℕ)) → length ks ≡ length ls → AreKillers kills tests from ks → AreKillers kills tests from ls → ks ≡ ls
killers_are_one kills tests from [] [] many p q = refl
killers_are_one kills tests from [] (l ∷ ls) many p q = absurd (omega (arith, many))
killers_are_one kills tests from (k ∷ ks) [] many p q = absurd (omega (arith, many))
killers_are_one kills tests from (k ∷ ks) (l ∷ ls) many p q =
    let same : k ≡ l = one_killer (kills from) tests k l p.0 q.0 in
    let rest : ks ≡ ls = killers_are_one kills tests (from + 1) ks ls (omega (arith, many)) p.1 q.1 in
    λ i. same i ∷ rest i
