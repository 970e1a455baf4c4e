-- The tests of numbers in use, one number more, and that no other number has one.
use Rattle.std.proofs.Common.{◌≡◌, ℕ, ◌+◌, ◌++◌, Option, Some, None, List, [], ◌∷◌, get_or, sym, subst, ◌∙◌, refl, arith, inl, inr}
use Rattle.std.proofs.lemmas.Bool.{cases_lt}
use Rattle.std.proofs.lemmas.List.{get_or_append_left, get_or_push, length_push}
use Rattle.mc_cond.specs.Tree.{Tree}
use Rattle.mc_oblige.specs.steps.Table.{IsTestOf, AreTestsOf, AreInUse}
use Rattle.mc_oblige.proofs.Least.{at_within}

module _ (t : Tree) (bits : List (Option ℕ)) where
  pub no_tests : AreTestsOf t bits 0 []
  no_tests = record { count = refl; each = λ p lt. absurd (omega (arith, lt)) }

  pub one_test : (n : ℕ) (tests : List (Option ℕ)) (o : Option ℕ) → AreTestsOf t bits n tests → IsTestOf t n (get_or bits n None) o → AreTestsOf t bits (n + 1) (tests ++ o ∷ [])
  one_test n tests o h own = record {
    count = (let c = h.count in omega (arith, length_push tests o));
    each = λ p lt. elim (cases_lt p n) [
      | inl less ↦
          (let P : Option ℕ → Type 0 = λ q. IsTestOf t p (get_or bits p None) q in
          let c = h.count in
          subst P (sym (get_or_append_left tests (o ∷ []) None p (omega arith))) (h.each p less))
      | inr more ↦
          (let same : n ≡ p = omega arith in
          let P : Option ℕ → Type 0 = λ q. IsTestOf t p (get_or bits p None) q in
          let Q : ℕ → Type 0 = λ k. IsTestOf t k (get_or bits k None) o in
          let c = h.count in
          subst P (sym (get_or_push tests o None p (omega arith))) (subst Q same own))
    ];
  }

  pub tests_in_use : (n : ℕ) (tests : List (Option ℕ)) → AreTestsOf t bits n tests → AreInUse t tests
  tests_in_use n tests h p u at =
      let c = h.count in
      let lt = at_within tests p u at in
      elim (h.each p (omega (arith, lt, c))) [
        | inl used ↦ used.0
        | inr idle ↦ (let none : None ≡ Some u = sym idle.1 ∙ at in cc)
      ]
