-- From the words of a closed cover to its pairs.
use Rattle.std.proofs.Common.{◌≡◌, ◌≢◌, ℕ, ◌<◌, List, [], ◌∷◌, ◌++◌, sym, ap, ◌∙◌, subst, arith}
use Rattle.std.specs.Prelude.{min, Contains, ◌↔◌, ◌==◌}
use Rattle.std.proofs.lemmas.Bool.Decides.{nat_tests}
use native.Mathlib.Decide.{dec_lt}
use mathlib.Core.Logic.{dite}
use Rattle.mc_core.specs.declared.shape.Shape.{Shape}
use Rattle.mc_core.specs.Matrix.{HasNoSpareBit, Holds}
use Rattle.mc_core.specs.Counts.{marks, times}
use Rattle.mc_cover.specs.Closed.{left_of, HasHits, AreInRange}
use Rattle.mc_cover.proofs.Counts.{tally, contains_of_marks, marks_of_contains, contains_of_times, times_of_contains, times_push}

left_in : (skipped : List ℕ) (t x : ℕ) → times t skipped ≡ 0 → left_of skipped t x ≡ x
left_in skipped t x h = grind (arith, nat_tests)

left_out : (skipped : List ℕ) (t x : ℕ) → 0 < times t skipped → left_of skipped t x ≡ 0
left_out skipped t x h = grind (arith, nat_tests)

pub left_zero : (skipped : List ℕ) (t : ℕ) → left_of skipped t 0 ≡ 0
left_zero skipped t = dite (dec_lt 0 (times t skipped)) (λ out. left_out skipped t 0 out) (λ no. left_in skipped t 0 (omega arith))

hit_in_range : (k : Shape) (hits : List (ℕ × ℕ)) (b t : ℕ) → AreInRange k hits → Contains hits (b, t) → (b < k.bits) × (t < k.tests)
hit_in_range k hits b t all h = subst (λ (x : ℕ × ℕ). (x.0 < k.bits) × (x.1 < k.tests)) h.2 (all h.0 (b, t) h.1)

module _ (k : Shape) (hits : List (ℕ × ℕ)) (skipped words : List ℕ) (in_range : AreInRange k hits) (bits : HasHits k hits skipped words) where
  pub no_spare : HasNoSpareBit k words
  no_spare b t hb past ht =
      let no : marks b t hits ≡ 0 = dite (dec_lt 0 (marks b t hits)) (λ some. let r = hit_in_range k hits b t in_range (contains_of_marks b t hits some) in absurd (omega (arith, r.1))) (λ no. omega arith) in
      let none : min 1 (marks b t hits) ≡ 0 = omega arith in
      bits b t hb ht ∙ ap (λ x. left_of skipped t x) none ∙ left_zero skipped t

  pub pairs : (b t : ℕ) → Holds record { shape = k; words = words } b t ↔ (Contains hits (b, t) × ¬ Contains skipped t)
  pairs b t = (
    (λ h.
        let e = bits b t h.0 (let less = h.1 in omega arith) in
        let one : left_of skipped t (min 1 (marks b t hits)) ≡ 1 = sym e ∙ h.2 in
        dite (dec_lt 0 (times t skipped))
        (λ out. let o = left_out skipped t (min 1 (marks b t hits)) out in absurd (omega arith))
        (λ no. let i = left_in skipped t (min 1 (marks b t hits)) (omega arith) in (contains_of_marks b t hits (omega arith), λ c. let some = times_of_contains t skipped c in absurd (omega arith)))),
    (λ h.
        let r = hit_in_range k hits b t in_range h.0 in
        let less = r.1 in
        let some = marks_of_contains b t hits h.0 in
        let none : times t skipped ≡ 0 = dite (dec_lt 0 (times t skipped)) (λ out. absurd (h.1 (contains_of_times t skipped out))) (λ no. omega arith) in
        let i = left_in skipped t (min 1 (marks b t hits)) none in
        let e = bits b t r.0 (omega arith) in (r.0, r.1, omega arith)),
  )

-- one test more is left out
pub left_more : (skipped : List ℕ) (test t x : ℕ) → left_of (skipped ++ test ∷ []) t x ≡ left_of (test ∷ []) t (left_of skipped t x)
left_more skipped test t x =
    let p = times_push t skipped test in
    let q = times_push t [] test in
    dite (dec_lt 0 (times t skipped))
    (λ out. left_out (skipped ++ test ∷ []) t x (omega arith) ∙ sym (ap (λ y. left_of (test ∷ []) t y) (left_out skipped t x out) ∙ left_zero (test ∷ []) t))
    (λ no. let z : times t skipped ≡ 0 = omega arith in let i = left_in skipped t x z in
    dite (dec_lt 0 (times t (test ∷ [])))
    (λ out. left_out (skipped ++ test ∷ []) t x (omega arith) ∙ sym (left_out (test ∷ []) t (left_of skipped t x) out))
    (λ in'. left_in (skipped ++ test ∷ []) t x (omega arith) ∙ sym (left_in (test ∷ []) t (left_of skipped t x) (omega arith) ∙ i)))

-- the test is not the one that is left out
pub left_apart : (test t x : ℕ) → t ≢ test → left_of (test ∷ []) t x ≡ x
left_apart test t x ne =
    let p = times_push t [] test in
    let o : tally (test == t) ≡ 0 = grind (arith, nat_tests) in
    left_in (test ∷ []) t x (omega arith)
