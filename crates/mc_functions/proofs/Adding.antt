-- The counts of all functions, added.
use Rattle.std.proofs.Common.{◌≡◌, ◌∙◌, ◌+◌, ◌<◌, ◌≤◌, ℕ, zero, suc, Bool, true, false, nat_eq, List, [], ◌∷◌, length, refl, arith, inl, inr}
use Rattle.std.specs.Prelude.{if◌then◌else◌, ◌&&◌, ◌==◌}
use Rattle.std.proofs.lemmas.Bool.Decides.{nat_tests}
use Rattle.std.proofs.lemmas.Bool.{cases_lt}
use Rattle.mc_oblige.specs.declared.obligation.Obligation.{Obligation}
use Rattle.mc_oblige.specs.declared.verdict.Verdict.{Verdict}
use Rattle.mc_oblige.specs.declared.verdict.VerdictState.{VerdictState}
use Rattle.mc_functions.specs.declared.kind.Kind.{Kind}
use Rattle.mc_functions.specs.Kinds.{kind_of, same_kind}
use Rattle.mc_functions.specs.Counts.{counted, is_verdict, of_kind, of_verdict}
use Rattle.mc_functions.specs.Standing.{function_of}
use Rattle.mc_functions.specs.Measured.{Measured, is_counted, names_of, row_of}
use Rattle.mc_functions.specs.Sums.{sum_below}
use Rattle.mc_functions.proofs.Standing.{stands}
use Rattle.mc_functions.proofs.Rows.{belongs, of_row, one_if}

sum_same : (n : ℕ) (a b : ℕ → ℕ) → ((k : ℕ) → k < n → a k ≡ b k) → sum_below n a ≡ sum_below n b
sum_same zero a b each = refl
sum_same (suc n) a b each = omega (arith, sum_same n a b (λ k lt. each k (omega arith)), each n (omega arith))

sum_both : (n : ℕ) (a b : ℕ → ℕ) → sum_below n (λ k. a k + b k) ≡ sum_below n a + sum_below n b
sum_both zero a b = refl
sum_both (suc n) a b = omega (arith, sum_both n a b)

sum_zero : (n : ℕ) (a : ℕ → ℕ) → ((k : ℕ) → k < n → a k ≡ 0) → sum_below n a ≡ 0
sum_zero zero a each = refl
sum_zero (suc n) a each = omega (arith, sum_zero n a (λ k lt. each k (omega arith)), each n (omega arith))

abbrev only : ℕ → ℕ → ℕ → ℕ
only j x k = if j == k then x else 0

only_here : (j x k : ℕ) → j ≡ k → only j x k ≡ x
only_here j x k is = let test : nat_eq j k ≡ true = grind (arith, nat_tests) in rw test refl

only_there : (j x k : ℕ) → k < j → only j x k ≡ 0
only_there j x k lt = let test : nat_eq j k ≡ false = grind (arith, nat_tests) in rw test refl

only_above : (j x k : ℕ) → j < k → only j x k ≡ 0
only_above j x k lt = let test : nat_eq j k ≡ false = grind (arith, nat_tests) in rw test refl

-- a sum of one term
sum_one : (n j x : ℕ) → j < n → sum_below n (only j x) ≡ x
sum_one zero j x lt = absurd (omega arith)
sum_one (suc n) j x lt =
    elim (cases_lt j n) as (λ _. sum_below (suc n) (only j x) ≡ x) [
      | inl less ↦ omega (arith, sum_one n j x less, only_above j x n less)
      | inr ge ↦
          let is : j ≡ n = omega (arith, lt, ge) in
          omega (arith, only_here j x n is, sum_zero n (only j x) (λ k below. only_there j x k (omega (arith, below, is))))
    ]

apart : (c e s t : Bool) → one_if ((c && (e && s)) && t) ≡ (if e then one_if ((c && s) && t) else 0)
apart true true s t = refl
apart true false s t = refl
apart false true s t = refl
apart false false s t = refl

module _ (m : Measured) (kind : Kind) (asked : VerdictState) (some : 1 ≤ length (names_of m)) where
  abbrev functions : ℕ
  functions = length (names_of m)

  abbrev chosen : Obligation → Bool
  chosen o = is_counted m o && same_kind kind (kind_of o.id)

  one_of_all : (o : Obligation) (v : Verdict) → sum_below functions (λ k. one_if (belongs m k kind o && is_verdict asked v.state)) ≡ one_if (chosen o && is_verdict asked v.state)
  one_of_all o v =
      let function = function_of (names_of m) o.span.start in
      sum_same functions (λ (k : ℕ). one_if (belongs m k kind o && is_verdict asked v.state)) (only function (one_if (chosen o && is_verdict asked v.state)))
      (λ k lt. apart (is_counted m o) (function == k) (same_kind kind (kind_of o.id)) (is_verdict asked v.state))
      ∙ sum_one functions function (one_if (chosen o && is_verdict asked v.state)) (stands (names_of m) o.span.start some).there

  counted_all : (os : List Obligation) (vs : List Verdict) → sum_below functions (λ k. counted (belongs m k kind) asked os vs) ≡ counted chosen asked os vs
  counted_all [] vs = sum_zero functions (λ (k : ℕ). 0) (λ k lt. refl)
  counted_all (o ∷ os) [] = sum_zero functions (λ (k : ℕ). 0) (λ k lt. refl)
  counted_all (o ∷ os) (v ∷ vs) =
      let both = sum_both functions (λ (k : ℕ). one_if (belongs m k kind o && is_verdict asked v.state)) (λ (k : ℕ). counted (belongs m k kind) asked os vs) in
      omega (arith, both, one_of_all o v, counted_all os vs)

  pub added_up : sum_below functions (λ k. of_verdict asked (of_kind kind (row_of m k))) ≡ counted chosen asked m.obligations m.verdicts
  added_up =
      sum_same functions (λ (k : ℕ). of_verdict asked (of_kind kind (row_of m k))) (λ (k : ℕ). counted (belongs m k kind) asked m.obligations m.verdicts) (λ k lt. of_row m k kind asked)
      ∙ counted_all m.obligations m.verdicts
