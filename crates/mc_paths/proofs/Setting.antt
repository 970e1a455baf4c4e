-- The bits of a mask, set one by one.
use Rattle.std.proofs.Common.{◌≡◌, ℕ, ◌+◌, ◌<◌, ◌*◌, ◌%◌, ◌^◌, Bool, true, false, Option, Some, refl, sym, ap, subst, ◌∙◌, arith, inl, inr, ◌⊎◌}
use Rattle.std.specs.Prelude.{◌↔◌, IsTrue, bit_or, max, slice_get}
use Rattle.std.specs.Int.{bit_at}
use Rattle.std.proofs.lemmas.Nat.{one_shl}
use Rattle.std.proofs.lemmas.Nat.Bits.{bit_at_or, bit_at-zero, bit_at-lt, bit_at-pow_same, bit_at-pow_other}
use native.Mathlib.Decide.{ℕ_discrete}
use mathlib.Core.Logic.{dite}
use Rattle.mc_cond.specs.Vectors.{Evaluation}
use Rattle.mc_paths.specs.Masks.{IsMaskOf, IsEvaluated}

-- bit k set, and the others as they were
pub bit_more : (word k : ℕ) → k < 64 → (j : ℕ) → (bit_at (bit_or word (1 * 2 ^ k % 2 ^ 64)) j ≡ 1) ↔ ((bit_at word j ≡ 1) ⊎ (IsTrue true × (j ≡ k)))
bit_more word k few j =
    let P : ℕ → ℕ = λ n. bit_at (bit_or word n) j in
    let both : bit_at (bit_or word (1 * 2 ^ k % 2 ^ 64)) j ≡ max (bit_at word j) (bit_at (2 ^ k) j) = ap P (one_shl k 64 few) ∙ bit_at_or word (2 ^ k) j in
    let small = bit_at-lt word j in
    dite (ℕ_discrete j k)
    (λ same. let R : ℕ → Type 0 = λ i. bit_at (2 ^ k) i ≡ 1 in
    let one : bit_at (2 ^ k) j ≡ 1 = subst R (sym same) (bit_at-pow_same k) in
    (λ h. inr (refl, same), λ h. omega (arith, both, one, small)))
    (λ other. let none : bit_at (2 ^ k) j ≡ 0 = bit_at-pow_other k j other in (
      λ h. inl (omega (arith, both, none, small, h)),
      λ h. elim h [ inl set ↦ omega (arith, both, none, small, set) | inr same ↦ absurd (other same.1) ],
    ))

pub bit_still : (word k j : ℕ) → (bit_at word j ≡ 1) ↔ ((bit_at word j ≡ 1) ⊎ (IsTrue false × (j ≡ k)))
bit_still word k j = (λ h. inl h, λ h. elim h [ inl set ↦ set | inr none ↦ cc ])

-- the bits below n are those of which P holds, and the others are clear
abbrev pub AreSetBelow : (ℕ → Type 0) → ℕ → ℕ → Type 0
AreSetBelow P word n = (j : ℕ) → (bit_at word j ≡ 1) ↔ ((j < n) × P j)

pub none_set : (P : ℕ → Type 0) → AreSetBelow P 0 0
none_set P j = (λ h. absurd (omega (arith, h, bit_at-zero j)), λ h. absurd (omega (arith, h.0)))

pub one_more : (P : ℕ → Type 0) (word more n : ℕ) (set : Bool) → (IsTrue set ↔ P n) → ((j : ℕ) → (bit_at more j ≡ 1) ↔ ((bit_at word j ≡ 1) ⊎ (IsTrue set × (j ≡ n)))) → AreSetBelow P word n → AreSetBelow P more (n + 1)
one_more P word more n set here step old j = (
  λ h. elim ((step j).0 h) [
    | inl before ↦ (let p = (old j).0 before in (omega (arith, p.0), p.1))
    | inr now ↦ (omega (arith, now.1), subst P (sym now.1) (here.0 now.0))
  ],
  λ h. dite (ℕ_discrete j n)
      (λ same. (step j).1 (inr (here.1 (subst P same h.1), same)))
      (λ other. (step j).1 (inl ((old j).1 (omega (arith, other, h.0), h.1)))),
)

pub all_set : (P : ℕ → Type 0) (word n : ℕ) → ((k : ℕ) → P k → k < n) → AreSetBelow P word n → IsMaskOf word P
all_set P word n within set k = (λ h. ((set k).0 h).1, λ p. (set k).1 (within k p, p))

-- what an answer says
pub says_evaluated : (v : Evaluation) (k : ℕ) (answer : Option Bool) (set : Bool) → slice_get v.answers k ≡ Some answer → (IsTrue set ↔ ((x : Bool) × (answer ≡ Some x))) → IsTrue set ↔ IsEvaluated v k
says_evaluated v k answer set is exact = (
  λ h. let p = exact.0 h in (p.0, is ∙ ap Some p.1),
  λ h. exact.1 (h.0, (let e : Some answer ≡ Some (Some h.0) = sym is ∙ h.1 in cc)),
)
