-- Bits of the masks of conditions.
use Rattle.std.proofs.Common.{◌≡◌, ℕ, Bool, true, false, ◌||◌, refl, ◌∙◌, ap, sym, subst, ◌<◌, ◌*◌, ◌%◌, ◌^◌, ◌==◌, inl, inr}
use Rattle.std.specs.Prelude.{if◌then◌else◌, bit_or, max}
use Rattle.std.specs.Int.{bit_at}
use Rattle.std.proofs.lemmas.Bool.Decides.{eqb_tells}
use Rattle.std.proofs.lemmas.Nat.{one_shl}
use Rattle.std.proofs.lemmas.Nat.Bits.{bit_at_or, bit_at-pow_same, bit_at-pow_other}

max_either : (x y : Bool) → max (if x then 1 else 0) (if y then 1 else 0) ≡ (if x || y then 1 else 0)
max_either true true = refl
max_either true false = refl
max_either false true = refl
max_either false false = refl

pub bit_either : (m n k : ℕ) (x y : Bool) → bit_at m k ≡ (if x then 1 else 0) → bit_at n k ≡ (if y then 1 else 0) → bit_at (bit_or m n) k ≡ (if x || y then 1 else 0)
bit_either m n k x y e f = bit_at_or m n k ∙ ap (λ a. max a (bit_at n k)) e ∙ ap (λ b. max (if x then 1 else 0) b) f ∙ max_either x y

pub bit_leaf : (j k : ℕ) → j < 64 → bit_at (1 * 2 ^ j % 2 ^ 64) k ≡ (if k == j then 1 else 0)
bit_leaf j k h =
    let P : ℕ → ℕ = λ n. bit_at n k in
    let Q : Bool → ℕ = λ b. if b then 1 else 0 in
    ap P (one_shl j 64 h) ∙ (elim (eqb_tells k j) [
      | inl same ↦ (let R : ℕ → Type 0 = λ i. bit_at (2 ^ j) i ≡ 1 in subst R (sym same.1) (bit_at-pow_same j) ∙ sym (ap Q same.0))
      | inr other ↦ bit_at-pow_other j k other.1 ∙ sym (ap Q other.0)
    ])
