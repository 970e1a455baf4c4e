-- The words of a matrix follow from its pairs.
use Rattle.std.proofs.Common.{◌≡◌, ℕ, ◌+◌, ◌*◌, ◌/◌, ◌%◌, ◌^◌, ◌<◌, ◌↔◌, List, get_or, sym, ap, ◌∙◌, subst, arith, mul_comm}
use Rattle.std.specs.Prelude.{All}
use Rattle.std.specs.Int.{bit_at}
use Rattle.std.proofs.Math.Nat.{div-add-mod, div-lt_iff_lt-mul}
use Rattle.std.proofs.lemmas.Nat.Bits.{same_from_bits_below, bit_at-lt}
use Rattle.std.proofs.lemmas.List.{ext_get_or}
use native.Mathlib.Decide.{dec_lt, ℕ_discrete}
use mathlib.Core.Logic.{dite}
use Rattle.mc_core.specs.declared.shape.Shape.{Shape}
use Rattle.mc_core.specs.Shape.{rows, word_count, place}
use Rattle.mc_core.specs.Matrix.{bit_of, Holds, IsSound}

module _ (s : Shape) (v w : List ℕ) (one : IsSound s v) (other : IsSound s w) (v_fits : All (λ x. x < 2 ^ 64) v) (w_fits : All (λ x. x < 2 ^ 64) w)
    (same : (b t : ℕ) → Holds record { shape = s; words = v } b t ↔ Holds record { shape = s; words = w } b t) where
  same_bit : (b t : ℕ) → b < s.bits → t < 64 * rows s → bit_of s v b t ≡ bit_of s w b t
  same_bit b t in_b in_row = dite (dec_lt t s.tests)
      (λ in_t.
      let a = bit_at-lt (get_or v (place s b t) 0) (t % 64) in
      let c = bit_at-lt (get_or w (place s b t) 0) (t % 64) in
      dite (ℕ_discrete (bit_of s v b t) 1)
      (λ e. e ∙ sym ((same b t).0 (in_b, in_t, e)).2)
      (λ ne. dite (ℕ_discrete (bit_of s w b t) 1) (λ f. absurd (ne ((same b t).1 (in_b, in_t, f)).2)) (λ nf. omega arith)))
      (λ past. one.spare b t in_b (omega arith) in_row ∙ sym (other.spare b t in_b (omega arith) in_row))

  at_word : (i j : ℕ) → i < word_count s → j < 64 → bit_at (get_or v i 0) j ≡ bit_at (get_or w i 0) j
  at_word i j less small =
      let r : ℕ = rows s in
      let some : 0 < r = dite (dec_lt 0 r) (λ y. y) (λ no. let z : r ≡ 0 = omega arith in let e : s.bits * r ≡ s.bits * 0 = ap (λ (k : ℕ). s.bits * k) z in absurd (omega arith)) in
      let split : r * (i / r) + i % r ≡ i = div-add-mod i r in
      let in_b : i / r < s.bits = (div-lt_iff_lt-mul {k = r} {x = i} {y = s.bits} some).1 less in
      let q : ℕ = i % r in
      let q_less : q < r = omega arith in
      let t : ℕ = q * 64 + j in
      let c = mul_comm (i / r) r in
      let row : t / 64 ≡ q = omega arith in
      let at : place s (i / r) t ≡ i = omega arith in
      let low : t % 64 ≡ j = omega arith in
      subst (λ (p : ℕ × ℕ). bit_at (get_or v p.0 0) p.1 ≡ bit_at (get_or w p.0 0) p.1) (λ k. (at k, low k)) (same_bit (i / r) t in_b (omega arith))

  pub same_words : v ≡ w
  same_words = ext_get_or 0 v w (one.whole ∙ sym other.whole) (λ i less.
      let a = one.whole in
      let b = other.whole in
      same_from_bits_below 64 (get_or v i 0) (get_or w i 0) (v_fits i 0 less) (w_fits i 0 (omega arith)) (λ j small. at_word i j (omega arith) small))
