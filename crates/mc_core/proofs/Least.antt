-- The first word of a bit that is not 0 has its least test.
use Rattle.std.proofs.Common.{◌≡◌, ◌≢◌, ℕ, ◌+◌, ◌*◌, ◌/◌, ◌%◌, ◌^◌, ◌<◌, List, length, get_or, sym, ap, ◌∙◌, arith}
use Rattle.std.specs.Int.{bit_at, w64, trailing_zeros}
use Rattle.std.proofs.lemmas.Nat.Bits.{bit_at-trailing_zeros}
use Rattle.std.proofs.lemmas.List.{get_or_default}
use native.Mathlib.Decide.{dec_lt}
use mathlib.Core.Logic.{dite}
use Rattle.mc_core.specs.declared.shape.Shape.{Shape}
use Rattle.mc_core.specs.Shape.{rows, place}
use Rattle.mc_core.specs.Matrix.{MatrixView, bit_of, Holds, IsSound}
use Rattle.mc_core.proofs.Bits.{place_within}

abbrev pub IsLeast : MatrixView → ℕ → ℕ → Type 0
IsLeast m b t = Holds m b t × ((u : ℕ) → u < t → ¬ Holds m b u)

module _ (s : Shape) (ws : List ℕ) (b row from x : ℕ) (sound : IsSound s ws) (in_b : b < s.bits) (is_first : from ≡ place s b 0) (in_row : row < rows s)
    (read : x ≡ get_or ws (from + row) x) (some : x ≢ 0) (fits : x < 2 ^ 64) (before : (u : ℕ) → u < 64 * row → bit_of s ws b u ≡ 0) where
  abbrev at : ℕ
  at = row * 64 + trailing_zeros w64 x

  -- the word of a test of this row
  word_at : (u : ℕ) → u / 64 ≡ row → get_or ws (place s b u) 0 ≡ x
  word_at u e =
      let same : place s b u ≡ from + row = omega arith in
      let within = place_within s b u in_b (omega arith) in
      let inside : from + row < length ws = let w = sound.whole in omega arith in
      ap (λ (i : ℕ). get_or ws i 0) same ∙ get_or_default ws (from + row) 0 x inside ∙ sym read

  zeros : (trailing_zeros w64 x < 64) × (bit_at x (trailing_zeros w64 x) ≡ 1) × ((i : ℕ) → i < trailing_zeros w64 x → bit_at x i ≡ 0)
  zeros = bit_at-trailing_zeros w64 x (omega arith) fits

  set_there : bit_of s ws b at ≡ 1
  set_there =
      let z = zeros in
      let k : ℕ = trailing_zeros w64 x in
      let small : k < 64 = z.0 in
      let low : at % 64 ≡ k = omega arith in
      (λ i. bit_at (word_at at (omega arith) i) (low i)) ∙ z.1

  least : (u : ℕ) → u < at → bit_of s ws b u ≡ 0
  least u less = dite (dec_lt u (64 * row)) (λ y. before u y)
      (λ no. let z = zeros in
      let k : ℕ = trailing_zeros w64 x in
      let small : k < 64 = z.0 in
      ap (λ (w : ℕ). bit_at w (u % 64)) (word_at u (omega arith)) ∙ z.2 (u % 64) (omega arith))

  found : Holds record { shape = s; words = ws } b at
  found =
      let z = zeros in
      let k : ℕ = trailing_zeros w64 x in
      let small : k < 64 = z.0 in
      let bit = set_there in
      (in_b, dite (dec_lt at s.tests) (λ y. y) (λ no. let clear = sound.spare b at in_b (omega arith) (omega arith) in absurd (omega arith)), bit)

  pub is_least : IsLeast record { shape = s; words = ws } b at
  is_least = (found, λ u less h. let a = least u less in let c = h.2 in absurd (omega arith))
