-- One bit of the words of a matrix.
use Rattle.std.proofs.Common.{◌≡◌, ◌≢◌, ℕ, ◌*◌, ◌/◌, ◌%◌, ◌^◌, ◌<◌, ◌⊎◌, ◌↔◌, inl, inr, List, length, get_or, set, sym, ap, ◌∙◌, subst, arith, get_or-set_same, mul_comm}
use Rattle.std.specs.Prelude.{◌==◌, true, slice_index, bit_and, bit_or}
use Rattle.std.specs.Int.{bit_at}
use Rattle.std.proofs.lemmas.Nat.{same_from_place, mul-add-lt, one_shl}
use Rattle.std.proofs.lemmas.Nat.Bits.{bit_at_or, bit_at-pow_same, bit_at-pow_other, bit_at-lt, shr_and_one}
use Rattle.std.proofs.lemmas.Bool.Decides.{Decides-eqb}
use Rattle.std.proofs.lemmas.List.{get_or-set_other, length-set, get_or_default}
use native.Mathlib.Decide.{ℕ_discrete}
use mathlib.Core.Logic.{dite}
use Rattle.mc_core.specs.declared.shape.Shape.{Shape}
use Rattle.mc_core.specs.Shape.{rows, word_count, place}
use Rattle.mc_core.specs.Steps.{word_after, words_after}
use Rattle.mc_core.specs.Matrix.{MatrixView, bit_of, Holds, IsSound, with_pair}

-- a word after a hit
pub hit_same : (word t : ℕ) → bit_at (word_after word t) (t % 64) ≡ 1
hit_same word t = let a = bit_at_or word (2 ^ (t % 64)) (t % 64) in let b = bit_at-pow_same (t % 64) in let c = bit_at-lt word (t % 64) in omega arith

pub hit_other : (word t i : ℕ) → i ≢ t % 64 → bit_at (word_after word t) i ≡ bit_at word i
hit_other word t i ne = let a = bit_at_or word (2 ^ (t % 64)) i in let b = bit_at-pow_other (t % 64) i ne in omega arith

-- a test lies in the rows of its bit
pub place_within : (s : Shape) (b t : ℕ) → b < s.bits → t < 64 * rows s → place s b t < word_count s
place_within s b t hb ht = let q : t / 64 < rows s = omega arith in let h = mul-add-lt b (rows s) (t / 64) s.bits hb q in let c = mul_comm s.bits (rows s) in omega arith

-- two pairs with one bit in common are one pair
pub same_pair : (s : Shape) (b t c u : ℕ) → t < 64 * rows s → u < 64 * rows s → place s b t ≡ place s c u → t % 64 ≡ u % 64 → (b ≡ c) × (t ≡ u)
same_pair s b t c u ht hu e m =
    let p = same_from_place b (t / 64) c (u / 64) (rows s) (omega arith) (omega arith) e in
    let d = p.1 in (p.0, omega arith)

module _ (s : Shape) (words : List ℕ) (b t : ℕ) (whole : length words ≡ word_count s) (in_b : b < s.bits) (in_t : t < 64 * rows s) where
  inside : place s b t < length words
  inside = let h = place_within s b t in_b in_t in omega arith

  pub bit_set : bit_of s (words_after s words b t) b t ≡ 1
  bit_set = ap (λ (x : ℕ). bit_at x (t % 64)) (get_or-set_same words (place s b t) _ 0 inside) ∙ hit_same (slice_index words (place s b t)) t

  pub bit_kept : (c u : ℕ) → u < 64 * rows s → ¬ ((c ≡ b) × (u ≡ t)) → bit_of s (words_after s words b t) c u ≡ bit_of s words c u
  bit_kept c u in_u apart = dite (ℕ_discrete (place s c u) (place s b t))
      (λ same. let other = λ (e : u % 64 ≡ t % 64). apart (same_pair s c u b t in_u in_t same e) in
      subst (λ (k : ℕ). bit_at (get_or (words_after s words b t) k 0) (u % 64) ≡ bit_at (get_or words k 0) (u % 64)) (sym same)
      (ap (λ (x : ℕ). bit_at x (u % 64)) (get_or-set_same words (place s b t) _ 0 inside) ∙ hit_other (slice_index words (place s b t)) t (u % 64) other))
      (λ ne. ap (λ (x : ℕ). bit_at x (u % 64)) (get_or-set_other words (place s b t) (place s c u) _ 0 ne))

pub tests_within : (s : Shape) (t : ℕ) → t < s.tests → t < 64 * rows s
tests_within s t less = omega arith

pub sound_with : (s : Shape) (words : List ℕ) (b t : ℕ) → IsSound s words → b < s.bits → t < s.tests → IsSound s (words_after s words b t)
sound_with s words b t old in_b in_t = record {
  whole = length-set words (place s b t) _ ∙ old.whole;
  spare = λ c u in_c beyond in_u. bit_kept s words b t old.whole in_b (tests_within s t in_t) c u in_u (λ e. let d = e.1 in absurd (omega arith)) ∙ old.spare c u in_c beyond in_u;
}

holds_back : (m : MatrixView) (b t : ℕ) → length m.words ≡ word_count m.shape → b < m.shape.bits → t < m.shape.tests
    → (c u : ℕ) → Dec ((c ≡ b) × (u ≡ t)) → Holds m c u ⊎ ((c ≡ b) × (u ≡ t)) → Holds (with_pair m b t) c u
holds_back m b t whole in_b in_t c u (yes p) h =
    subst (λ (q : ℕ × ℕ). Holds (with_pair m b t) q.0 q.1) (λ i. (sym p.0 i, sym p.1 i)) (in_b, in_t, bit_set m.shape m.words b t whole in_b (tests_within m.shape t in_t))
holds_back m b t whole in_b in_t c u (no apart) (inr p) = absurd (apart p)
holds_back m b t whole in_b in_t c u (no apart) (inl h) = (h.0, h.1, bit_kept m.shape m.words b t whole in_b (tests_within m.shape t in_t) c u (tests_within m.shape u h.1) apart ∙ h.2)

holds_on : (m : MatrixView) (b t : ℕ) → length m.words ≡ word_count m.shape → b < m.shape.bits → t < m.shape.tests
    → (c u : ℕ) → Dec ((c ≡ b) × (u ≡ t)) → Holds (with_pair m b t) c u → Holds m c u ⊎ ((c ≡ b) × (u ≡ t))
holds_on m b t whole in_b in_t c u (yes p) h = inr p
holds_on m b t whole in_b in_t c u (no apart) h = inl (h.0, h.1, sym (bit_kept m.shape m.words b t whole in_b (tests_within m.shape t in_t) c u (tests_within m.shape u h.1) apart) ∙ h.2)

-- whether two pairs are one
pub same_or_not : (b t c u : ℕ) → Dec ((c ≡ b) × (u ≡ t))
same_or_not b t c u = dite (ℕ_discrete c b) (λ e. dite (ℕ_discrete u t) (λ f. yes (e, f)) (λ ne. no (λ p. ne p.1))) (λ ne. no (λ p. ne p.0))

-- the pairs after a hit are those before it and the one that was hit
pub holds_with : (m : MatrixView) (b t : ℕ) → length m.words ≡ word_count m.shape → b < m.shape.bits → t < m.shape.tests
    → (c u : ℕ) → Holds (with_pair m b t) c u ↔ (Holds m c u ⊎ ((c ≡ b) × (u ≡ t)))
holds_with m b t whole in_b in_t c u = (holds_on m b t whole in_b in_t c u (same_or_not b t c u), holds_back m b t whole in_b in_t c u (same_or_not b t c u))

-- what the code writes is the hit
pub written : (s : Shape) (ws : List ℕ) (b t at x : ℕ) → at ≡ place s b t → length ws ≡ word_count s → b < s.bits → t < s.tests → x ≡ get_or ws at x
    → set ws at (bit_or x (1 * 2 ^ (t % 64) % 2 ^ 64)) ≡ words_after s ws b t
written s ws b t at x is_place whole in_b in_t read =
    let within = place_within s b t in_b (tests_within s t in_t) in
    let inside : place s b t < length ws = omega arith in
    let word : x ≡ get_or ws (place s b t) 0 = read ∙ ap (λ (i : ℕ). get_or ws i x) is_place ∙ get_or_default ws (place s b t) x 0 inside in
    let mask : 1 * 2 ^ (t % 64) % 2 ^ 64 ≡ 2 ^ (t % 64) = one_shl (t % 64) 64 (omega arith) in
    λ i. set ws (is_place i) (bit_or (word i) (mask i))

-- what the code tests is the bit
pub tested : (s : Shape) (ws : List ℕ) (b t at x : ℕ) → at ≡ place s b t → length ws ≡ word_count s → b < s.bits → t < s.tests → x ≡ get_or ws at x
    → (bit_and (x / 2 ^ (t % 64)) 1 == 1) ≡ true ↔ Holds record { shape = s; words = ws } b t
tested s ws b t at x is_place whole in_b in_t read =
    let within = place_within s b t in_b (tests_within s t in_t) in
    let inside : place s b t < length ws = omega arith in
    let word : x ≡ get_or ws (place s b t) 0 = read ∙ ap (λ (i : ℕ). get_or ws i x) is_place ∙ get_or_default ws (place s b t) x 0 inside in
    let bit : bit_and (x / 2 ^ (t % 64)) 1 ≡ bit_of s ws b t = shr_and_one x (t % 64) ∙ ap (λ (w : ℕ). bit_at w (t % 64)) word in
    let decides = Decides-eqb (bit_and (x / 2 ^ (t % 64)) 1) 1 in
    ((λ e. (in_b, in_t, sym bit ∙ decides.0 e)), (λ h. decides.1 (bit ∙ h.2)))
