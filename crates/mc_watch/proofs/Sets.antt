-- The pairs whose bits are set in the words of a matrix are as many as the bits.
use Rattle.std.proofs.Common.{◌≡◌, ℕ, zero, suc, ◌+◌, ◌*◌, ◌/◌, ◌%◌, ◌^◌, ◌<◌, ◌≤◌, List, length, get_or, take, count_ones, sym, refl, ap, ◌∙◌, subst, arith, inl, inr, mod-lt, mod-eq_of_lt, div-lt_iff_lt-mul, div-add-mod'}
use Rattle.std.specs.Prelude.{◌↔◌, ◌⊎◌, All, sum_by}
use Rattle.std.specs.Int.{bit_at}
use Rattle.std.proofs.lemmas.List.{take_all}
use Rattle.std.proofs.lemmas.List.Sums.{sum_by_more}
use Rattle.std.proofs.lemmas.Nat.Bits.{bit_at-lt}
use native.Mathlib.Decide.{dec_lt, ℕ_discrete}
use mathlib.Core.Logic.{dite}
use Rattle.mc_core.specs.declared.shape.Shape.{Shape}
use Rattle.mc_core.specs.Shape.{rows, word_count, place}
use Rattle.mc_core.specs.Matrix.{MatrixView, Holds, HasNoSpareBit, bit_of}
use Rattle.mc_cover.proofs.Bits.{place_within, same_pair}
use Rattle.mc_watch.specs.Watched.{AreSoMany}
use Rattle.mc_watch.proofs.Ones.{none_set, ones_more}
use Rattle.mc_watch.proofs.SoMany.{so_many_none, so_many_more, so_many_same}

-- the bit of the pair is set
abbrev pub IsSet : Shape → List ℕ → ℕ → ℕ → Type 0
IsSet k words b t = (b < k.bits) × (t < 64 * rows k) × (bit_of k words b t ≡ 1)

-- and lies before bit i of word p
abbrev Before : Shape → List ℕ → ℕ → ℕ → ℕ → ℕ → Type 0
Before k words p i b t = IsSet k words b t × ((place k b t < p) ⊎ ((place k b t ≡ p) × (t % 64 < i)))

-- the pair of bit i of word p
abbrev bit_at_place : Shape → ℕ → ℕ
bit_at_place k p = p / rows k

abbrev test_at_place : Shape → ℕ → ℕ → ℕ
test_at_place k p i = p % rows k * 64 + i

record IsPlaced (k : Shape) (p i : ℕ) : Type 0 where
  bit : bit_at_place k p < k.bits
  test : test_at_place k p i < 64 * rows k
  at : place k (bit_at_place k p) (test_at_place k p i) ≡ p
  lane : test_at_place k p i % 64 ≡ i

some_rows : (r b p : ℕ) → p < b * r → 0 < r
some_rows zero b p less = absurd (let z = Rattle.std.proofs.Common.mul-zero b in omega arith)
some_rows (suc r) b p less = omega arith

placed : (k : Shape) (p i : ℕ) → p < word_count k → i < 64 → IsPlaced k p i
placed k p i inside lane =
    let r : ℕ = rows k in
    let some : 0 < r = some_rows r k.bits p inside in
    let q : ℕ = p % r in
    let below : q < r = mod-lt p some in
    let whole : p / r * r + q ≡ p = div-add-mod' p r in
    let row : (q * 64 + i) / 64 ≡ q = omega arith in record {
      bit = (div-lt_iff_lt-mul some).1 inside;
      test = omega arith;
      at = ap (λ (n : ℕ). p / r * r + n) row ∙ whole;
      lane = omega arith;
    }

module _ (k : Shape) (words : List ℕ) (p i : ℕ) (is : IsPlaced k p i) where
  abbrev b0 : ℕ
  b0 = bit_at_place k p

  abbrev t0 : ℕ
  t0 = test_at_place k p i

  bit_is : bit_of k words b0 t0 ≡ bit_at (get_or words p 0) i
  bit_is = λ j. bit_at (get_or words (is.at j) 0) (is.lane j)

  -- a pair at bit i of word p is this one
  this : (c u : ℕ) → u < 64 * rows k → place k c u ≡ p → u % 64 ≡ i → (c ≡ b0) × (u ≡ t0)
  this c u hu at lane = same_pair k c u b0 t0 hu is.test (at ∙ sym is.at) (lane ∙ sym is.lane)

  next_set : bit_at (get_or words p 0) i ≡ 1 → (c u : ℕ) → Before k words p (suc i) c u ↔ (Before k words p i c u ⊎ ((c ≡ b0) × (u ≡ t0)))
  next_set set c u = (
    λ h. elim h.1 [
      | inl less ↦ inl (h.0, inl less)
      | inr at ↦ dite (ℕ_discrete (u % 64) i) (λ e. inr (this c u h.0.1 at.0 e)) (λ ne. inl (h.0, inr (at.0, (let l = at.1 in omega arith))))
    ],
    λ h. elim h [
      | inl old ↦ (old.0, elim old.1 [ inl less ↦ inl less | inr at ↦ inr (at.0, (let l = at.1 in omega arith)) ])
      | inr e ↦ subst (λ (x : ℕ × ℕ). Before k words p (suc i) x.0 x.1) (λ j. (sym e.0 j, sym e.1 j))
          ((is.bit, is.test, bit_is ∙ set), inr (is.at, (let l = is.lane in omega arith)))
    ],
  )

  next_clear : bit_at (get_or words p 0) i ≡ 0 → (c u : ℕ) → Before k words p i c u ↔ Before k words p (suc i) c u
  next_clear clear c u = (
    λ old. (old.0, elim old.1 [ inl less ↦ inl less | inr at ↦ inr (at.0, (let l = at.1 in omega arith)) ]),
    λ h. (
      h.0,
      elim h.1 [
        | inl less ↦ inl less
        | inr at ↦ dite (ℕ_discrete (u % 64) i)
            (λ e.
            let bit : bit_at (get_or words (place k c u) 0) (u % 64) ≡ bit_at (get_or words p 0) i = λ j. bit_at (get_or words (at.0 j) 0) (e j) in
            let one = h.0.2 in absurd (omega arith))
            (λ ne. inr (at.0, (let l = at.1 in omega arith)))
      ],
    ),
  )

  one_bit : (n : ℕ) → AreSoMany (Before k words p i) n → AreSoMany (Before k words p (suc i)) (n + bit_at (get_or words p 0) i)
  one_bit n are = dite (ℕ_discrete (bit_at (get_or words p 0) i) 1)
      (λ set. subst (λ (m : ℕ). AreSoMany (Before k words p (suc i)) (n + m)) (sym set)
      (so_many_more (Before k words p i) (Before k words p (suc i)) n are b0 t0
      (λ h. elim h.1 [ inl less ↦ (let e = is.at in omega arith) | inr at ↦ (let l = at.1 in let e = is.lane in omega arith) ])
      (next_set set)))
      (λ no.
      let clear : bit_at (get_or words p 0) i ≡ 0 = (let l = bit_at-lt (get_or words p 0) i in omega arith) in
      let same : n ≡ n + bit_at (get_or words p 0) i = omega arith in
      subst (AreSoMany (Before k words p (suc i))) same (so_many_same (Before k words p i) (Before k words p (suc i)) n (next_clear clear) are))

module _ (k : Shape) (words : List ℕ) where
  word_bits : (p n : ℕ) → p < word_count k → AreSoMany (Before k words p 0) n → (i : ℕ) → i ≤ 64 → AreSoMany (Before k words p i) (n + count_ones (get_or words p 0 % 2 ^ i))
  word_bits p n inside are zero few =
      let none = none_set (get_or words p 0 % 1) (mod-lt (get_or words p 0) (omega arith)) in
      let same : n ≡ n + count_ones (get_or words p 0 % 1) = omega arith in
      subst (AreSoMany (Before k words p 0)) same are
  word_bits p n inside are (suc i) few =
      let x : ℕ = get_or words p 0 in
      let more = ones_more x i in
      let same : n + count_ones (x % 2 ^ i) + bit_at x i ≡ n + count_ones (x % 2 ^ suc i) = omega arith in
      subst (AreSoMany (Before k words p (suc i))) same (one_bit k words p i (placed k p i inside (omega arith)) (n + count_ones (x % 2 ^ i)) (word_bits p n inside are i (omega arith)))

  word_done : (p n : ℕ) → p < word_count k → get_or words p 0 < 2 ^ 64 → AreSoMany (Before k words p 0) n → AreSoMany (Before k words (suc p) 0) (n + count_ones (get_or words p 0))
  word_done p n inside fits are =
      let all = word_bits p n inside are 64 (omega arith) in
      let all' : AreSoMany (Before k words p 64) (n + count_ones (get_or words p 0)) = subst (λ (x : ℕ). AreSoMany (Before k words p 64) (n + count_ones x)) (mod-eq_of_lt fits) all in
      so_many_same (Before k words p 64) (Before k words (suc p) 0) (n + count_ones (get_or words p 0))
      (λ c u. (
        λ h. (h.0, inl (elim h.1 [ inl less ↦ (omega arith) | inr at ↦ (let e = at.0 in omega arith) ])),
        λ h. (
          h.0,
          elim h.1 [
            | inl less ↦ dite (dec_lt (place k c u) p) (λ l. inl l) (λ no. inr ((omega arith), (omega arith)))
            | inr at ↦ absurd (let l = at.1 in omega arith)
          ],
        ),
      )) all'

  all_words : length words ≡ word_count k → All (λ w. w < 2 ^ 64) words → (p : ℕ) → p ≤ word_count k → AreSoMany (Before k words p 0) (sum_by count_ones (take p words))
  all_words whole fits zero few =
      so_many_none (Before k words 0 0) (λ b t h. elim h.1 [ inl less ↦ (omega arith) | inr at ↦ (let l = at.1 in omega arith) ])
  all_words whole fits (suc p) few =
      let more = sum_by_more count_ones words p 0 (omega arith) in
      let one : p + 1 ≡ suc p = omega arith in
      let sum : sum_by count_ones (take (suc p) words) ≡ sum_by count_ones (take p words) + count_ones (get_or words p 0) = subst (λ (m : ℕ). sum_by count_ones (take m words) ≡ sum_by count_ones (take p words) + count_ones (get_or words p 0)) one more in
      subst (AreSoMany (Before k words (suc p) 0)) (sym sum)
      (word_done p (sum_by count_ones (take p words)) (omega arith) (fits p 0 (omega arith)) (all_words whole fits p (omega arith)))

  pub so_many_set : length words ≡ word_count k → All (λ w. w < 2 ^ 64) words → AreSoMany (IsSet k words) (sum_by count_ones words)
  so_many_set whole fits =
      let all = all_words whole fits (word_count k) (omega arith) in
      let all' : AreSoMany (Before k words (word_count k) 0) (sum_by count_ones words) = subst (λ (ws : List ℕ). AreSoMany (Before k words (word_count k) 0) (sum_by count_ones ws)) (take_all (word_count k) words (omega arith)) all in
      so_many_same (Before k words (word_count k) 0) (IsSet k words) (sum_by count_ones words)
      (λ b t. (λ h. h.0, λ h. (h, inl (place_within k b t h.0 h.1)))) all'

-- a matrix holds as many pairs as it has bits that are set
pub so_many_held : (x : MatrixView) → length x.words ≡ word_count x.shape → HasNoSpareBit x.shape x.words → All (λ w. w < 2 ^ 64) x.words → AreSoMany (Holds x) (sum_by count_ones x.words)
so_many_held x whole spare fits =
    so_many_same (IsSet x.shape x.words) (Holds x) (sum_by count_ones x.words)
    (λ b t. (
      λ h. (h.0, dite (dec_lt t x.shape.tests) (λ l. l) (λ no. let z = spare b t h.0 (omega arith) h.1 in let one = h.2 in absurd (omega arith)), h.2),
      λ h. (h.0, (let l = h.1 in omega arith), h.2),
    )) (so_many_set x.shape x.words whole fits)
