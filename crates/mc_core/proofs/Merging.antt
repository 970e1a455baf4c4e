-- The words of two matrices, one after the other.
use Rattle.std.proofs.Common.{◌≡◌, ℕ, ◌+◌, ◌-◌, ◌*◌, ◌/◌, ◌%◌, ◌^◌, ◌<◌, ◌≤◌, ◌⊎◌, ◌↔◌, inl, inr, List, [], ◌∷◌, ◌++◌, length, length-append, get_or, refl, sym, ap, ◌∙◌, subst, arith, mul_comm}
use Rattle.std.specs.Prelude.{bit_or, slice_index}
use Rattle.std.specs.Int.{bit_at}
use Rattle.std.proofs.lemmas.Bool.{cases_lt}
use Rattle.std.proofs.lemmas.Nat.{and_mask, pow-add, div-mul-add, mod-mul-add, pow_pos}
use Rattle.std.proofs.lemmas.Nat.Bits.{bit_at_or, bit_at_and, bit_at-lt, bit_at-zero, bit_at_ones, bit_at_cat_low, bit_at_cat_high}
use Rattle.std.proofs.lemmas.List.{get_or_append_left, get_or_default}
use Rattle.std.proofs.Math.Seq.{get_or-append_seam}
use Rattle.std.proofs.Math.Nat.{div-div-eq-div-mul}
use Rattle.mc_core.specs.declared.shape.Shape.{Shape}
use Rattle.mc_core.specs.Shape.{rows, word_count, place}
use Rattle.mc_core.specs.Matrix.{MatrixView, bit_of, Holds, HasNoSpareBit, IsSound}
use Rattle.mc_core.specs.Merged.{both_shapes, HoldsEither}
use Rattle.mc_core.specs.Joined.{IsWordOf, AreJoined}
use Rattle.mc_core.proofs.Bits.{place_within, tests_within}

-- ---- shifted words

kept : (n j : ℕ) → j < 64 → bit_at (n % 2 ^ 64) j ≡ bit_at n j
kept n j low =
    let P : ℕ → ℕ = λ w. bit_at w j in
    ap P (sym (and_mask n 64)) ∙ omega (arith, bit_at_and n (2 ^ 64 - 1) j, bit_at_ones 64 j low, bit_at-lt n j)

pub raised_low : (word shift j : ℕ) → shift < 64 → j < shift → bit_at (word * 2 ^ shift % 2 ^ 64) j ≡ 0
raised_low word shift j few low =
    let P : ℕ → ℕ = λ n. bit_at n j in
    let whole : word * 2 ^ shift ≡ word * 2 ^ shift + 0 = omega arith in
    kept (word * 2 ^ shift) j (omega (arith, few, low)) ∙ ap P whole ∙ bit_at_cat_low word shift 0 j low ∙ bit_at-zero j

pub raised_high : (word shift j : ℕ) → shift ≤ j → j < 64 → bit_at (word * 2 ^ shift % 2 ^ 64) j ≡ bit_at word (j - shift)
raised_high word shift j high few =
    let P : ℕ → ℕ = λ n. bit_at n j in
    let whole : word * 2 ^ shift ≡ word * 2 ^ shift + 0 = omega arith in
    kept (word * 2 ^ shift) j few ∙ ap P whole ∙ bit_at_cat_high word shift 0 j (pow_pos shift) high

pub lowered_at : (word shift j : ℕ) → bit_at (word / 2 ^ shift) j ≡ bit_at word (j + shift)
lowered_at word shift j =
    let P : ℕ → ℕ = λ n. n % 2 in
    let Q : ℕ → ℕ = λ n. word / n in
    let power : 2 ^ shift * 2 ^ j ≡ 2 ^ (j + shift) = mul_comm (2 ^ shift) (2 ^ j) ∙ sym (pow-add 2 j shift) in
    ap P (div-div-eq-div-mul word (2 ^ shift) (2 ^ j) ∙ ap Q power)

-- ---- the word of a row

pub word_holds : (m : MatrixView) (b row word : ℕ) → IsSound m.shape m.words → b < m.shape.bits → row < rows m.shape → word ≡ slice_index m.words (place m.shape b 0 + row) → IsWordOf (Holds m b) word row
word_holds m b row word sound in_b in_rows read j few =
    let s : Shape = m.shape in
    let at : place s b (64 * row + j) ≡ place s b 0 + row = omega (arith, few) in
    let digit : (64 * row + j) % 64 ≡ j = omega (arith, few) in
    let P : ℕ → ℕ = λ i. bit_at (slice_index m.words i) ((64 * row + j) % 64) in
    let Q : ℕ → ℕ = λ i. bit_at (slice_index m.words (place s b 0 + row)) i in
    let R : ℕ → ℕ = λ w. bit_at w j in
    let same : bit_of s m.words b (64 * row + j) ≡ bit_at word j = ap P at ∙ ap Q digit ∙ ap R (sym read) in
    let spare : s.tests ≤ 64 * row + j → bit_of s m.words b (64 * row + j) ≡ 0 = λ beyond. sound.spare b (64 * row + j) in_b beyond (omega (arith, few, in_rows)) in (
      λ h. (in_b, elim (cases_lt (64 * row + j) s.tests) [ inl less ↦ less | inr more ↦ (let z = spare more in absurd (omega (arith, h, same, z))) ], same ∙ h),
      λ h. sym same ∙ h.2,
    )

-- the same, of a word that is read at its place
pub word_read : (m : MatrixView) (b row word at : ℕ) → IsSound m.shape m.words → b < m.shape.bits → row < rows m.shape → at ≡ place m.shape b 0 → word ≡ get_or m.words (at + row) word → IsWordOf (Holds m b) word row
word_read m b row word at sound in_b in_rows is_place read =
    let s : Shape = m.shape in
    let from : at + row ≡ place s b 0 + row = omega (arith, is_place) in
    let inside : place s b 0 + row < length m.words = omega (arith, place_within s b (64 * row) in_b (omega (arith, in_rows)), sound.whole) in
    let P : ℕ → ℕ = λ i. get_or m.words i word in
    word_holds m b row word sound in_b in_rows (read ∙ ap P from ∙ get_or_default m.words (place s b 0 + row) word 0 inside)

pub nothing_holds : (m : MatrixView) (b row : ℕ) → (m.shape.bits ≤ b) ⊎ (rows m.shape ≤ row) → IsWordOf (Holds m b) 0 row
nothing_holds m b row out j few = (
  λ h. absurd (omega (arith, h, bit_at-zero j)),
  λ h. absurd (elim out [
    | inl above ↦ (let f : ⊥ = omega (arith, above, h.0) in f)
    | inr beyond ↦ (let t = h.1 in let f : ⊥ = omega (arith, beyond, t) in f)
  ]),
)

-- ---- a row of tests that are counted from an offset on

Later : (ℕ → Type 0) → ℕ → ℕ → Type 0
Later holds offset t = (offset ≤ t) × holds (t - offset)

module _ (holds : ℕ → Type 0) (row offset : ℕ) where
  pub later_none : row < offset / 64 → (j : ℕ) → j < 64 → (bit_at 0 j ≡ 1) ↔ ((offset ≤ 64 * row + j) × holds (64 * row + j - offset))
  later_none less j few = (λ h. absurd (omega (arith, h, bit_at-zero j)), λ h. (let l = h.0 in absurd (omega (arith, less, l, few))))

  same_test : (a b : ℕ) → a ≡ b → holds a → holds b
  same_test a b e h = subst holds e h

  -- one word is enough
  pub later_own : (word result : ℕ) → offset / 64 ≤ row → (offset % 64 ≡ 0) ⊎ (row ≡ offset / 64) → IsWordOf holds word (row - offset / 64)
      → ((j : ℕ) → j < offset % 64 → bit_at result j ≡ 0) → ((j : ℕ) → offset % 64 ≤ j → j < 64 → bit_at result j ≡ bit_at word (j - offset % 64))
      → (j : ℕ) → j < 64 → (bit_at result j ≡ 1) ↔ ((offset ≤ 64 * row + j) × holds (64 * row + j - offset))
  later_own word result above alone own low high j few =
      elim (cases_lt j (offset % 64)) [
        | inl less ↦ (
          λ h. absurd (omega (arith, h, low j less)),
          λ h. (let l = h.0 in absurd (elim alone [ inl none ↦ (let f : ⊥ = omega (arith, none, less) in f) | inr first ↦ (let f : ⊥ = omega (arith, first, less, l) in f) ])),
        )
        | inr more ↦
            (let at : 64 * (row - offset / 64) + (j - offset % 64) ≡ 64 * row + j - offset = omega (arith, above, more) in
            let word_bit = own (j - offset % 64) (omega (arith, few)) in (
              λ h. (omega (arith, above, more), same_test (64 * (row - offset / 64) + (j - offset % 64)) (64 * row + j - offset) at (word_bit.0 (sym (high j more few) ∙ h))),
              λ h. high j more few ∙ word_bit.1 (same_test (64 * row + j - offset) (64 * (row - offset / 64) + (j - offset % 64)) (sym at) h.1),
            ))
      ]

  -- two words give one
  pub later_both : (word before own low_part : ℕ) → offset / 64 < row → IsWordOf holds word (row - offset / 64) → IsWordOf holds before (row - offset / 64 - 1)
      → ((j : ℕ) → j < offset % 64 → bit_at own j ≡ 0) → ((j : ℕ) → offset % 64 ≤ j → j < 64 → bit_at own j ≡ bit_at word (j - offset % 64))
      → ((j : ℕ) → bit_at low_part j ≡ bit_at before (j + (64 - offset % 64))) → ((j : ℕ) → 64 ≤ j + (64 - offset % 64) → bit_at low_part j ≡ 0)
      → (j : ℕ) → j < 64 → (bit_at (bit_or own low_part) j ≡ 1) ↔ ((offset ≤ 64 * row + j) × holds (64 * row + j - offset))
  later_both word before own low_part above is_word is_before low high part none j few =
      elim (cases_lt j (offset % 64)) [
        | inl less ↦
            (let at : 64 * (row - offset / 64 - 1) + (j + (64 - offset % 64)) ≡ 64 * row + j - offset = omega (arith, above, less) in
            let bit : bit_at (bit_or own low_part) j ≡ bit_at before (j + (64 - offset % 64)) = bit_at_or own low_part j ∙ omega (arith, low j less, part j) in
            let before_bit = is_before (j + (64 - offset % 64)) (omega (arith, less)) in (
              λ h. (omega (arith, above), same_test (64 * (row - offset / 64 - 1) + (j + (64 - offset % 64))) (64 * row + j - offset) at (before_bit.0 (sym bit ∙ h))),
              λ h. bit ∙ before_bit.1 (same_test (64 * row + j - offset) (64 * (row - offset / 64 - 1) + (j + (64 - offset % 64))) (sym at) h.1),
            ))
        | inr more ↦
            (let at : 64 * (row - offset / 64) + (j - offset % 64) ≡ 64 * row + j - offset = omega (arith, above, more) in
            let bit : bit_at (bit_or own low_part) j ≡ bit_at word (j - offset % 64) = bit_at_or own low_part j ∙ omega (arith, high j more few, none j (omega (arith, more))) in
            let word_bit = is_word (j - offset % 64) (omega (arith, few)) in (
              λ h. (omega (arith, above, more), same_test (64 * (row - offset / 64) + (j - offset % 64)) (64 * row + j - offset) at (word_bit.0 (sym bit ∙ h))),
              λ h. bit ∙ word_bit.1 (same_test (64 * row + j - offset) (64 * (row - offset / 64) + (j - offset % 64)) (sym at) h.1),
            ))
      ]

-- ---- one of the two

pub either_word : (left right : MatrixView) (b row m n : ℕ) → IsWordOf (Holds left b) m row → IsWordOf (λ t. (left.shape.tests ≤ t) × Holds right b (t - left.shape.tests)) n row
    → IsWordOf (HoldsEither left right b) (bit_or m n) row
either_word left right b row m n first second j few =
    let both = bit_at_or m n j in
    let p = bit_at-lt m j in
    let q = bit_at-lt n j in (
      λ h. elim (cases_lt (bit_at m j) 1) [
        | inl clear ↦ inr ((second j few).0 (omega (arith, both, clear, h, q)))
        | inr set ↦ inl ((first j few).0 (omega (arith, set, p)))
      ],
      λ h. elim h [
        | inl here ↦ (let e = (first j few).1 here in omega (arith, both, e, q))
        | inr there ↦ (let e = (second j few).1 there in omega (arith, both, e, p))
      ],
    )

-- ---- all words

pub none_joined : (left right : MatrixView) (r : ℕ) → AreJoined left right r 0 []
none_joined left right r = record { many = refl; each = λ i less. absurd (omega (arith, less)) }

pub one_joined : (left right : MatrixView) (r n : ℕ) (words : List ℕ) (word : ℕ) → IsWordOf (HoldsEither left right (n / r)) word (n % r) → AreJoined left right r n words → AreJoined left right r (n + 1) (words ++ word ∷ [])
one_joined left right r n words word new old =
    record {
      many = length-append words (word ∷ []) ∙ omega (arith, old.many);
      each = λ i less.
          elim (cases_lt i n) [
            | inl before ↦
                (let P : ℕ → Type 0 = λ w. IsWordOf (HoldsEither left right (i / r)) w (i % r) in
                subst P (sym (get_or_append_left words (word ∷ []) 0 i (omega (arith, before, old.many)))) (old.each i before))
            | inr last ↦
                (let at : i ≡ n = omega (arith, less, last) in
                let Q : ℕ → Type 0 = λ k. IsWordOf (HoldsEither left right (k / r)) word (k % r) in
                let R : ℕ → ℕ = λ k. get_or (words ++ word ∷ []) k 0 in
                let read : get_or (words ++ word ∷ []) i 0 ≡ word = ap R (omega (arith, at, old.many)) ∙ get_or-append_seam words word [] 0 in
                let P : ℕ → Type 0 = λ w. IsWordOf (HoldsEither left right (i / r)) w (i % r) in
                subst P (sym read) (subst Q (sym at) new))
          ];
    }

module _ (left right : MatrixView) (words : List ℕ) (same : left.shape.bits ≡ right.shape.bits)
    (all : AreJoined left right (rows (both_shapes left.shape right.shape)) (word_count (both_shapes left.shape right.shape)) words) where
  joined_bit : (b t : ℕ) → b < left.shape.bits → t < 64 * rows (both_shapes left.shape right.shape) → (bit_of (both_shapes left.shape right.shape) words b t ≡ 1) ↔ HoldsEither left right b t
  joined_bit b t in_b in_t =
      let s : Shape = both_shapes left.shape right.shape in
      let i : ℕ = place s b t in
      let inside : t / 64 < rows s = omega (arith, in_t) in
      let bit : i / rows s ≡ b = div-mul-add b (rows s) (t / 64) inside in
      let row : i % rows s ≡ t / 64 = mod-mul-add b (rows s) (t / 64) inside in
      let word = all.each i (place_within s b t in_b in_t) (t % 64) (omega arith) in
      let P : ℕ → Type 0 = λ r. (bit_at (get_or words i 0) (t % 64) ≡ 1) ↔ HoldsEither left right (i / rows s) (64 * r + t % 64) in
      let Q : ℕ → Type 0 = λ c. (bit_at (get_or words i 0) (t % 64) ≡ 1) ↔ HoldsEither left right c (64 * (t / 64) + t % 64) in
      let R : ℕ → Type 0 = λ u. (bit_at (get_or words i 0) (t % 64) ≡ 1) ↔ HoldsEither left right b u in
      let whole : 64 * (t / 64) + t % 64 ≡ t = omega arith in
      subst R whole (subst Q bit (subst P row word))

  either_within : (b t : ℕ) → HoldsEither left right b t → (b < left.shape.bits) × (t < left.shape.tests + right.shape.tests)
  either_within b t (inl h) = (h.0, (let l = h.1 in omega arith))
  either_within b t (inr h) = (let p = h.1.0 in omega (arith, p, same), (let l = h.1.1 in let m = h.0 in omega arith))

  pub joined_spare : HasNoSpareBit (both_shapes left.shape right.shape) words
  joined_spare b t in_b beyond in_t =
      let small = bit_at-lt (slice_index words (place (both_shapes left.shape right.shape) b t)) (t % 64) in
      elim (cases_lt (bit_of (both_shapes left.shape right.shape) words b t) 1) [
        | inl clear ↦ omega (arith, clear)
        | inr set ↦ (let h = (either_within b t ((joined_bit b t in_b in_t).0 (omega (arith, set, small)))).1 in absurd (omega (arith, h, beyond)))
      ]

  pub joined_pairs : (b t : ℕ) → Holds record { shape = both_shapes left.shape right.shape; words = words } b t ↔ HoldsEither left right b t
  joined_pairs b t = (
    λ h. (joined_bit b t h.0 (tests_within (both_shapes left.shape right.shape) t h.1)).0 h.2,
    λ h. let w = either_within b t h in (w.0, w.1, (joined_bit b t w.0 (tests_within (both_shapes left.shape right.shape) t w.1)).1 h),
  )
