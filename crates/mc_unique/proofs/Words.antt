-- Unique-cause pairs and equal prefixes by masks.
use Rattle.std.proofs.Common.{◌≡◌, ◌≢◌, ℕ, ◌-◌, ◌*◌, ◌%◌, ◌^◌, ◌<◌, Bool, true, false, not, ◌==◌, Option, Some, None, refl, sym, ap, ◌∙◌, subst, arith, inl, inr}
use Rattle.std.specs.Prelude.{◌↔◌, IsTrue, slice_get, bit_and, bit_xor, get_or}
use Rattle.std.specs.Int.{bit_at}
use Rattle.std.proofs.lemmas.Option.{slice_get-get_or}
use Rattle.std.proofs.lemmas.Nat.Bits.{bit_at_and, bit_at_xor, bit_at-lt, bit_at-zero, bit_at_ones, bit_at_ones_above, bit_at-pow_same, bit_at-pow_other, same_from_bits}
use Rattle.std.proofs.lemmas.Nat.{one_shl}
use Rattle.std.proofs.lemmas.Bool.Decides.{Decides-eqb}
use Rattle.std.proofs.lemmas.Bool.{cases_lt}
use native.Mathlib.Decide.{ℕ_discrete}
use mathlib.Core.Logic.{dite}
use Rattle.mc_cond.specs.Tree.{Tree, size, IsNumbered}
use Rattle.mc_cond.specs.Vectors.{Evaluation, IsVector}
use Rattle.mc_cond.proofs.Lengths.{length_vector}
use Rattle.mc_pairs.proofs.Turned.{AreOpposed}
use Rattle.mc_paths.specs.Masks.{IsMaskOf, IsEvaluated, IsOn}
use Rattle.mc_unique.specs.Laws.{AlikeBefore}
use Rattle.mc_unique.specs.Unique.{IsUniquePair}
use Rattle.mc_unique.specs.steps.Agreement.{AreCompatible, AgreeElsewhere}
use Rattle.mc_unique.proofs.Pairs.{turns, opposed, pair_by, pair_agrees}

-- ---- equal bits below a place

pub below_zero : (m n k : ℕ) → bit_and (bit_xor m n) (2 ^ k - 1) ≡ 0 → (j : ℕ) → j < k → bit_at m j ≡ bit_at n j
below_zero m n k e j lt =
    let P : ℕ → ℕ = λ w. bit_at w j in
    let none : bit_at (bit_and (bit_xor m n) (2 ^ k - 1)) j ≡ 0 = ap P e ∙ bit_at-zero j in
    omega (arith, none, bit_at_and (bit_xor m n) (2 ^ k - 1) j, bit_at_ones k j lt, bit_at_xor m n j, bit_at-lt m j, bit_at-lt n j)

pub zero_below : (m n k : ℕ) → ((j : ℕ) → j < k → bit_at m j ≡ bit_at n j) → bit_and (bit_xor m n) (2 ^ k - 1) ≡ 0
zero_below m n k same =
    same_from_bits (bit_and (bit_xor m n) (2 ^ k - 1)) 0
    (λ j. elim (cases_lt j k) [
      | inl low ↦ (let e = same j low in omega (arith, e, bit_at_and (bit_xor m n) (2 ^ k - 1) j, bit_at_xor m n j, bit_at-lt n j, bit_at-zero j))
      | inr high ↦ omega (arith, bit_at_and (bit_xor m n) (2 ^ k - 1) j, bit_at_ones_above k j high, bit_at-zero j)
    ])

pub bits_below : (m n k : ℕ) → k < 64 → IsTrue (bit_and (bit_xor m n) (1 * 2 ^ k % 2 ^ 64 - 1) == 0) ↔ ((j : ℕ) → j < k → bit_at m j ≡ bit_at n j)
bits_below m n k few =
    let decides = Decides-eqb (bit_and (bit_xor m n) (1 * 2 ^ k % 2 ^ 64 - 1)) 0 in
    let P : ℕ → ℕ = λ w. bit_and (bit_xor m n) (w - 1) in
    let same : bit_and (bit_xor m n) (1 * 2 ^ k % 2 ^ 64 - 1) ≡ bit_and (bit_xor m n) (2 ^ k - 1) = ap P (one_shl k 64 few) in
    (λ h. below_zero m n k (sym same ∙ decides.0 h), λ h. decides.1 (same ∙ zero_below m n k h))

-- ---- one bit alone

same_bit : (m n j : ℕ) → (bit_at m j ≡ 1 → bit_at n j ≡ 1) → (bit_at n j ≡ 1 → bit_at m j ≡ 1) → bit_at m j ≡ bit_at n j
same_bit m n j f g =
    dite (ℕ_discrete (bit_at m j) 1) (λ e. e ∙ sym (f e))
    (λ unset. dite (ℕ_discrete (bit_at n j) 1) (λ e. absurd (unset (g e))) (λ nor. omega (arith, unset, nor, bit_at-lt m j, bit_at-lt n j)))

power_mask : (w k : ℕ) → w ≡ 2 ^ k → IsMaskOf w (λ j. j ≡ k)
power_mask w k e j =
    let P : ℕ → ℕ = λ x. bit_at x j in
    let at : bit_at w j ≡ bit_at (2 ^ k) j = ap P e in (
      λ h. dite (ℕ_discrete j k) (λ same. same) (λ other. absurd (omega (arith, h, at, bit_at-pow_other k j other))),
      λ same. let R : ℕ → Type 0 = λ i. bit_at (2 ^ k) i ≡ 1 in at ∙ subst R (sym same) (bit_at-pow_same k),
    )

mask_power : (w k : ℕ) → IsMaskOf w (λ j. j ≡ k) → w ≡ 2 ^ k
mask_power w k mask =
    same_from_bits w (2 ^ k) (λ j. let own = power_mask (2 ^ k) k refl j in same_bit w (2 ^ k) j (λ h. own.1 ((mask j).0 h)) (λ h. (mask j).1 (own.0 h)))

pub bit_alone : (w k : ℕ) → k < 64 → IsTrue (w == 1 * 2 ^ k % 2 ^ 64) ↔ IsMaskOf w (λ j. j ≡ k)
bit_alone w k few =
    let decides = Decides-eqb w (1 * 2 ^ k % 2 ^ 64) in
    let same : 1 * 2 ^ k % 2 ^ 64 ≡ 2 ^ k = one_shl k 64 few in
    (λ h. power_mask w k (decides.0 h ∙ same), λ h. decides.1 (mask_power w k h ∙ sym same))

-- ---- equal answers by equal bits

same_answer : (x y : Option Bool) → ((a : Bool) → x ≡ Some a → (b : Bool) × (y ≡ Some b)) → ((b : Bool) → y ≡ Some b → (a : Bool) × (x ≡ Some a)) → (x ≡ Some true → y ≡ Some true) → (y ≡ Some true → x ≡ Some true) → x ≡ y
same_answer None None f g on back = refl
same_answer None (Some b) f g on back = let h = (g b refl).1 in cc
same_answer (Some a) None f g on back = let h = (f a refl).1 in cc
same_answer (Some true) (Some true) f g on back = refl
same_answer (Some true) (Some false) f g on back = sym (on refl)
same_answer (Some false) (Some true) f g on back = back refl
same_answer (Some false) (Some false) f g on back = refl

module _ (t : Tree) (v w : Evaluation) (is_v : IsVector t v) (is_w : IsVector t w) (a x b y : ℕ) (evaluated_v : IsMaskOf a (IsEvaluated v)) (value_v : IsMaskOf x (IsOn v))
    (evaluated_w : IsMaskOf b (IsEvaluated w)) (value_w : IsMaskOf y (IsOn w)) where
  answer_at : (u : Evaluation) → IsVector t u → (j : ℕ) → j < size t → slice_get u.answers j ≡ Some (get_or u.answers j None)
  answer_at u is j low = slice_get-get_or u.answers j None (let P : ℕ → Type 0 = λ n. j < n in subst P (sym (length_vector t u is)) low)

  pub alike_by : (k : ℕ) → k < size t → ((j : ℕ) → j < k → bit_at a j ≡ bit_at b j) → ((j : ℕ) → j < k → bit_at x j ≡ bit_at y j) → AlikeBefore k v w
  alike_by k few same equal j lt =
      let first = answer_at v is_v j (omega (arith, lt, few)) in
      let second = answer_at w is_w j (omega (arith, lt, few)) in
      let one : Option Bool = get_or v.answers j None in
      let other : Option Bool = get_or w.answers j None in
      first ∙ ap Some (same_answer one other
      (λ c e. let h = (evaluated_w j).0 (sym (same j lt) ∙ (evaluated_v j).1 (c, first ∙ ap Some e)) in (h.0, (let f : Some other ≡ Some (Some h.0) = sym second ∙ h.1 in cc)))
      (λ c e. let h = (evaluated_v j).0 (same j lt ∙ (evaluated_w j).1 (c, second ∙ ap Some e)) in (h.0, (let f : Some one ≡ Some (Some h.0) = sym first ∙ h.1 in cc)))
      (λ e. let h = (value_w j).0 (sym (equal j lt) ∙ (value_v j).1 (first ∙ ap Some e)) in let f : Some other ≡ Some (Some true) = sym second ∙ h in cc)
      (λ e. let h = (value_v j).0 (equal j lt ∙ (value_w j).1 (second ∙ ap Some e)) in let f : Some one ≡ Some (Some true) = sym first ∙ h in cc))
      ∙ sym second

  pub evaluated_alike : (k : ℕ) → AlikeBefore k v w → (j : ℕ) → j < k → bit_at a j ≡ bit_at b j
  evaluated_alike k alike j lt =
      same_bit a b j (λ e. let h = (evaluated_v j).0 e in (evaluated_w j).1 (h.0, sym (alike j lt) ∙ h.1)) (λ e. let h = (evaluated_w j).0 e in (evaluated_v j).1 (h.0, alike j lt ∙ h.1))

  pub value_alike : (k : ℕ) → AlikeBefore k v w → (j : ℕ) → j < k → bit_at x j ≡ bit_at y j
  value_alike k alike j lt =
      same_bit x y j (λ e. (value_w j).1 (sym (alike j lt) ∙ (value_v j).0 e)) (λ e. (value_v j).1 (alike j lt ∙ (value_w j).0 e))

  -- ---- pairs

  both : ℕ
  both = bit_and (bit_xor x y) (bit_and a b)

  both_set : (j : ℕ) → bit_at a j ≡ 1 → bit_at b j ≡ 1 → bit_at x j ≢ bit_at y j → bit_at (bit_and (bit_xor x y) (bit_and a b)) j ≡ 1
  both_set j e f other = omega (arith, e, f, other, bit_at_and (bit_xor x y) (bit_and a b) j, bit_at_and a b j, bit_at_xor x y j, bit_at-lt x j, bit_at-lt y j)

  set_both : (j : ℕ) → bit_at (bit_and (bit_xor x y) (bit_and a b)) j ≡ 1 → (bit_at a j ≡ 1) × (bit_at b j ≡ 1) × (bit_at x j ≢ bit_at y j)
  set_both j h = (
    omega (arith, h, bit_at_and (bit_xor x y) (bit_and a b) j, bit_at_and a b j, bit_at-lt a j, bit_at-lt b j),
    omega (arith, h, bit_at_and (bit_xor x y) (bit_and a b) j, bit_at_and a b j, bit_at-lt a j, bit_at-lt b j),
    λ e. absurd (omega (arith, h, e, bit_at_and (bit_xor x y) (bit_and a b) j, bit_at_xor x y j, bit_at-lt y j)),
  )

  values_differ : (j : ℕ) (c d : Bool) → slice_get v.answers j ≡ Some (Some c) → slice_get w.answers j ≡ Some (Some d) → c ≢ d → bit_at x j ≢ bit_at y j
  values_differ j true true e f other same = other refl
  values_differ j false false e f other same = other refl
  values_differ j true false e f other same = let g : Some (Some false) ≡ Some (Some true) = sym f ∙ (value_w j).0 (sym same ∙ (value_v j).1 e) in cc
  values_differ j false true e f other same = let g : Some (Some false) ≡ Some (Some true) = sym e ∙ (value_v j).0 (same ∙ (value_w j).1 f) in cc

  differ_values : (j : ℕ) (c d : Bool) → slice_get v.answers j ≡ Some (Some c) → slice_get w.answers j ≡ Some (Some d) → bit_at x j ≢ bit_at y j → d ≡ not c
  differ_values j true false e f other = refl
  differ_values j false true e f other = refl
  differ_values j true true e f other = absurd (other ((value_v j).1 e ∙ sym ((value_w j).1 f)))
  differ_values j false false e f other =
      absurd (other (same_bit x y j (λ h. let g : Some (Some false) ≡ Some (Some true) = sym e ∙ (value_v j).0 h in cc) (λ h. let g : Some (Some false) ≡ Some (Some true) = sym f ∙ (value_w j).0 h in cc)))

  opposite : (c : Bool) → c ≢ not c
  opposite true e = cc
  opposite false e = cc

  unlike : (p q : Option Bool) → ((c d : Bool) → p ≡ Some c → q ≡ Some d → c ≢ d → ⊥) → AreCompatible p q
  unlike (Some true) (Some true) never = refl
  unlike (Some false) (Some false) never = refl
  unlike (Some true) (Some false) never = absurd (never true false refl refl (λ e. cc))
  unlike (Some false) (Some true) never = absurd (never false true refl refl (λ e. cc))
  unlike (Some c) None never = tt
  unlike None q never = tt

  compatible_same : (c d : Bool) → AreCompatible (Some c) (Some d) → c ≡ d
  compatible_same c d h = h

  module _ (k : ℕ) (n : IsNumbered t) where
    pub masks_of_pair : IsUniquePair t k v w → IsMaskOf (bit_and (bit_xor x y) (bit_and a b)) (λ j. j ≡ k)
    masks_of_pair p j =
        let o : AreOpposed k v w = opposed t k n v w is_v is_w p in (
          λ h.
              let s = set_both j h in
              let first = (evaluated_v j).0 s.0 in
              let second = (evaluated_w j).0 s.1 in
              dite (ℕ_discrete j k) (λ e. e)
              (λ other.
              let agree : AreCompatible (Some first.0) (Some second.0) = pair_agrees t k v w is_v p j other (Some first.0) (Some second.0) first.1 second.1 in
              let turn : second.0 ≡ not first.0 = differ_values j first.0 second.0 first.1 second.1 s.2 in
              absurd (opposite first.0 (compatible_same first.0 second.0 agree ∙ turn))),
          λ e.
              let P : ℕ → Type 0 = λ i. bit_at (bit_and (bit_xor x y) (bit_and a b)) i ≡ 1 in
              subst P (sym e) (both_set k ((evaluated_v k).1 (o.value, o.first)) ((evaluated_w k).1 (not o.value, o.second)) (values_differ k o.value (not o.value) o.first o.second (opposite o.value))),
        )

    agree_by : IsMaskOf (bit_and (bit_xor x y) (bit_and a b)) (λ j. j ≡ k) → AgreeElsewhere k v.answers w.answers
    agree_by mask j other p q e f =
        unlike p q (λ c d g h apart. other ((mask j).0 (both_set j ((evaluated_v j).1 (c, e ∙ ap Some g)) ((evaluated_w j).1 (d, f ∙ ap Some h)) (values_differ j c d (e ∙ ap Some g) (f ∙ ap Some h) apart))))

    agree_back : AgreeElsewhere k v.answers w.answers → AgreeElsewhere k w.answers v.answers
    agree_back agree j other p q e f = back q p (agree j other q p f e) where
      back : (q p : Option Bool) → AreCompatible q p → AreCompatible p q
      back (Some c) (Some d) h = sym h
      back (Some c) None h = tt
      back None (Some d) h = tt
      back None None h = tt

    pair_where : (c d : Bool) → slice_get v.answers k ≡ Some (Some c) → slice_get w.answers k ≡ Some (Some d) → d ≡ not c → v.outcome ≢ w.outcome → AgreeElsewhere k v.answers w.answers → IsUniquePair t k v w
    pair_where true false e f turn outcomes agree = pair_by t k v w n is_v is_w e f outcomes agree
    pair_where false true e f turn outcomes agree = turns t k w v (pair_by t k w v n is_w is_v f e (λ same. outcomes (sym same)) (agree_back agree))
    pair_where true true e f turn outcomes agree = cc
    pair_where false false e f turn outcomes agree = cc

    pub pair_of_masks : IsMaskOf (bit_and (bit_xor x y) (bit_and a b)) (λ j. j ≡ k) → v.outcome ≢ w.outcome → IsUniquePair t k v w
    pair_of_masks mask outcomes =
        let s = set_both k ((mask k).1 refl) in
        let first = (evaluated_v k).0 s.0 in
        let second = (evaluated_w k).0 s.1 in
        pair_where first.0 second.0 first.1 second.1 (differ_values k first.0 second.0 first.1 second.1 s.2) outcomes (agree_by mask)
