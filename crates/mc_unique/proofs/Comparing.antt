-- Paths compared one by one.
use Rattle.std.proofs.Common.{◌≡◌, ◌≢◌, ℕ, ◌+◌, ◌<◌, ◌≤◌, Bool, true, false, not, Some, List, length, get_or, sym, ◌∙◌, subst, arith, inl, inr}
use Rattle.std.specs.Prelude.{◌↔◌, slice_get, bit_and, bit_xor, Contains}
use Rattle.std.specs.List.Sorted.{IsStrictlyIncreasing}
use Rattle.std.proofs.lemmas.Bool.{cases_lt}
use Rattle.std.proofs.lemmas.List.Elements.{Contains-get_or}
use Rattle.mc_cond.specs.Tree.{Tree, IsNumbered}
use Rattle.mc_cond.specs.Vectors.{Evaluation}
use Rattle.mc_paths.specs.Paths.{IsPath, IsInUse}
use Rattle.mc_paths.specs.Masks.{IsMaskOf, IsEvaluated, IsOn}
use Rattle.mc_pairs.specs.Pairs.{ArePaired, NonePaired, IsChosen, HasInfluenceAs, IsLeastWhere, turned}
use Rattle.mc_pairs.proofs.Turned.{AreOpposed, none_either}
use Rattle.mc_pairs.proofs.Least.{later_greater, place_of}
use Rattle.mc_unique.specs.Unique.{IsUniquePair}
use Rattle.mc_unique.specs.steps.Prefixes.{AreAlike}
use Rattle.mc_unique.proofs.Pairs.{turns, opposed, pair_outcomes}
use Rattle.mc_unique.proofs.Words.{masks_of_pair, pair_of_masks}
use Rattle.mc_unique.proofs.Ordering.{only, between_used, alike_ahead, first_of, second_of, alike_of}

module _ (t : Tree) (k : ℕ) (n : IsNumbered t) where
  -- a pair of vectors, of which the first has k true
  off_by : (v w : Evaluation) (x : Bool) → slice_get v.answers k ≡ Some (Some true) → slice_get v.answers k ≡ Some (Some x) → slice_get w.answers k ≡ Some (Some (not x)) → slice_get w.answers k ≡ Some (Some false)
  off_by v w true on e f = f
  off_by v w false on e f = let g : Some (Some true) ≡ Some (Some false) = sym on ∙ e in cc

  pub pair_exact : (p q : ℕ) (v w : Evaluation) → IsPath t p v → IsPath t q w → slice_get v.answers k ≡ Some (Some true)
      → IsUniquePair t k v w ↔ ArePaired (turned k (IsUniquePair t k)) t p q
  pair_exact p q v w is_v is_w on = (
    λ pair.
        let o : AreOpposed k v w = opposed t k n v w is_v.vector is_w.vector pair in
        record { v = v; w = w; first_path = is_v; second_path = is_w; shown = (on, off_by v w o.value on o.first o.second, pair) },
    λ x.
        let P : Evaluation → Type 0 = λ u. IsUniquePair t k u x.w in
        let Q : Evaluation → Type 0 = λ u. IsUniquePair t k v u in
        subst Q (only t k q x.w w x.second_path is_w) (subst P (only t k p x.v v x.first_path is_v) x.shown.2),
  )

  pub answer_on : (p : ℕ) (v : Evaluation) → IsPath t p v → HasInfluenceAs t k true p → slice_get v.answers k ≡ Some (Some true)
  answer_on p v is h =
      let P : Evaluation → Type 0 = λ u. slice_get u.answers k ≡ Some (Some true) in
      subst P (only t k p h.v v h.is_path is) h.answer

  -- by masks and outcomes
  module _ (p q : ℕ) (v w : Evaluation) (is_v : IsPath t p v) (is_w : IsPath t q w) (on : HasInfluenceAs t k true p) (a x b y : ℕ)
      (evaluated_v : IsMaskOf a (IsEvaluated v)) (value_v : IsMaskOf x (IsOn v)) (evaluated_w : IsMaskOf b (IsEvaluated w)) (value_w : IsMaskOf y (IsOn w)) where
    pub paired_by : IsMaskOf (bit_and (bit_xor x y) (bit_and a b)) (λ j. j ≡ k) → (o u : Bool) → o ≡ v.outcome → u ≡ w.outcome → o ≢ u → ArePaired (turned k (IsUniquePair t k)) t p q
    paired_by mask o u e f differ =
        (pair_exact p q v w is_v is_w (answer_on p v is_v on)).0
        (pair_of_masks t v w is_v.vector is_w.vector a x b y evaluated_v value_v evaluated_w value_w k n mask (λ same. differ (e ∙ same ∙ sym f)))

    pub mask_of_pair : ArePaired (turned k (IsUniquePair t k)) t p q → IsMaskOf (bit_and (bit_xor x y) (bit_and a b)) (λ j. j ≡ k)
    mask_of_pair pair =
        masks_of_pair t v w is_v.vector is_w.vector a x b y evaluated_v value_v evaluated_w value_w k n ((pair_exact p q v w is_v is_w (answer_on p v is_v on)).1 pair)

    pub outcomes_of_pair : ArePaired (turned k (IsUniquePair t k)) t p q → (o u : Bool) → o ≡ v.outcome → u ≡ w.outcome → o ≢ u
    outcomes_of_pair pair o u e f same =
        pair_outcomes t k v w n is_v.vector is_w.vector ((pair_exact p q v w is_v is_w (answer_on p v is_v on)).1 pair) (sym e ∙ same ∙ f)

  pub pair_ahead : (p q : ℕ) → ArePaired (turned k (IsUniquePair t k)) t p q → p < q
  pair_ahead p q x = alike_ahead t k p q (first_of t k n p q x) (second_of t k n p q x) (alike_of t k n p q x)

  module _ (seen : List ℕ) (up : IsStrictlyIncreasing seen) where
    not_later : (i j : ℕ) → i < length seen → j ≤ i → get_or seen j 0 ≤ get_or seen i 0
    not_later i j within low =
        elim (cases_lt j i) [
          | inl less ↦ (let h = later_greater seen j i up less within in omega (arith, h))
          | inr more ↦ (let P : ℕ → Type 0 = λ m. get_or seen m 0 ≤ get_or seen i 0 in let same : i ≡ j = omega (arith, low, more) in subst P same (omega arith))
        ]

    -- of one first path
    module _ (at : ℕ) (inside : at < length seen) where
      behind : (q j : ℕ) → j < length seen → get_or seen j 0 ≡ q → ArePaired (turned k (IsUniquePair t k)) t (get_or seen at 0) q → at < j
      behind q j within is pair =
          elim (cases_lt at j) [
            | inl less ↦ less
            | inr more ↦ (let h = not_later at j inside more in let a = pair_ahead (get_or seen at 0) q pair in absurd (omega (arith, h, a, is)))
          ]

      module _ (next : ℕ) (none : (m : ℕ) → at < m → m < next → ¬ ArePaired (turned k (IsUniquePair t k)) t (get_or seen at 0) (get_or seen m 0)) where
        from_next : (q : ℕ) → Contains seen q → ArePaired (turned k (IsUniquePair t k)) t (get_or seen at 0) q → (j : ℕ) × (j < length seen) × (get_or seen j 0 ≡ q) × (next ≤ j)
        from_next q h pair =
            let place : (j : ℕ) × (j < length seen) × (get_or seen j 0 ≡ q) = place_of seen q h in
            let P : ℕ → Type 0 = λ x. ArePaired (turned k (IsUniquePair t k)) t (get_or seen at 0) x in (
              place.0,
              place.1,
              place.2,
              elim (cases_lt place.0 next) [
                | inl less ↦ absurd (none place.0 (behind q place.0 place.1 place.2 pair) less (subst P (sym place.2) pair))
                | inr more ↦ more
              ],
            )

        pub partner_here : next < length seen → ArePaired (turned k (IsUniquePair t k)) t (get_or seen at 0) (get_or seen next 0)
            → IsLeastWhere (ArePaired (turned k (IsUniquePair t k)) t (get_or seen at 0)) seen (get_or seen next 0)
        partner_here within pair =
            record {
              among = Contains-get_or seen next 0 within;
              fits = pair;
              least = λ q h x.
                  let place = from_next q h x in
                  let low = not_later place.0 next place.1 place.3 in
                  let same = place.2 in
                  omega (arith, low, same);
            }

        pub partner_past : at ≤ next → next < length seen → IsInUse t (get_or seen next 0) → ¬ AreAlike t k (get_or seen at 0) (get_or seen next 0)
            → (q : ℕ) → Contains seen q → ¬ ArePaired (turned k (IsUniquePair t k)) t (get_or seen at 0) q
        partner_past after within used apart q h x =
            let place = from_next q h x in
            let low = not_later place.0 next place.1 place.3 in
            let first = not_later next at within after in
            let same = place.2 in
            apart (between_used t k (get_or seen at 0) (get_or seen next 0) q used (omega (arith, first)) (omega (arith, low, same)) (alike_of t k n (get_or seen at 0) q x))

        pub partner_none : length seen ≤ next → (q : ℕ) → Contains seen q → ¬ ArePaired (turned k (IsUniquePair t k)) t (get_or seen at 0) q
        partner_none all q h x = let place = from_next q h x in let l = place.1 in let m = place.3 in absurd (omega (arith, l, m, all))

        pub none_more : ¬ ArePaired (turned k (IsUniquePair t k)) t (get_or seen at 0) (get_or seen next 0)
            → (m : ℕ) → at < m → m < next + 1 → ¬ ArePaired (turned k (IsUniquePair t k)) t (get_or seen at 0) (get_or seen m 0)
        none_more here m after low =
            elim (cases_lt m next) [
              | inl less ↦ none m after less
              | inr more ↦ (let P : ℕ → Type 0 = λ i. ¬ ArePaired (turned k (IsUniquePair t k)) t (get_or seen at 0) (get_or seen i 0) in let same : next ≡ m = omega (arith, low, more) in subst P same here)
            ]

      -- where none has k false
      pub none_off : (off : ℕ) → ((m : ℕ) → at ≤ m → m < off → ¬ HasInfluenceAs t k false (get_or seen m 0))
          → (m : ℕ) → at < m → m < off → ¬ ArePaired (turned k (IsUniquePair t k)) t (get_or seen at 0) (get_or seen m 0)
      none_off off passed m after low x = passed m (omega (arith, after)) low (second_of t k n (get_or seen at 0) (get_or seen m 0) x)

    pub idle_unpaired : (p q : ℕ) → ¬ IsInUse t q → ¬ ArePaired (turned k (IsUniquePair t k)) t p q
    idle_unpaired p q idle x = idle (x.w, x.second_path)

    -- of all first paths
    module _ (at : ℕ) (none : (m : ℕ) → m < at → (q : ℕ) → Contains seen q → ¬ ArePaired (turned k (IsUniquePair t k)) t (get_or seen m 0) q) where
      pub chosen_here : at < length seen → (second : ℕ) → IsLeastWhere (ArePaired (turned k (IsUniquePair t k)) t (get_or seen at 0)) seen second
          → IsChosen (IsUniquePair t k) t seen k (get_or seen at 0) second
      chosen_here within second y =
          record {
            first_seen = Contains-get_or seen at 0 within;
            second_seen = y.among;
            paired = y.fits;
            least = λ p q p_seen q_seen x.
                let place : (j : ℕ) × (j < length seen) × (get_or seen j 0 ≡ p) = place_of seen p p_seen in
                let P : ℕ → Type 0 = λ m. ArePaired (turned k (IsUniquePair t k)) t m q in
                let R : ℕ → Type 0 = λ m. get_or seen at 0 < m in
                let S : ℕ → Type 0 = λ j. get_or seen j 0 ≡ p in
                elim (cases_lt place.0 at) [
                  | inl less ↦ absurd (none place.0 less q q_seen (subst P (sym place.2) x))
                  | inr more ↦ elim (cases_lt at place.0) [
                    | inl above ↦ inl (subst R place.2 (later_greater seen at place.0 up above place.1))
                    | inr below ↦
                        (let same : get_or seen at 0 ≡ p = subst S (omega (arith, more, below)) place.2 in
                        inr (same, y.least q q_seen (subst P (sym same) x)))
                  ]
                ];
          }

      pub none_here : length seen ≤ at → NonePaired (IsUniquePair t k) t seen
      none_here all =
          none_either (IsUniquePair t k) t k seen (opposed t k n) (turns t k)
          (λ p q p_seen q_seen x.
          let place : (j : ℕ) × (j < length seen) × (get_or seen j 0 ≡ p) = place_of seen p p_seen in
          let P : ℕ → Type 0 = λ m. ArePaired (turned k (IsUniquePair t k)) t m q in
          let l = place.1 in
          none place.0 (omega (arith, l, all)) q q_seen (subst P (sym place.2) x))

      pub none_next : ((q : ℕ) → Contains seen q → ¬ ArePaired (turned k (IsUniquePair t k)) t (get_or seen at 0) q)
          → (m : ℕ) → m < at + 1 → (q : ℕ) → Contains seen q → ¬ ArePaired (turned k (IsUniquePair t k)) t (get_or seen m 0) q
      none_next here m low =
          elim (cases_lt m at) [
            | inl less ↦ none m less
            | inr more ↦ (let P : ℕ → Type 0 = λ i. (q : ℕ) → Contains seen q → ¬ ArePaired (turned k (IsUniquePair t k)) t (get_or seen i 0) q in let same : at ≡ m = omega (arith, low, more) in subst P same here)
          ]

      pub none_without : ¬ HasInfluenceAs t k true (get_or seen at 0) → (q : ℕ) → Contains seen q → ¬ ArePaired (turned k (IsUniquePair t k)) t (get_or seen at 0) q
      none_without off q h x = off (first_of t k n (get_or seen at 0) q x)
