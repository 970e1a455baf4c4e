-- Unique-cause pairs by the answers of their vectors.
use Rattle.std.proofs.Common.{◌≡◌, ◌≢◌, ℕ, ◌<◌, Bool, true, false, not, ◌==◌, Option, Some, None, sym, ap, subst, refl, ◌∙◌, arith, inl, inr, ◌⊎◌}
use Rattle.std.specs.Prelude.{slice_get, if◌then◌else◌}
use Rattle.std.proofs.lemmas.Bool.{cases_lt}
use Rattle.std.proofs.lemmas.Option.{slice_get_within}
use Rattle.std.proofs.lemmas.Bool.Decides.{eqb_tells}
use Rattle.mc_cond.specs.Tree.{Tree, size, IsNumbered, IsShort}
use Rattle.mc_cond.specs.Vectors.{Row, Evaluation, flipped, evaluated, IsVector, IsCompletion}
use Rattle.mc_cond.specs.Influence.{HasInfluence}
use Rattle.mc_cond.proofs.Rows.{Agree, same_truth}
use Rattle.mc_cond.proofs.Completions.{completion_outcome, completion_vector}
use Rattle.mc_cond.proofs.Operands.{flip_at}
use Rattle.mc_cond.proofs.Flips.{other_value}
use Rattle.mc_cond.proofs.Reaching.{never_own}
use Rattle.mc_cond.proofs.Places.{alike_before}
use Rattle.mc_cond.proofs.Turning.{outcome_turns, behind_apart}
use Rattle.mc_cond.proofs.Lengths.{length_vector}
use Rattle.mc_cond.proofs.Evaluated.{evaluated_where}
use Rattle.mc_pairs.proofs.Turned.{AreOpposed}
use Rattle.mc_unique.specs.Unique.{IsUniquePair}
use Rattle.mc_unique.specs.Laws.{AlikeBefore, AlikeBehind}
use Rattle.mc_unique.specs.steps.Agreement.{AreCompatible, AgreeElsewhere}

pub turns : (t : Tree) (k : ℕ) (v w : Evaluation) → IsUniquePair t k v w → IsUniquePair t k w v
turns t k v w p =
    record { a = p.b; b = p.a; first = p.second; second = p.first; differ = λ e. p.differ (sym e); alike = λ j h n. sym (p.alike j h n); outcomes = λ e. p.outcomes (sym e) }

-- k is evaluated in both
pub evaluated_first : (t : Tree) (k : ℕ) (v w : Evaluation) → IsNumbered t → IsVector t v → (p : IsUniquePair t k v w) → slice_get v.answers k ≡ Some (Some (p.a k))
evaluated_first t k v w n is p = evaluated_where t k v p.a p.b n is p.first p.alike p.outcomes

pub evaluated_second : (t : Tree) (k : ℕ) (v w : Evaluation) → IsNumbered t → IsVector t w → (p : IsUniquePair t k v w) → slice_get w.answers k ≡ Some (Some (p.b k))
unfolding turns
evaluated_second t k v w n is p = evaluated_first t k w v n is (turns t k v w p)

pub opposed : (t : Tree) (k : ℕ) → IsNumbered t → (v w : Evaluation) → IsVector t v → IsVector t w → IsUniquePair t k v w → AreOpposed k v w
opposed t k n v w is_v is_w p =
    record { value = p.a k; first = evaluated_first t k v w n is_v p; second = evaluated_second t k v w n is_w p ∙ ap (λ x. Some (Some x)) (other_value (p.a k) (p.b k) p.differ) }

-- a pair agrees elsewhere, and its outcomes differ
alike_values : (a b : Bool) (x y : Option Bool) → ((z : Bool) → x ≡ Some z → a ≡ z) → ((z : Bool) → y ≡ Some z → b ≡ z) → a ≡ b → AreCompatible x y
alike_values a b (Some x) (Some y) f g e = sym (f x refl) ∙ e ∙ g y refl
alike_values a b (Some x) None f g e = tt
alike_values a b None y f g e = tt

pub pair_agrees : (t : Tree) (k : ℕ) (v w : Evaluation) → IsVector t v → IsUniquePair t k v w → AgreeElsewhere k v.answers w.answers
pair_agrees t k v w is p j other x y e f =
    let below : j < size t = let P : ℕ → Type 0 = λ n. j < n in subst P (length_vector t v is) (slice_get_within v.answers j x e) in
    alike_values (p.a j) (p.b j) x y (λ z h. p.first j z (e ∙ ap Some h)) (λ z h. p.second j z (f ∙ ap Some h)) (p.alike j below other)

pub pair_outcomes : (t : Tree) (k : ℕ) (v w : Evaluation) → IsNumbered t → IsVector t v → IsVector t w → IsUniquePair t k v w → v.outcome ≢ w.outcome
pair_outcomes t k v w n is_v is_w p e =
    p.outcomes (completion_outcome t v p.a n.in_order is_v p.first ∙ e ∙ sym (completion_outcome t w p.b n.in_order is_w p.second))

-- the completions of two vectors that agree elsewhere
known : Option (Option Bool) → Bool
known (Some (Some x)) = x
known (Some None) = false
known None = false

either : Option (Option Bool) → Option (Option Bool) → Bool
either (Some (Some x)) y = x
either (Some None) y = known y
either None y = known y

joint : Evaluation → Evaluation → ℕ → Bool → Row
joint v w k value j = if j == k then value else either (slice_get v.answers j) (slice_get w.answers j)

joint_at : (v w : Evaluation) (k : ℕ) (value : Bool) (j : ℕ) → ((j ≡ k) × (joint v w k value j ≡ value)) ⊎ ((j ≢ k) × (joint v w k value j ≡ either (slice_get v.answers j) (slice_get w.answers j)))
unfolding joint
joint_at v w k value j =
    let P : Bool → Bool = λ b. if b then value else either (slice_get v.answers j) (slice_get w.answers j) in
    elim (eqb_tells j k) [ inl same ↦ inl (same.1, ap P same.0) | inr other ↦ inr (other.1, ap P other.0) ]

either_first : (p q : Option (Option Bool)) (x : Bool) → p ≡ Some (Some x) → either p q ≡ x
unfolding either
either_first (Some (Some y)) q x e = cc
either_first (Some None) q x e = cc
either_first None q x e = cc

either_second : (p q : Option (Option Bool)) (y : Bool) → ((x : Bool) → p ≡ Some (Some x) → x ≡ y) → q ≡ Some (Some y) → either p q ≡ y
unfolding either known
either_second (Some (Some x)) q y same e = same x refl
either_second (Some None) (Some (Some z)) y same e = cc
either_second (Some None) (Some None) y same e = cc
either_second (Some None) None y same e = cc
either_second None (Some (Some z)) y same e = cc
either_second None (Some None) y same e = cc
either_second None None y same e = cc

joint_first : (v w : Evaluation) (k : ℕ) (value : Bool) → slice_get v.answers k ≡ Some (Some value) → IsCompletion v (joint v w k value)
joint_first v w k value on j x e =
    elim (joint_at v w k value j) [
      | inl same ↦ (let f : Some (Some value) ≡ Some (Some x) = sym on ∙ (let P : ℕ → Type 0 = λ n. slice_get v.answers n ≡ Some (Some x) in subst P same.0 e) in same.1 ∙ (cc))
      | inr other ↦ other.1 ∙ either_first (slice_get v.answers j) (slice_get w.answers j) x e
    ]

joint_second : (v w : Evaluation) (k : ℕ) (value : Bool) → slice_get w.answers k ≡ Some (Some value) → AgreeElsewhere k v.answers w.answers → IsCompletion w (joint v w k value)
joint_second v w k value off agree j y e =
    elim (joint_at v w k value j) [
      | inl same ↦ (let f : Some (Some value) ≡ Some (Some y) = sym off ∙ (let P : ℕ → Type 0 = λ n. slice_get w.answers n ≡ Some (Some y) in subst P same.0 e) in same.1 ∙ (cc))
      | inr other ↦ other.1 ∙ either_second (slice_get v.answers j) (slice_get w.answers j) y (λ x f. agree j other.0 (Some x) (Some y) f e) e
    ]

joint_alike : (v w : Evaluation) (k : ℕ) (x y : Bool) (j : ℕ) → j ≢ k → joint v w k x j ≡ joint v w k y j
joint_alike v w k x y j other =
    elim (joint_at v w k x j) [
      | inl same ↦ absurd (other same.0)
      | inr one ↦ elim (joint_at v w k y j) [ inl same ↦ absurd (other same.0) | inr two ↦ one.1 ∙ sym two.1 ]
    ]

joint_own : (v w : Evaluation) (k : ℕ) (x : Bool) → joint v w k x k ≡ x
joint_own v w k x = elim (joint_at v w k x k) [ inl same ↦ same.1 | inr other ↦ absurd (other.0 refl) ]

true_false : true ≢ false
true_false e = cc

-- two vectors that agree elsewhere, with k true and false and different outcomes, are a pair
pub pair_by : (t : Tree) (k : ℕ) (v w : Evaluation) → IsNumbered t → IsVector t v → IsVector t w
    → slice_get v.answers k ≡ Some (Some true) → slice_get w.answers k ≡ Some (Some false)
    → v.outcome ≢ w.outcome → AgreeElsewhere k v.answers w.answers → IsUniquePair t k v w
pair_by t k v w n is_v is_w on off outcomes agree =
    let fits_v : IsCompletion v (joint v w k true) = joint_first v w k true on in
    let fits_w : IsCompletion w (joint v w k false) = joint_second v w k false off agree in
    record {
      a = joint v w k true;
      b = joint v w k false;
      first = fits_v;
      second = fits_w;
      differ = λ e. true_false (sym (joint_own v w k true) ∙ e ∙ joint_own v w k false);
      alike = λ j h other. joint_alike v w k true false j other;
      outcomes = λ e. outcomes (sym (completion_outcome t v (joint v w k true) n.in_order is_v fits_v) ∙ e ∙ completion_outcome t w (joint v w k false) n.in_order is_w fits_w);
    }

-- a pair by the answers before k and the influence of k
module _ (t : Tree) (k : ℕ) (v w : Evaluation) (n : IsNumbered t) (is_v : IsVector t v) (is_w : IsVector t w) (p : IsUniquePair t k v w) where
  below_size : k < size t
  below_size = let P : ℕ → Type 0 = λ m. k < m in subst P (length_vector t v is_v) (slice_get_within v.answers k (Some (p.a k)) (evaluated_first t k v w n is_v p))

  pub pair_prefix : AlikeBefore k v w
  pair_prefix j lt =
      let rows : Agree 0 k p.a p.b = λ i low high. p.alike i (omega (arith, high, below_size)) (λ e. let f : ⊥ = omega (arith, high, e) in f) in
      let P : Evaluation → Type 0 = λ u. slice_get u.answers j ≡ slice_get w.answers j in
      let Q : Evaluation → Type 0 = λ u. slice_get (evaluated t p.a).answers j ≡ slice_get u.answers j in
      subst P (completion_vector t v p.a n.in_order is_v p.first) (subst Q (completion_vector t w p.b n.in_order is_w p.second) (alike_before t 0 k p.a p.b n.in_order rows j lt))

  pub first_influence : HasInfluence t k v
  first_influence =
      let rows : Agree 0 (size t) (flipped k p.a) p.b = λ i low high.
      elim (flip_at k p.a i) [
        | inl same ↦ (let P : ℕ → Type 0 = λ m. flipped k p.a i ≡ p.b m in
            let turn : p.b k ≡ not (p.a k) = other_value (p.a k) (p.b k) p.differ in
            let Q : ℕ → Type 0 = λ m. flipped k p.a i ≡ not (p.a m) in
            subst P (sym same.0) (subst Q same.0 same.1 ∙ sym turn))
        | inr other ↦ other.1 ∙ p.alike i (omega (arith, high)) other.0
      ] in
      record { row = p.a; completion = p.first; changes = λ e. p.outcomes (sym e ∙ same_truth t 0 (flipped k p.a) p.b n.in_order rows) }

pub second_influence : (t : Tree) (k : ℕ) (v w : Evaluation) → IsNumbered t → IsVector t v → IsVector t w → IsUniquePair t k v w → HasInfluence t k w
unfolding turns
second_influence t k v w n is_v is_w p = first_influence t k w v n is_w is_v (turns t k v w p)

same_compatible : (x y : Option Bool) → x ≡ y → AreCompatible x y
same_compatible (Some x) (Some y) e = cc
same_compatible (Some x) None e = cc
same_compatible None y e = tt

pub pair_behind : (t : Tree) (k : ℕ) (v w : Evaluation) → IsVector t v → IsUniquePair t k v w → AlikeBehind k v w
pair_behind t k v w is_v p j x y after e f =
    same_of x y (pair_agrees t k v w is_v p j (λ same. let g : ⊥ = omega (arith, after, same) in g) (Some x) (Some y) e f) where
      same_of : (x y : Bool) → AreCompatible (Some x) (Some y) → x ≡ y
      same_of x y h = h

-- equal answers before k, and behind it wherever both were evaluated
pub agree_by : (k : ℕ) (v w : Evaluation) → AlikeBefore k v w → AlikeBehind k v w → AgreeElsewhere k v.answers w.answers
agree_by k v w before behind j other a b e f =
    elim (cases_lt j k) [
      | inl low ↦ (let g : Some a ≡ Some b = sym e ∙ before j low ∙ f in same_compatible a b (cc))
      | inr high ↦ behind_compatible a b (λ c d h i. behind j c d
          (let apart : j ≢ k = other in elim (cases_lt k j) [ inl less ↦ less | inr more ↦ (let same : j ≡ k = omega (arith, high, more) in absurd (apart same)) ])
          (e ∙ ap Some h) (f ∙ ap Some i))
    ]
  where
    behind_compatible : (x y : Option Bool) → ((c d : Bool) → x ≡ Some c → y ≡ Some d → c ≡ d) → AreCompatible x y
    behind_compatible (Some x) (Some y) same = same x y refl refl
    behind_compatible (Some x) None same = tt
    behind_compatible None y same = tt

-- in a decision without operators that are evaluated in full
pub pair_of : (t : Tree) (k : ℕ) (v w : Evaluation) → IsShort t → IsNumbered t → IsVector t v → IsVector t w
    → slice_get v.answers k ≡ Some (Some true) → slice_get w.answers k ≡ Some (Some false)
    → AlikeBefore k v w → HasInfluence t k v → HasInfluence t k w → IsUniquePair t k v w
pair_of t k v w short n is_v is_w on off alike x y =
    pair_by t k v w n is_v is_w on off
    (λ e. never_own w.outcome (sym e ∙ outcome_turns t k v w short n is_v is_w false on off x y))
    (agree_by k v w alike (λ j c d after e f. absurd (behind_apart t k v w short n is_v is_w false on off x y j c d after e f)))
