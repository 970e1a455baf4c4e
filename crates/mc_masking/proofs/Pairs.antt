-- Pairs by masking: what the search finds is what the definition names.
use Rattle.std.proofs.Common.{◌≡◌, ◌≢◌, ℕ, ◌<◌, ◌≤◌, Bool, true, false, not, Some, List, arith, refl, sym, ap, subst, ◌∙◌, inl, inr, ◌⊎◌}
use mathlib.Core.Bool.{beq}
use Rattle.std.specs.Prelude.{◌↔◌, IsTrue, slice_get, Contains}
use Rattle.std.specs.Int.{bit_at}
use Rattle.std.proofs.lemmas.Bool.{cases_lt}
use Rattle.std.proofs.lemmas.Nat.Bits.{bit_at-lt}
use Rattle.mc_cond.specs.Tree.{Tree, IsNumbered, IsShort}
use Rattle.mc_cond.specs.Vectors.{Evaluation, IsVector}
use Rattle.mc_cond.specs.Influence.{HasInfluence}
use Rattle.mc_cond.proofs.Flips.{evaluated_with, other_value}
use Rattle.mc_cond.proofs.Reaching.{never_own}
use Rattle.mc_cond.proofs.Turning.{outcome_turns}
use Rattle.mc_paths.specs.Masks.{IsMaskOf, IsOn}
use Rattle.mc_paths.specs.Paths.{IsPath}
use Rattle.mc_paths.proofs.Numbers.{vector_once}
use Rattle.mc_pairs.specs.Pairs.{ArePaired, NonePaired, IsChosen, HasInfluenceAs, turned}
use Rattle.mc_pairs.proofs.Turned.{AreOpposed, none_either}
use Rattle.mc_pairs.proofs.Influential.{beq_same}
use Rattle.mc_masking.specs.Masking.{IsMaskingPair}
use Rattle.mc_masking.specs.Laws.{HasInfluenceTo, IsLeastSeen, IsLeastSeenTo}

pub turns : (t : Tree) (k : ℕ) (v w : Evaluation) → IsMaskingPair t k v w → IsMaskingPair t k w v
turns t k v w p =
    record { outcomes = λ e. p.outcomes (sym e); a = p.b; b = p.a; first = p.second; second = p.first; differ = λ e. p.differ (sym e); first_changes = p.second_changes; second_changes = p.first_changes }

pub opposed : (t : Tree) (k : ℕ) → IsNumbered t → (v w : Evaluation) → IsVector t v → IsVector t w → IsMaskingPair t k v w → AreOpposed k v w
opposed t k n v w is_v is_w p =
    record {
      value = p.a k;
      first = evaluated_with t k v p.a n is_v p.first p.first_changes;
      second = evaluated_with t k w p.b n is_w p.second p.second_changes ∙ ap (λ x. Some (Some x)) (other_value (p.a k) (p.b k) p.differ);
    }

pub first_influence : (t : Tree) (k : ℕ) (v w : Evaluation) → IsMaskingPair t k v w → HasInfluence t k v
first_influence t k v w p = record { row = p.a; completion = p.first; changes = p.first_changes }

pub second_influence : (t : Tree) (k : ℕ) (v w : Evaluation) → IsMaskingPair t k v w → HasInfluence t k w
second_influence t k v w p = record { row = p.b; completion = p.second; changes = p.second_changes }

opposite_values : (x y : Bool) → x ≡ true → y ≡ false → x ≢ y
opposite_values x y e f same = let g : true ≡ false = sym e ∙ same ∙ f in cc

pub pair_by : (t : Tree) (k : ℕ) (v w : Evaluation) → slice_get v.answers k ≡ Some (Some true) → slice_get w.answers k ≡ Some (Some false)
    → v.outcome ≢ w.outcome → HasInfluence t k v → HasInfluence t k w → IsMaskingPair t k v w
pair_by t k v w on off outcomes x y =
    record {
      outcomes = outcomes;
      a = x.row;
      b = y.row;
      first = x.completion;
      second = y.completion;
      differ = opposite_values (x.row k) (y.row k) (x.completion k true on) (y.completion k false off);
      first_changes = x.changes;
      second_changes = y.changes;
    }

-- a pair by influence alone
apart : (x y : Bool) → x ≡ not y → x ≢ y
apart x y e same = never_own y (sym same ∙ e)

influence_apart : (t : Tree) (k : ℕ) (v w : Evaluation) → IsShort t → IsNumbered t → IsVector t v → IsVector t w → slice_get v.answers k ≡ Some (Some true) → slice_get w.answers k ≡ Some (Some false)
    → HasInfluence t k v → HasInfluence t k w → v.outcome ≢ w.outcome
influence_apart t k v w short n is_v is_w on off x y = apart v.outcome w.outcome (outcome_turns t k v w short n is_v is_w false on off x y)

-- with other values of k, in either order
pub outcomes_apart : (t : Tree) (k : ℕ) (v w : Evaluation) → IsShort t → IsNumbered t → IsVector t v → IsVector t w → (p q : Bool) → slice_get v.answers k ≡ Some (Some p) → slice_get w.answers k ≡ Some (Some q) → p ≢ q
    → HasInfluence t k v → HasInfluence t k w → v.outcome ≢ w.outcome
outcomes_apart t k v w short n is_v is_w true false e f differ x y = influence_apart t k v w short n is_v is_w e f x y
outcomes_apart t k v w short n is_v is_w false true e f differ x y = λ same. influence_apart t k w v short n is_w is_v f e y x (sym same)
outcomes_apart t k v w short n is_v is_w true true e f differ x y = absurd (differ refl)
outcomes_apart t k v w short n is_v is_w false false e f differ x y = absurd (differ refl)

pub pair_of : (t : Tree) (k : ℕ) (v w : Evaluation) → IsShort t → IsNumbered t → IsVector t v → IsVector t w → slice_get v.answers k ≡ Some (Some true) → slice_get w.answers k ≡ Some (Some false)
    → HasInfluence t k v → HasInfluence t k w → IsMaskingPair t k v w
pair_of t k v w short n is_v is_w on off x y = pair_by t k v w on off (influence_apart t k v w short n is_v is_w on off x y) x y

-- a pair by masks
module _ (t : Tree) (k : ℕ) (v w : Evaluation) (n : IsNumbered t) (is_v : IsVector t v) (is_w : IsVector t w) (a b : ℕ) (mask_v : IsMaskOf a (IsOn v)) (mask_w : IsMaskOf b (IsOn w)) where
  values_differ : (x : Bool) → slice_get v.answers k ≡ Some (Some x) → slice_get w.answers k ≡ Some (Some (not x)) → bit_at a k ≢ bit_at b k
  values_differ true e f same = let g : Some (Some false) ≡ Some (Some true) = sym f ∙ (mask_w k).0 (sym same ∙ (mask_v k).1 e) in cc
  values_differ false e f same = let g : Some (Some false) ≡ Some (Some true) = sym e ∙ (mask_v k).0 (same ∙ (mask_w k).1 f) in cc

  clear : (m : ℕ) (u : Evaluation) → IsMaskOf m (IsOn u) → slice_get u.answers k ≡ Some (Some false) → bit_at m k ≡ 0
  clear m u mask off =
      let unset : bit_at m k ≢ 1 = λ set. (let g : Some (Some false) ≡ Some (Some true) = sym off ∙ (mask k).0 set in cc) in
      elim (cases_lt (bit_at m k) 1) [ inl low ↦ omega (arith, low) | inr high ↦ absurd (unset (omega (arith, high, bit_at-lt m k))) ]

  pub pair_where : (p q : Bool) → slice_get v.answers k ≡ Some (Some p) → slice_get w.answers k ≡ Some (Some q) → bit_at a k ≢ bit_at b k → v.outcome ≢ w.outcome → HasInfluence t k v → HasInfluence t k w → IsMaskingPair t k v w
  pair_where true false e f differ outcomes x y = pair_by t k v w e f outcomes x y
  pair_where false true e f differ outcomes x y = turns t k w v (pair_by t k w v f e (λ same. outcomes (sym same)) y x)
  pair_where true true e f differ outcomes x y = absurd (differ ((mask_v k).1 e ∙ sym ((mask_w k).1 f)))
  pair_where false false e f differ outcomes x y = absurd (differ (clear a v mask_v e ∙ sym (clear b w mask_w f)))

  pub values_apart : (p q : Bool) → slice_get v.answers k ≡ Some (Some p) → slice_get w.answers k ≡ Some (Some q) → bit_at a k ≢ bit_at b k → p ≢ q
  values_apart true true e f differ same = differ ((mask_v k).1 e ∙ sym ((mask_w k).1 f))
  values_apart false false e f differ same = differ (clear a v mask_v e ∙ sym (clear b w mask_w f))
  values_apart true false e f differ same = cc
  values_apart false true e f differ same = cc

  pub pair_differs : IsMaskingPair t k v w → bit_at a k ≢ bit_at b k
  pair_differs p = let o : AreOpposed k v w = opposed t k n v w is_v is_w p in values_differ o.value o.first o.second

-- an outcome is the one or the other
same_or : (x o : Bool) → (x ≡ o) ⊎ (x ≡ not o)
same_or true true = inl refl
same_or true false = inr refl
same_or false true = inr refl
same_or false false = inl refl

pub other_of : (x y o : Bool) → x ≢ y → x ≡ o → y ≡ not o
other_of true true o differ e = absurd (differ refl)
other_of true false o differ e = ap not e
other_of false true o differ e = ap not e
other_of false false o differ e = absurd (differ refl)

back_of : (x y o : Bool) → x ≢ y → x ≡ not o → y ≡ o
back_of true true o differ e = absurd (differ refl)
back_of true false true differ e = sym e
back_of true false false differ e = refl
back_of false true true differ e = refl
back_of false true false differ e = sym e
back_of false false o differ e = absurd (differ refl)

apart_to : (x y o : Bool) → x ≡ o → y ≡ not o → x ≢ y
apart_to x y o e f same = never_own o (sym e ∙ same ∙ f)

-- pairs of paths
module _ (t : Tree) (k : ℕ) (n : IsNumbered t) where
  pub first_of : (p q : ℕ) → ArePaired (turned k (IsMaskingPair t k)) t p q → HasInfluenceAs t k true p
  first_of p q x = record { v = x.v; is_path = x.first_path; answer = x.shown.0; influence = first_influence t k x.v x.w x.shown.2 }

  pub second_of : (p q : ℕ) → ArePaired (turned k (IsMaskingPair t k)) t p q → HasInfluenceAs t k false q
  second_of p q x = record { v = x.w; is_path = x.second_path; answer = x.shown.1; influence = second_influence t k x.v x.w x.shown.2 }

  -- the outcome of a path with influence
  pub as_to : (value outcome : Bool) (p : ℕ) → ((v : Evaluation) → IsPath t p v → outcome ≡ v.outcome) → HasInfluenceAs t k value p → HasInfluenceTo t k value outcome p
  as_to value outcome p is x = record { v = x.v; is_path = x.is_path; answer = x.answer; influence = x.influence; result = sym (is x.v x.is_path) }

  pub to_as : (value outcome : Bool) (p : ℕ) → HasInfluenceTo t k value outcome p → HasInfluenceAs t k value p
  to_as value outcome p x = record { v = x.v; is_path = x.is_path; answer = x.answer; influence = x.influence }

  pub to_value : (value outcome x : Bool) (p : ℕ) → ((v : Evaluation) → IsPath t p v → x ≡ v.outcome) → HasInfluenceAs t k value p → IsTrue (beq x outcome) ↔ HasInfluenceTo t k value outcome p
  to_value value outcome x p is shows = (
    λ e. record { v = shows.v; is_path = shows.is_path; answer = shows.answer; influence = shows.influence; result = sym (is shows.v shows.is_path) ∙ (beq_same x outcome).0 e },
    λ h. (beq_same x outcome).1 (is h.v h.is_path ∙ h.result),
  )

  pub no_value_to : (value outcome : Bool) (p : ℕ) → ¬ HasInfluenceAs t k value p → IsTrue false ↔ HasInfluenceTo t k value outcome p
  no_value_to value outcome p none = (λ e. cc, λ h. absurd (none (to_as value outcome p h)))

  pub one_outcome : (value o u : Bool) (p : ℕ) → HasInfluenceTo t k value o p → HasInfluenceTo t k value u p → o ≡ u
  one_outcome value o u p x y =
      let same : x.v ≡ y.v = vector_once t x.v y.v x.is_path.vector y.is_path.vector (x.is_path.number ∙ sym y.is_path.number) in
      sym x.result ∙ ap (λ e. e.outcome) same ∙ y.result

  pub paired_to : (o : Bool) (p q : ℕ) → HasInfluenceTo t k true o p → HasInfluenceTo t k false (not o) q → ArePaired (turned k (IsMaskingPair t k)) t p q
  paired_to o p q x y =
      record {
        v = x.v;
        w = y.v;
        first_path = x.is_path;
        second_path = y.is_path;
        shown = (x.answer, y.answer, pair_by t k x.v y.v x.answer y.answer (apart_to x.v.outcome y.v.outcome o x.result y.result) x.influence y.influence);
      }

  pub paired_back : (o : Bool) (p q : ℕ) → HasInfluenceTo t k true (not o) p → HasInfluenceTo t k false o q → ArePaired (turned k (IsMaskingPair t k)) t p q
  paired_back true p q x y = paired_to false p q x y
  paired_back false p q x y = paired_to true p q x y

  -- a pair is of one outcome and the other, or the other way round
  pub kinds : (o : Bool) (p q : ℕ) → ArePaired (turned k (IsMaskingPair t k)) t p q
      → (HasInfluenceTo t k true o p × HasInfluenceTo t k false (not o) q) ⊎ (HasInfluenceTo t k true (not o) p × HasInfluenceTo t k false o q)
  kinds o p q x =
      let first : HasInfluence t k x.v = first_influence t k x.v x.w x.shown.2 in
      let second : HasInfluence t k x.w = second_influence t k x.v x.w x.shown.2 in
      elim (same_or x.v.outcome o) [
        | inl e ↦ inl (
          record { v = x.v; is_path = x.first_path; answer = x.shown.0; influence = first; result = e },
          record { v = x.w; is_path = x.second_path; answer = x.shown.1; influence = second; result = other_of x.v.outcome x.w.outcome o x.shown.2.outcomes e },
        )
        | inr e ↦ inr (
          record { v = x.v; is_path = x.first_path; answer = x.shown.0; influence = first; result = e },
          record { v = x.w; is_path = x.second_path; answer = x.shown.1; influence = second; result = back_of x.v.outcome x.w.outcome o x.shown.2.outcomes e },
        )
      ]

  pub before_or : (first second p q : ℕ) → first ≤ p → second ≤ q → (first < p) ⊎ ((first ≡ p) × (second ≤ q))
  before_or first second p q h i = elim (cases_lt first p) [ inl less ↦ inl less | inr more ↦ inr (omega (arith, h, more), i) ]

  -- of all with this value of k the least, by its outcome
  pub least_by : (seen : List ℕ) (value o : Bool) (p : ℕ) → IsLeastSeen t seen k value p → HasInfluenceTo t k value o p → IsLeastSeenTo t seen k value o p
  least_by seen value o p x to = record { among = x.among; fits = to; least = λ q q_seen y. x.least q q_seen (to_as value o q y) }

  pub other_by : (value o : Bool) (p : ℕ) → HasInfluenceAs t k value p → ¬ HasInfluenceTo t k value (not o) p → HasInfluenceTo t k value o p
  other_by value o p x none =
      elim (same_or x.v.outcome o) [
        | inl e ↦ record { v = x.v; is_path = x.is_path; answer = x.answer; influence = x.influence; result = e }
        | inr e ↦ absurd (none (record { v = x.v; is_path = x.is_path; answer = x.answer; influence = x.influence; result = e }))
      ]

  -- the least path of all with k true, and the least that makes a pair with it
  pub chosen_first : (seen : List ℕ) (o : Bool) (first second : ℕ) → IsLeastSeen t seen k true first → HasInfluenceTo t k true o first → IsLeastSeenTo t seen k false (not o) second
      → IsChosen (IsMaskingPair t k) t seen k first second
  chosen_first seen o first second x to y =
      record {
        first_seen = x.among;
        second_seen = y.among;
        paired = paired_to o first second to y.fits;
        least = λ p q p_seen q_seen pair.
            let low : first ≤ p = x.least p p_seen (first_of p q pair) in
            elim (kinds o p q pair) [
              | inl two ↦ before_or first second p q low (y.least q q_seen two.1)
              | inr two ↦ elim (cases_lt first p) [
                | inl less ↦ inl less
                | inr more ↦
                    (let same : first ≡ p = omega (arith, low, more) in
                    let P : ℕ → Type 0 = λ m. HasInfluenceTo t k true o m in
                    absurd (never_own o (one_outcome true o (not o) p (subst P same to) two.0)))
              ]
            ];
      }

  -- where no pair has the outcome o in its first path
  pub chosen_other : (seen : List ℕ) (o : Bool) (first second : ℕ) → ((q : ℕ) → Contains seen q → ¬ HasInfluenceTo t k false (not o) q) → IsLeastSeenTo t seen k true (not o) first → IsLeastSeenTo t seen k false o second
      → IsChosen (IsMaskingPair t k) t seen k first second
  chosen_other seen o first second none x y =
      record {
        first_seen = x.among;
        second_seen = y.among;
        paired = paired_back o first second x.fits y.fits;
        least = λ p q p_seen q_seen pair.
            elim (kinds o p q pair) [
              | inl two ↦ absurd (none q q_seen two.1)
              | inr two ↦ before_or first second p q (x.least p p_seen two.0) (y.least q q_seen two.1)
            ];
      }

  -- where none of the paths with influence is of one kind, no two are a pair
  pub none_first : (seen : List ℕ) → ((p : ℕ) → Contains seen p → ¬ HasInfluenceAs t k true p) → NonePaired (IsMaskingPair t k) t seen
  none_first seen none =
      none_either (IsMaskingPair t k) t k seen (opposed t k n) (turns t k) (λ p q p_seen q_seen pair. none p p_seen (first_of p q pair))

  pub none_second : (seen : List ℕ) → ((q : ℕ) → Contains seen q → ¬ HasInfluenceAs t k false q) → NonePaired (IsMaskingPair t k) t seen
  none_second seen none =
      none_either (IsMaskingPair t k) t k seen (opposed t k n) (turns t k) (λ p q p_seen q_seen pair. none q q_seen (second_of p q pair))

  pub none_true : (seen : List ℕ) (o : Bool) → ((q : ℕ) → Contains seen q → ¬ HasInfluenceTo t k false (not o) q) → ((p : ℕ) → Contains seen p → ¬ HasInfluenceTo t k true (not o) p)
      → NonePaired (IsMaskingPair t k) t seen
  none_true seen o none other =
      none_either (IsMaskingPair t k) t k seen (opposed t k n) (turns t k)
      (λ p q p_seen q_seen pair. elim (kinds o p q pair) [ inl two ↦ none q q_seen two.1 | inr two ↦ other p p_seen two.0 ])
