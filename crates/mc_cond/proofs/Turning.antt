-- Two vectors in which condition k has influence and other values.
use Rattle.std.proofs.Common.{◌≡◌, ℕ, zero, suc, ◌+◌, ◌-◌, ◌<◌, ◌≤◌, Bool, true, false, not, ◌&&◌, ◌||◌, Some, length, refl, sym, ap, ◌∙◌, subst, arith, inl, inr}
use Rattle.std.specs.Prelude.{slice_get}
use Rattle.std.proofs.lemmas.Bool.{cases_lt}
use Rattle.std.proofs.lemmas.Bool.Decides.{eqb_tells}
use Rattle.mc_cond.specs.Tree.{Tree, Leaf, Not, And, Or, FullAnd, FullOr, FullXor, size, IsShort, IsNumbered, IsNumberedFrom}
use Rattle.mc_cond.specs.Vectors.{Row, Evaluation, truth_of, followed_where, evaluated, IsVector}
use Rattle.mc_cond.specs.Influence.{HasInfluence}
use Rattle.mc_cond.specs.steps.Reach.{shown_where, reaches, filled}
use Rattle.mc_cond.proofs.Rows.{length_answers, outcome_is_truth}
use Rattle.mc_cond.proofs.Completions.{completion_outcome}
use Rattle.mc_cond.proofs.Reaching.{reaches_within}
use Rattle.mc_cond.proofs.Flips.{filled_completes, filled_vector, influence_exact}
use Rattle.mc_cond.proofs.Places.{first_answer, second_answer}

-- from which operand a flip comes
from_first : (o lets x y : Bool) → (y ≡ true → ⊥) → shown_where o lets x y ≡ true → (x ≡ true) × (o ≡ true → lets ≡ true)
from_first true true true y out h = (refl, λ on. refl)
from_first true true false y out h = absurd (out h)
from_first true false x y out h = absurd (out h)
from_first false lets x y out h = (h, λ on. cc)

from_second : (o lets x y : Bool) → (x ≡ true → ⊥) → shown_where o lets x y ≡ true → (o ≡ true) × (y ≡ true)
from_second true true true y out h = absurd (out refl)
from_second true true false y out h = (refl, h)
from_second true false x y out h = (refl, h)
from_second false lets x y out h = absurd (out h)

-- the value of a node turns round with that of an operand
and_first : (x y p q : Bool) → x ≡ not p → (x ≡ true → y ≡ true) → (p ≡ true → q ≡ true) → (x && y) ≡ not (p && q)
and_first true y true q e f g = cc
and_first true y false q e f g = f refl
and_first false y true q e f g = sym (ap not (g refl))
and_first false y false q e f g = cc

and_second : (x y p q : Bool) → x ≡ true → p ≡ true → y ≡ not q → (x && y) ≡ not (p && q)
and_second true y true q on there e = e
and_second true y false q on there e = cc
and_second false y p q on there e = cc

not_true : (x : Bool) → not x ≡ true → x ≡ false
not_true true h = sym h
not_true false h = refl

or_first : (x y p q : Bool) → x ≡ not p → (not x ≡ true → not y ≡ true) → (not p ≡ true → not q ≡ true) → (x || y) ≡ not (p || q)
or_first true y true q e f g = cc
or_first true y false q e f g = sym (g refl)
or_first false y true q e f g = not_true y (f refl)
or_first false y false q e f g = cc

or_second : (x y p q : Bool) → not x ≡ true → not p ≡ true → y ≡ not q → (x || y) ≡ not (p || q)
or_second true y p q on there e = cc
or_second false y true q on there e = cc
or_second false y false q on there e = e

-- where condition k stands
module _ (a b : Tree) (first k : ℕ) (is : IsNumberedFrom first a) (there : IsNumberedFrom (first + size a) b) where
  not_second : k < first + size a → (r : Row) → reaches b r k ≡ true → ⊥
  not_second low r h = let w = reaches_within b (first + size a) r k there h in omega (arith, low, w.0)

  not_first : first + size a ≤ k → (r : Row) → reaches a r k ≡ true → ⊥
  not_first high r h = let w = reaches_within a first r k is h in omega (arith, high, w.1)

-- on two rows with other values of k, of which each lets a flip of k through, the truth is another
pub turned_truth : (t : Tree) (first : ℕ) (r s : Row) (k : ℕ) → IsShort t → IsNumberedFrom first t → reaches t r k ≡ true → reaches t s k ≡ true → r k ≡ not (s k) → truth_of t r ≡ not (truth_of t s)
turned_truth (Leaf j) first r s k short is h i e =
    let P : ℕ → Type 0 = λ n. r n ≡ not (s n) in
    elim (eqb_tells k j) [ inl same ↦ subst P same.1 e | inr other ↦ (let f : true ≡ false = sym h ∙ other.0 in cc) ]
turned_truth (Not a) first r s k short is h i e = ap not (turned_truth a first r s k short is h i e)
turned_truth (And a b) first r s k short is h i e =
    elim (cases_lt k (first + size a)) [
      | inl low ↦
          (let p = from_first (truth_of a r) (truth_of b r) (reaches a r k) (reaches b r k) (not_second a b first k is.0 is.1 low r) h in
          let q = from_first (truth_of a s) (truth_of b s) (reaches a s k) (reaches b s k) (not_second a b first k is.0 is.1 low s) i in
          and_first (truth_of a r) (truth_of b r) (truth_of a s) (truth_of b s) (turned_truth a first r s k short.0 is.0 p.0 q.0 e) p.1 q.1)
      | inr high ↦
          (let p = from_second (truth_of a r) (truth_of b r) (reaches a r k) (reaches b r k) (not_first a b first k is.0 is.1 high r) h in
          let q = from_second (truth_of a s) (truth_of b s) (reaches a s k) (reaches b s k) (not_first a b first k is.0 is.1 high s) i in
          and_second (truth_of a r) (truth_of b r) (truth_of a s) (truth_of b s) p.0 q.0 (turned_truth b (first + size a) r s k short.1 is.1 p.1 q.1 e))
    ]
turned_truth (Or a b) first r s k short is h i e =
    elim (cases_lt k (first + size a)) [
      | inl low ↦
          (let p = from_first (not (truth_of a r)) (not (truth_of b r)) (reaches a r k) (reaches b r k) (not_second a b first k is.0 is.1 low r) h in
          let q = from_first (not (truth_of a s)) (not (truth_of b s)) (reaches a s k) (reaches b s k) (not_second a b first k is.0 is.1 low s) i in
          or_first (truth_of a r) (truth_of b r) (truth_of a s) (truth_of b s) (turned_truth a first r s k short.0 is.0 p.0 q.0 e) p.1 q.1)
      | inr high ↦
          (let p = from_second (not (truth_of a r)) (not (truth_of b r)) (reaches a r k) (reaches b r k) (not_first a b first k is.0 is.1 high r) h in
          let q = from_second (not (truth_of a s)) (not (truth_of b s)) (reaches a s k) (reaches b s k) (not_first a b first k is.0 is.1 high s) i in
          or_second (truth_of a r) (truth_of b r) (truth_of a s) (truth_of b s) p.0 q.0 (turned_truth b (first + size a) r s k short.1 is.1 p.1 q.1 e))
    ]
turned_truth (FullAnd a b) first r s k short is h i e = absurd short
turned_truth (FullOr a b) first r s k short is h i e = absurd short
turned_truth (FullXor a b) first r s k short is h i e = absurd short

-- no condition behind k is evaluated in both
Apart : ℕ → ℕ → Evaluation → Evaluation → Type 0
Apart first k e p = (j : ℕ) (x y : Bool) → k < first + j → slice_get e.answers j ≡ Some (Some x) → slice_get p.answers j ≡ Some (Some y) → ⊥

apart_node : (o u : Bool) (e p : Evaluation) (b : Tree) (g q : Evaluation) (first n k : ℕ) → length e.answers ≡ n → length p.answers ≡ n
    → (k < first + n → Apart first k e p) → (k < first + n → o ≡ true → u ≡ true → ⊥) → (first + n ≤ k → Apart (first + n) k g q)
    → Apart first k (followed_where o e b g) (followed_where u p b q)
unfolding Apart
apart_node o u e p b g q first n k same alike left once right j x y after at there =
    elim (cases_lt j n) [
      | inl low ↦ left (omega (arith, after, low)) j x y after (sym (first_answer o e b g n j same low) ∙ at) (sym (first_answer u p b q n j alike low) ∙ there)
      | inr high ↦
          (let v = second_answer o e b g n j x same high at in
          let w = second_answer u p b q n j y alike high there in
          elim (cases_lt k (first + n)) [
            | inl below ↦ once below v.0 w.0
            | inr above ↦ right above (j - n) x y (omega (arith, after, high)) v.1 w.1
          ])
    ]

both_on : (o u x y : Bool) → o ≡ x → u ≡ y → x ≡ not y → o ≡ true → u ≡ true → ⊥
both_on o u x y e f g on there = let h : true ≡ false = sym on ∙ e ∙ g ∙ ap not (sym f ∙ there) in cc

both_off : (o u x y : Bool) → o ≡ x → u ≡ y → x ≡ not y → not o ≡ true → not u ≡ true → ⊥
both_off o u x y e f g on there = let h : false ≡ true = sym (not_true o on) ∙ e ∙ g ∙ ap not (sym f ∙ not_true u there) in cc

apart : (t : Tree) (first : ℕ) (r s : Row) (k : ℕ) → IsShort t → IsNumberedFrom first t → reaches t r k ≡ true → reaches t s k ≡ true → r k ≡ not (s k) → Apart first k (evaluated t r) (evaluated t s)
unfolding Apart
apart (Leaf i) first r s k short is h g e zero x y after at there =
    elim (eqb_tells k i) [ inl same ↦ (let f : ⊥ = omega (arith, same.1, is, after) in f) | inr other ↦ (let f : true ≡ false = sym h ∙ other.0 in cc) ]
apart (Leaf i) first r s k short is h g e (suc j) x y after at there = cc
apart (Not a) first r s k short is h g e j x y after at there = apart a first r s k short is h g e j x y after at there
apart (And a b) first r s k short is h g e j x y after at there =
    let first_reach = λ (u : Row) (shows : reaches (And a b) u k ≡ true) (low : k < first + size a).
    (from_first (truth_of a u) (truth_of b u) (reaches a u k) (reaches b u k) (not_second a b first k is.0 is.1 low u) shows).0 in
    let second_reach = λ (u : Row) (shows : reaches (And a b) u k ≡ true) (high : first + size a ≤ k).
    (from_second (truth_of a u) (truth_of b u) (reaches a u k) (reaches b u k) (not_first a b first k is.0 is.1 high u) shows).1 in
    apart_node (evaluated a r).outcome (evaluated a s).outcome (evaluated a r) (evaluated a s) b (evaluated b r) (evaluated b s) first (size a) k (length_answers a r) (length_answers a s)
    (λ low. apart a first r s k short.0 is.0 (first_reach r h low) (first_reach s g low) e)
    (λ low. both_on (evaluated a r).outcome (evaluated a s).outcome (truth_of a r) (truth_of a s) (outcome_is_truth a r) (outcome_is_truth a s) (turned_truth a first r s k short.0 is.0 (first_reach r h low) (first_reach s g low) e))
    (λ high. apart b (first + size a) r s k short.1 is.1 (second_reach r h high) (second_reach s g high) e)
    j x y after at there
apart (Or a b) first r s k short is h g e j x y after at there =
    let first_reach = λ (u : Row) (shows : reaches (Or a b) u k ≡ true) (low : k < first + size a).
    (from_first (not (truth_of a u)) (not (truth_of b u)) (reaches a u k) (reaches b u k) (not_second a b first k is.0 is.1 low u) shows).0 in
    let second_reach = λ (u : Row) (shows : reaches (Or a b) u k ≡ true) (high : first + size a ≤ k).
    (from_second (not (truth_of a u)) (not (truth_of b u)) (reaches a u k) (reaches b u k) (not_first a b first k is.0 is.1 high u) shows).1 in
    apart_node (not (evaluated a r).outcome) (not (evaluated a s).outcome) (evaluated a r) (evaluated a s) b (evaluated b r) (evaluated b s) first (size a) k (length_answers a r) (length_answers a s)
    (λ low. apart a first r s k short.0 is.0 (first_reach r h low) (first_reach s g low) e)
    (λ low. both_off (evaluated a r).outcome (evaluated a s).outcome (truth_of a r) (truth_of a s) (outcome_is_truth a r) (outcome_is_truth a s) (turned_truth a first r s k short.0 is.0 (first_reach r h low) (first_reach s g low) e))
    (λ high. apart b (first + size a) r s k short.1 is.1 (second_reach r h high) (second_reach s g high) e)
    j x y after at there
apart (FullAnd a b) first r s k short is h g e j x y after at there = absurd short
apart (FullOr a b) first r s k short is h g e j x y after at there = absurd short
apart (FullXor a b) first r s k short is h g e j x y after at there = absurd short

-- the same of vectors
module _ (t : Tree) (k : ℕ) (v w : Evaluation) (short : IsShort t) (n : IsNumbered t) (is_v : IsVector t v) (is_w : IsVector t w) (x : Bool)
    (on : slice_get v.answers k ≡ Some (Some (not x))) (off : slice_get w.answers k ≡ Some (Some x)) (first : HasInfluence t k v) (second : HasInfluence t k w) where
  values : filled v k ≡ not (filled w k)
  values = filled_completes v k (not x) on ∙ ap not (sym (filled_completes w k x off))

  pub outcome_turns : v.outcome ≡ not w.outcome
  outcome_turns =
      sym (completion_outcome t v (filled v) n.in_order is_v (filled_completes v))
      ∙ turned_truth t 0 (filled v) (filled w) k short n.in_order ((influence_exact t k v n is_v).1 first) ((influence_exact t k w n is_w).1 second) values
      ∙ ap not (completion_outcome t w (filled w) n.in_order is_w (filled_completes w))

  pub behind_apart : (j : ℕ) (y z : Bool) → k < j → slice_get v.answers j ≡ Some (Some y) → slice_get w.answers j ≡ Some (Some z) → ⊥
  unfolding Apart
  behind_apart j y z after at there =
      let P : Evaluation → Type 0 = λ e. slice_get e.answers j ≡ Some (Some y) in
      let Q : Evaluation → Type 0 = λ e. slice_get e.answers j ≡ Some (Some z) in
      apart t 0 (filled v) (filled w) k short n.in_order ((influence_exact t k v n is_v).1 first) ((influence_exact t k w n is_w).1 second) values
      j y z (omega (arith, after)) (subst P (sym (filled_vector t v n is_v)) at) (subst Q (sym (filled_vector t w n is_w)) there)
