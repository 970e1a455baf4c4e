-- A decision has both outcomes, and in each mode each condition has a pair: the vectors of a row on
-- which a flip of the condition changes the outcome, and of the flipped row.
use Rattle.std.proofs.Common.{◌≡◌, ◌≢◌, ℕ, ◌<◌, Bool, true, false, not, Some, arith, sym, ap, refl, ◌∙◌, inl, inr}
use Rattle.std.specs.Prelude.{slice_get}
use Rattle.mc_cond.specs.Tree.{Tree, size, IsNumbered}
use Rattle.mc_cond.specs.Vectors.{Row, truth_of, flipped, evaluated}
use Rattle.mc_cond.specs.Influence.{FlipChanges}
use Rattle.mc_cond.proofs.Rows.{Agree, same_truth, takes_either, outcome_is_truth}
use Rattle.mc_cond.proofs.Completions.{own_completion}
use Rattle.mc_cond.proofs.Operands.{flip_at}
use Rattle.mc_cond.proofs.Evaluated.{evaluated_where}
use Rattle.mc_paths.specs.Paths.{path_of, IsPath}
use Rattle.mc_unique.specs.Unique.{IsUniquePair}
use Rattle.mc_masking.specs.Masking.{IsMaskingPair}
use Rattle.report_options.specs.declared.mode.Mode.{Mode}
use Rattle.report_options.specs.declared.mode.Mode.TheVariants.{Unique, Masking}
use Rattle.mc_oblige.specs.Evidence.{pairs_of}
use Rattle.mc_needs.specs.Needs.{Gives, IsPairFor}
use Rattle.mc_needs.proofs.Changing.{changing}

-- the path of a row's vector
own_path : (t : Tree) (row : Row) → IsPath t (path_of t (evaluated t row)) (evaluated t row)
own_path t row = record { vector = (row, refl); number = refl }

pub has_outcome : (t : Tree) (outcome : Bool) → IsNumbered t → (path : ℕ) × Gives t outcome path
has_outcome t outcome n =
    let p : (row : Row) × (truth_of t row ≡ outcome) = takes_either t 0 n.in_order outcome in
    (path_of t (evaluated t p.0), record { v = evaluated t p.0; is_path = own_path t p.0; same = outcome_is_truth t p.0 ∙ p.1 })

-- two rows that differ at condition k alone, which is true in the first, and have other outcomes
record AreTurned (t : Tree) (k : ℕ) (a b : Row) : Type 0 where
  on : a k ≡ true
  off : b k ≡ false
  forth : Agree 0 (size t) (flipped k a) b
  back : Agree 0 (size t) (flipped k b) a
  outcomes : truth_of t a ≢ truth_of t b

not_not : (x : Bool) → not (not x) ≡ x
not_not true = refl
not_not false = refl

twice : (k : ℕ) (row : Row) (j : ℕ) → flipped k (flipped k row) j ≡ row j
twice k row j = elim (flip_at k (flipped k row) j) [
  | inl again ↦ elim (flip_at k row j) [
    | inl once ↦ again.1 ∙ ap not once.1 ∙ not_not (row j)
    | inr other ↦ absurd (other.0 again.0)
  ]
  | inr still ↦ elim (flip_at k row j) [
    | inl once ↦ absurd (still.0 once.0)
    | inr other ↦ still.1 ∙ other.1
  ]
]

own_flip : (k : ℕ) (row : Row) → flipped k row k ≡ not (row k)
own_flip k row = elim (flip_at k row k) [ inl same ↦ same.1 | inr other ↦ absurd (other.0 refl) ]

turned_by : (t : Tree) (k : ℕ) (row : Row) (value : Bool) → row k ≡ value → FlipChanges t k row → (a : Row) × (b : Row) × AreTurned t k a b
turned_by t k row true e changes =
    (row, flipped k row, record { on = e; off = own_flip k row ∙ ap not e; forth = λ j low high. refl; back = λ j low high. twice k row j; outcomes = λ same. changes (sym same) })
turned_by t k row false e changes =
    (flipped k row, row, record { on = own_flip k row ∙ ap not e; off = e; forth = λ j low high. twice k row j; back = λ j low high. refl; outcomes = changes })

module _ (t : Tree) (k : ℕ) (n : IsNumbered t) (a b : Row) (turned : AreTurned t k a b) where
  alike : (j : ℕ) → j < size t → j ≢ k → a j ≡ b j
  alike j below other = elim (flip_at k a j) [ inl same ↦ absurd (other same.0) | inr still ↦ sym still.1 ∙ turned.forth j (omega arith) (omega (arith, below)) ]

  apart : a k ≢ b k
  apart e = let f : true ≡ false = sym turned.on ∙ e ∙ turned.off in cc

  first_answer : slice_get (evaluated t a).answers k ≡ Some (Some true)
  first_answer = evaluated_where t k (evaluated t a) a b n (a, refl) (own_completion t a n.in_order) alike turned.outcomes ∙ ap (λ x. Some (Some x)) turned.on

  second_answer : slice_get (evaluated t b).answers k ≡ Some (Some false)
  second_answer =
      evaluated_where t k (evaluated t b) b a n (b, refl) (own_completion t b n.in_order) (λ j below other. sym (alike j below other)) (λ e. turned.outcomes (sym e))
      ∙ ap (λ x. Some (Some x)) turned.off

  unique : IsUniquePair t k (evaluated t a) (evaluated t b)
  unique = record {
    a = a;
    b = b;
    first = own_completion t a n.in_order;
    second = own_completion t b n.in_order;
    differ = apart;
    alike = alike;
    outcomes = turned.outcomes;
  }

  masking : IsMaskingPair t k (evaluated t a) (evaluated t b)
  masking = record {
    outcomes = λ e. turned.outcomes (sym (outcome_is_truth t a) ∙ e ∙ outcome_is_truth t b);
    a = a;
    b = b;
    first = own_completion t a n.in_order;
    second = own_completion t b n.in_order;
    differ = apart;
    first_changes = λ e. turned.outcomes (sym e ∙ same_truth t 0 (flipped k a) b n.in_order turned.forth);
    second_changes = λ e. turned.outcomes (sym (same_truth t 0 (flipped k b) a n.in_order turned.back) ∙ e);
  }

  shown : (mode : Mode) → pairs_of mode t k (evaluated t a) (evaluated t b)
  shown Unique = unique
  shown Masking = masking

  paired : (mode : Mode) → IsPairFor mode t k (path_of t (evaluated t a)) (path_of t (evaluated t b))
  paired mode = record {
    v = evaluated t a;
    w = evaluated t b;
    first_path = own_path t a;
    second_path = own_path t b;
    shown = (first_answer, second_answer, shown mode);
  }

pub has_pair : (mode : Mode) (t : Tree) (k : ℕ) → IsNumbered t → k < size t → (first : ℕ) × (second : ℕ) × IsPairFor mode t k first second
has_pair mode t k n lt =
    let p : (row : Row) × FlipChanges t k row = changing t 0 k n.in_order (omega arith) (omega (arith, lt)) in
    let turned : (a : Row) × (b : Row) × AreTurned t k a b = turned_by t k p.0 (p.0 k) refl p.1 in
    let a : Row = turned.0 in
    let b : Row = turned.1 in
    (path_of t (evaluated t a), path_of t (evaluated t b), paired t k n a b turned.2 mode)
