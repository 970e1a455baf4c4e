-- On some row a flip of a condition changes the outcome: the operands beside it take the values
-- that let it through.
use Rattle.std.proofs.Common.{◌≡◌, ◌≢◌, ℕ, ◌+◌, ◌<◌, ◌≤◌, Bool, true, false, not, ◌&&◌, ◌||◌, arith, sym, ap, refl, ◌∙◌, inl, inr}
use Rattle.std.proofs.lemmas.Bool.{cases_lt}
use Rattle.mc_cond.specs.Tree.{Tree, Leaf, Not, And, Or, FullAnd, FullOr, FullXor, size, IsNumberedFrom}
use Rattle.mc_cond.specs.Vectors.{Row, truth_of, xor, flipped}
use Rattle.mc_cond.specs.Influence.{FlipChanges}
use Rattle.mc_cond.proofs.Rows.{Agree, same_truth, pasted, pasted_left, pasted_right, takes_either}
use Rattle.mc_cond.proofs.Operands.{flip_at, agree_flipped, agree_outside}

-- with this value of the other operand, an operator lets a change of its first operand through
abbrev PassesFirst : (Bool → Bool → Bool) → Bool → Type 0
PassesFirst op o = (x y : Bool) → op x o ≡ op y o → x ≡ y

-- and of its second operand
abbrev PassesSecond : (Bool → Bool → Bool) → Bool → Type 0
PassesSecond op o = (x y : Bool) → op o x ≡ op o y → x ≡ y

and_first : PassesFirst (λ x y. x && y) true
and_first true true e = refl
and_first true false e = cc
and_first false true e = cc
and_first false false e = refl

or_first : PassesFirst (λ x y. x || y) false
or_first true true e = refl
or_first true false e = cc
or_first false true e = cc
or_first false false e = refl

xor_first : PassesFirst xor false
xor_first true true e = refl
xor_first true false e = cc
xor_first false true e = cc
xor_first false false e = refl

both : (op : Bool → Bool → Bool) (p q x y : Bool) → p ≡ x → q ≡ y → op p q ≡ op x y
both op p q x y e f =
    let P : Bool → Bool = λ u. op u q in
    let Q : Bool → Bool = λ u. op x u in
    ap P e ∙ ap Q f

module _ (op : Bool → Bool → Bool) (a b : Tree) (first k : ℕ) (o : Bool) (is_a : IsNumberedFrom first a) (is_b : IsNumberedFrom (first + size a) b) where
  abbrev value : Row → Bool
  value row = op (truth_of a row) (truth_of b row)

  in_first : PassesFirst op o → k < first + size a → (row : Row) × FlipChanges a k row → (row : Row) × (truth_of b row ≡ o)
      → (row : Row) × (value (flipped k row) ≢ value row)
  in_first passes low p q =
      let row : Row = pasted (first + size a) p.0 q.0 in
      let own : Agree first (size a) row p.0 = pasted_left first (size a) p.0 q.0 in
      let still : truth_of a row ≡ truth_of a p.0 = same_truth a first row p.0 is_a own in
      let turned : truth_of a (flipped k row) ≡ truth_of a (flipped k p.0) =
      same_truth a first (flipped k row) (flipped k p.0) is_a (agree_flipped k first (size a) row p.0 own) in
      let other : truth_of b row ≡ o = same_truth b (first + size a) row q.0 is_b (pasted_right first (size a) (size b) p.0 q.0) ∙ q.1 in
      let same : truth_of b (flipped k row) ≡ o =
      same_truth b (first + size a) (flipped k row) row is_b (agree_outside k (first + size a) (size b) row (inl low)) ∙ other in (
        row,
        λ e. p.1 (passes (truth_of a (flipped k p.0)) (truth_of a p.0)
            (sym (both op (truth_of a (flipped k row)) (truth_of b (flipped k row)) (truth_of a (flipped k p.0)) o turned same)
            ∙ e ∙ both op (truth_of a row) (truth_of b row) (truth_of a p.0) o still other)),
      )

  in_second : PassesSecond op o → first + size a ≤ k → (row : Row) × (truth_of a row ≡ o) → (row : Row) × FlipChanges b k row
      → (row : Row) × (value (flipped k row) ≢ value row)
  in_second passes high p q =
      let row : Row = pasted (first + size a) p.0 q.0 in
      let own : Agree (first + size a) (size b) row q.0 = pasted_right first (size a) (size b) p.0 q.0 in
      let still : truth_of b row ≡ truth_of b q.0 = same_truth b (first + size a) row q.0 is_b own in
      let turned : truth_of b (flipped k row) ≡ truth_of b (flipped k q.0) =
      same_truth b (first + size a) (flipped k row) (flipped k q.0) is_b (agree_flipped k (first + size a) (size b) row q.0 own) in
      let other : truth_of a row ≡ o = same_truth a first row p.0 is_a (pasted_left first (size a) p.0 q.0) ∙ p.1 in
      let same : truth_of a (flipped k row) ≡ o =
      same_truth a first (flipped k row) row is_a (agree_outside k first (size a) row (inr high)) ∙ other in (
        row,
        λ e. q.1 (passes (truth_of b (flipped k q.0)) (truth_of b q.0)
            (sym (both op (truth_of a (flipped k row)) (truth_of b (flipped k row)) o (truth_of b (flipped k q.0)) same turned)
            ∙ e ∙ both op (truth_of a row) (truth_of b row) o (truth_of b q.0) other still)),
      )

not_passes : (x y : Bool) → not x ≡ not y → x ≡ y
not_passes true true e = refl
not_passes true false e = cc
not_passes false true e = cc
not_passes false false e = refl

never : (x : Bool) → not x ≡ x → ⊥
never true h = cc
never false h = cc

leaf_flipped : (k : ℕ) (row : Row) → flipped k row k ≢ row k
leaf_flipped k row e = elim (flip_at k row k) [
  | inl same ↦ never (row k) (sym same.1 ∙ e)
  | inr other ↦ absurd (other.0 refl)
]

-- the tree's conditions are numbered from `first` on, and k is one of them
pub changing : (t : Tree) (first k : ℕ) → IsNumberedFrom first t → first ≤ k → k < first + size t → (row : Row) × FlipChanges t k row
changing (Leaf j) first k n low high =
    let same : k ≡ j = omega (arith, n, low, high) in
    (λ i. true, λ e. leaf_flipped k (λ i. true) (ap (flipped k (λ i. true)) same ∙ e))
changing (Not a) first k n low high =
    let p : (row : Row) × FlipChanges a k row = changing a first k n low high in
    (p.0, λ e. p.1 (not_passes (truth_of a (flipped k p.0)) (truth_of a p.0) e))
changing (And a b) first k n low high = elim (cases_lt k (first + size a)) [
  | inl less ↦ in_first (λ x y. x && y) a b first k true n.0 n.1 and_first less (changing a first k n.0 low less) (takes_either b (first + size a) n.1 true)
  | inr more ↦ in_second (λ x y. x && y) a b first k true n.0 n.1 (λ x y e. e) more (takes_either a first n.0 true) (changing b (first + size a) k n.1 more (omega (arith, high)))
]
changing (Or a b) first k n low high = elim (cases_lt k (first + size a)) [
  | inl less ↦ in_first (λ x y. x || y) a b first k false n.0 n.1 or_first less (changing a first k n.0 low less) (takes_either b (first + size a) n.1 false)
  | inr more ↦ in_second (λ x y. x || y) a b first k false n.0 n.1 (λ x y e. e) more (takes_either a first n.0 false) (changing b (first + size a) k n.1 more (omega (arith, high)))
]
changing (FullAnd a b) first k n low high = elim (cases_lt k (first + size a)) [
  | inl less ↦ in_first (λ x y. x && y) a b first k true n.0 n.1 and_first less (changing a first k n.0 low less) (takes_either b (first + size a) n.1 true)
  | inr more ↦ in_second (λ x y. x && y) a b first k true n.0 n.1 (λ x y e. e) more (takes_either a first n.0 true) (changing b (first + size a) k n.1 more (omega (arith, high)))
]
changing (FullOr a b) first k n low high = elim (cases_lt k (first + size a)) [
  | inl less ↦ in_first (λ x y. x || y) a b first k false n.0 n.1 or_first less (changing a first k n.0 low less) (takes_either b (first + size a) n.1 false)
  | inr more ↦ in_second (λ x y. x || y) a b first k false n.0 n.1 (λ x y e. e) more (takes_either a first n.0 false) (changing b (first + size a) k n.1 more (omega (arith, high)))
]
changing (FullXor a b) first k n low high = elim (cases_lt k (first + size a)) [
  | inl less ↦ in_first xor a b first k false n.0 n.1 xor_first less (changing a first k n.0 low less) (takes_either b (first + size a) n.1 false)
  | inr more ↦ in_second xor a b first k false n.0 n.1 (λ x y e. e) more (takes_either a first n.0 false) (changing b (first + size a) k n.1 more (omega (arith, high)))
]
