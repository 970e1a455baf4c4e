-- The answers of a node by those of its operands, place by place.
use Rattle.std.proofs.Common.{◌≡◌, ℕ, zero, suc, ◌+◌, ◌-◌, ◌<◌, ◌≤◌, Bool, true, false, not, Option, Some, None, List, [], ◌∷◌, ◌++◌, length, replicate, refl, sym, ap, ◌∙◌, arith, inl, inr}
use Rattle.std.specs.Prelude.{slice_get}
use Rattle.std.proofs.lemmas.Bool.{cases_lt}
use Rattle.mc_cond.specs.Tree.{Tree, Leaf, Not, And, Or, FullAnd, FullOr, FullXor, size, IsNumberedFrom}
use Rattle.mc_cond.specs.Vectors.{Row, Evaluation, skipped, followed_where, evaluated}
use Rattle.mc_cond.proofs.Rows.{Agree, same_evaluation, length_answers}

get_left : {A : Type 0} (xs ys : List A) (k : ℕ) → k < length xs → slice_get (xs ++ ys) k ≡ slice_get xs k
get_left [] ys k lt = absurd (omega (arith, lt))
get_left (x ∷ xs) ys zero lt = refl
get_left (x ∷ xs) ys (suc k) lt = get_left xs ys k (omega (arith, lt))

get_right : {A : Type 0} (xs ys : List A) (n k : ℕ) → length xs ≡ n → n ≤ k → slice_get (xs ++ ys) k ≡ slice_get ys (k - n)
get_right [] ys n k e le = ap (slice_get ys) (omega (arith, e))
get_right (x ∷ xs) ys n zero e le = absurd (omega (arith, e, le))
get_right (x ∷ xs) ys n (suc k) e le =
    get_right xs ys (n - 1) k (omega (arith, e)) (omega (arith, e, le)) ∙ ap (slice_get ys) (omega (arith, e, le))

-- an answer of a node is one of its first operand, or of its second where that is evaluated
pub first_answer : (o : Bool) (e : Evaluation) (b : Tree) (g : Evaluation) (n j : ℕ) → length e.answers ≡ n → j < n → slice_get (followed_where o e b g).answers j ≡ slice_get e.answers j
first_answer true e b g n j same lt = get_left e.answers g.answers j (omega (arith, same, lt))
first_answer false e b g n j same lt = get_left e.answers (skipped b) j (omega (arith, same, lt))

none_skipped : (n j : ℕ) (x : Bool) → slice_get (replicate n None) j ≡ Some (Some x) → ⊥
none_skipped zero j x e = cc
none_skipped (suc n) zero x e = cc
none_skipped (suc n) (suc j) x e = none_skipped n j x e

pub second_answer : (o : Bool) (e : Evaluation) (b : Tree) (g : Evaluation) (n j : ℕ) (x : Bool) → length e.answers ≡ n → n ≤ j → slice_get (followed_where o e b g).answers j ≡ Some (Some x)
    → (o ≡ true) × (slice_get g.answers (j - n) ≡ Some (Some x))
second_answer true e b g n j x same le h = (refl, sym (get_right e.answers g.answers n j same le) ∙ h)
second_answer false e b g n j x same le h = absurd (none_skipped (size b) (j - n) x (sym (get_right e.answers (skipped b) n j same le) ∙ h))

second_alike : (o : Bool) (e : Evaluation) (b : Tree) (g g2 : Evaluation) (n j : ℕ) → length e.answers ≡ n → n ≤ j → slice_get g.answers (j - n) ≡ slice_get g2.answers (j - n)
    → slice_get (followed_where o e b g).answers j ≡ slice_get (followed_where o e b g2).answers j
second_alike true e b g g2 n j same le h = get_right e.answers g.answers n j same le ∙ h ∙ sym (get_right e.answers g2.answers n j same le)
second_alike false e b g g2 n j same le h = refl

-- the answers before a place depend on the row before it alone
module _ (f : Bool → Bool) (a b : Tree) (first n : ℕ) (r s : Row) (is : IsNumberedFrom first a) (g : Agree first n r s) where
  node : Row → Row → Evaluation
  node p q = followed_where (f (evaluated a p).outcome) (evaluated a p) b (evaluated b q)

  alike_node : ((j : ℕ) → j < n → slice_get (evaluated a r).answers j ≡ slice_get (evaluated a s).answers j)
      → ((j : ℕ) → size a + j < n → slice_get (evaluated b r).answers j ≡ slice_get (evaluated b s).answers j)
      → (j : ℕ) → j < n → slice_get (node r r).answers j ≡ slice_get (node s s).answers j
  unfolding node
  alike_node left right j lt =
      elim (cases_lt j (size a)) [
        | inl low ↦
            first_answer (f (evaluated a r).outcome) (evaluated a r) b (evaluated b r) (size a) j (length_answers a r) low ∙ left j lt
            ∙ sym (first_answer (f (evaluated a s).outcome) (evaluated a s) b (evaluated b s) (size a) j (length_answers a s) low)
        | inr high ↦
            (let P : Evaluation → Evaluation = λ e. followed_where (f e.outcome) e b (evaluated b s) in
            let same : evaluated a r ≡ evaluated a s = same_evaluation a first r s is (λ k low below. g k low (omega arith)) in
            second_alike (f (evaluated a r).outcome) (evaluated a r) b (evaluated b r) (evaluated b s) (size a) j (length_answers a r) high (right (j - size a) (omega (arith, high, lt)))
            ∙ ap (λ e. slice_get e.answers j) (ap P same))
      ]

alike_both : (xs ys us vs : List (Option Bool)) (m n : ℕ) → length xs ≡ m → length us ≡ m
    → ((j : ℕ) → j < n → slice_get xs j ≡ slice_get us j) → ((j : ℕ) → m + j < n → slice_get ys j ≡ slice_get vs j)
    → (j : ℕ) → j < n → slice_get (xs ++ ys) j ≡ slice_get (us ++ vs) j
alike_both xs ys us vs m n e f left right j lt =
    elim (cases_lt j m) [
      | inl low ↦ get_left xs ys j (omega (arith, e, low)) ∙ left j lt ∙ sym (get_left us vs j (omega (arith, f, low)))
      | inr high ↦ get_right xs ys m j e high ∙ right (j - m) (omega (arith, high, lt)) ∙ sym (get_right us vs m j f high)
    ]

pub alike_before : (t : Tree) (first n : ℕ) (r s : Row) → IsNumberedFrom first t → Agree first n r s
    → (j : ℕ) → j < n → slice_get (evaluated t r).answers j ≡ slice_get (evaluated t s).answers j
unfolding node
alike_before (Leaf k) first n r s is g zero lt = ap (λ x. Some (Some x)) (g k (omega (arith, is)) (omega (arith, is, lt)))
alike_before (Leaf k) first n r s is g (suc j) lt = refl
alike_before (Not a) first n r s is g j lt = alike_before a first n r s is g j lt
alike_before (And a b) first n r s is g j lt =
    alike_node (λ o. o) a b first n r s is.0 g (alike_before a first n r s is.0 g)
    (λ i low. alike_before b (first + size a) (n - size a) r s is.1 (λ k above below. g k (omega arith) (omega (arith, below, low))) i (omega (arith, low))) j lt
alike_before (Or a b) first n r s is g j lt =
    alike_node not a b first n r s is.0 g (alike_before a first n r s is.0 g)
    (λ i low. alike_before b (first + size a) (n - size a) r s is.1 (λ k above below. g k (omega arith) (omega (arith, below, low))) i (omega (arith, low))) j lt
alike_before (FullAnd a b) first n r s is g j lt =
    alike_both (evaluated a r).answers (evaluated b r).answers (evaluated a s).answers (evaluated b s).answers (size a) n (length_answers a r) (length_answers a s)
    (alike_before a first n r s is.0 g)
    (λ i low. alike_before b (first + size a) (n - size a) r s is.1 (λ k above below. g k (omega arith) (omega (arith, below, low))) i (omega (arith, low))) j lt
alike_before (FullOr a b) first n r s is g j lt =
    alike_both (evaluated a r).answers (evaluated b r).answers (evaluated a s).answers (evaluated b s).answers (size a) n (length_answers a r) (length_answers a s)
    (alike_before a first n r s is.0 g)
    (λ i low. alike_before b (first + size a) (n - size a) r s is.1 (λ k above below. g k (omega arith) (omega (arith, below, low))) i (omega (arith, low))) j lt
alike_before (FullXor a b) first n r s is g j lt =
    alike_both (evaluated a r).answers (evaluated b r).answers (evaluated a s).answers (evaluated b s).answers (size a) n (length_answers a r) (length_answers a s)
    (alike_before a first n r s is.0 g)
    (λ i low. alike_before b (first + size a) (n - size a) r s is.1 (λ k above below. g k (omega arith) (omega (arith, below, low))) i (omega (arith, low))) j lt
