-- Rows: what an evaluation depends on.
use Rattle.std.proofs.Common.{◌≡◌, ℕ, ◌+◌, ◌<◌, ◌≤◌, Bool, true, false, not, ◌&&◌, ◌||◌, Option, Some, None, [], ◌∷◌, ◌++◌, List, length, refl, sym, ap, ◌∙◌, arith, length-append}
use Rattle.std.specs.Prelude.{if◌then◌else◌, nat_lt}
use Rattle.std.proofs.lemmas.Bool.Decides.{nat_tests}
use Rattle.std.proofs.lemmas.List.{length-replicate}
use Rattle.mc_cond.specs.Tree.{Tree, Leaf, Not, And, Or, FullAnd, FullOr, FullXor, size, IsNumberedFrom}
use Rattle.mc_cond.specs.Vectors.{Row, Evaluation, truth_of, xor, skipped, followed_where, evaluated_both, evaluated}

-- the two rows agree on the `count` conditions from `first` on
abbrev pub Agree : ℕ → ℕ → Row → Row → Type 0
Agree first count a b = (k : ℕ) → first ≤ k → k < first + count → a k ≡ b k

agree_left : (first m n : ℕ) (a b : Row) → Agree first (m + n) a b → Agree first m a b
agree_left first m n a b g k low high = g k low (omega arith)

agree_right : (first m n : ℕ) (a b : Row) → Agree first (m + n) a b → Agree (first + m) n a b
agree_right first m n a b g k low high = g k (omega arith) (omega arith)

leaf : Bool → Evaluation
leaf x = record { answers = Some x ∷ []; outcome = x }

pub both_same : (op : Bool → Bool → Bool) (x y z w : Evaluation) → x ≡ z → y ≡ w → evaluated_both op x y ≡ evaluated_both op z w
both_same op x y z w e f =
    let P : Evaluation → Evaluation = λ u. evaluated_both op u y in
    let Q : Evaluation → Evaluation = λ u. evaluated_both op z u in
    ap P e ∙ ap Q f

-- an evaluation depends on the row at the tree's own conditions alone
pub same_evaluation : (t : Tree) (first : ℕ) (a b : Row) → IsNumberedFrom first t → Agree first (size t) a b → evaluated t a ≡ evaluated t b
same_evaluation (Leaf k) first a b n g =
    let P : Bool → Evaluation = λ x. record { answers = Some x ∷ []; outcome = x } in
    ap P (g k (omega arith) (omega arith))
same_evaluation (Not l) first a b n g =
    let P : Evaluation → Evaluation = λ x. record { answers = x.answers; outcome = not x.outcome } in
    ap P (same_evaluation l first a b n g)
same_evaluation (And l r) first a b n g =
    let P : Evaluation → Evaluation = λ x. followed_where x.outcome x r (evaluated r a) in
    let Q : Evaluation → Evaluation = λ y. followed_where (evaluated l b).outcome (evaluated l b) r y in
    ap P (same_evaluation l first a b n.0 (agree_left first (size l) (size r) a b g)) ∙ ap Q (same_evaluation r (first + size l) a b n.1 (agree_right first (size l) (size r) a b g))
same_evaluation (Or l r) first a b n g =
    let P : Evaluation → Evaluation = λ x. followed_where (not x.outcome) x r (evaluated r a) in
    let Q : Evaluation → Evaluation = λ y. followed_where (not (evaluated l b).outcome) (evaluated l b) r y in
    ap P (same_evaluation l first a b n.0 (agree_left first (size l) (size r) a b g)) ∙ ap Q (same_evaluation r (first + size l) a b n.1 (agree_right first (size l) (size r) a b g))
same_evaluation (FullAnd l r) first a b n g =
    both_same (λ x y. x && y) (evaluated l a) (evaluated r a) (evaluated l b) (evaluated r b)
    (same_evaluation l first a b n.0 (agree_left first (size l) (size r) a b g)) (same_evaluation r (first + size l) a b n.1 (agree_right first (size l) (size r) a b g))
same_evaluation (FullOr l r) first a b n g =
    both_same (λ x y. x || y) (evaluated l a) (evaluated r a) (evaluated l b) (evaluated r b)
    (same_evaluation l first a b n.0 (agree_left first (size l) (size r) a b g)) (same_evaluation r (first + size l) a b n.1 (agree_right first (size l) (size r) a b g))
same_evaluation (FullXor l r) first a b n g =
    both_same xor (evaluated l a) (evaluated r a) (evaluated l b) (evaluated r b)
    (same_evaluation l first a b n.0 (agree_left first (size l) (size r) a b g)) (same_evaluation r (first + size l) a b n.1 (agree_right first (size l) (size r) a b g))

-- as many answers as conditions
length_followed : (o : Bool) (x : Evaluation) (r : Tree) (y : Evaluation) (n : ℕ) → length x.answers ≡ n → length y.answers ≡ size r → length (followed_where o x r y).answers ≡ n + size r
length_followed true x r y n e f = length-append x.answers y.answers ∙ omega (arith, e, f)
length_followed false x r y n e f = length-append x.answers (skipped r) ∙ omega (arith, e, length-replicate {A = Option Bool} (size r) None)

length_both : (xs ys : List (Option Bool)) (m n : ℕ) → length xs ≡ m → length ys ≡ n → length (xs ++ ys) ≡ m + n
length_both xs ys m n e f = length-append xs ys ∙ omega (arith, e, f)

pub length_answers : (t : Tree) (row : Row) → length (evaluated t row).answers ≡ size t
length_answers (Leaf k) row = refl
length_answers (Not a) row = length_answers a row
length_answers (And a b) row = length_followed (evaluated a row).outcome (evaluated a row) b (evaluated b row) (size a) (length_answers a row) (length_answers b row)
length_answers (Or a b) row = length_followed (not (evaluated a row).outcome) (evaluated a row) b (evaluated b row) (size a) (length_answers a row) (length_answers b row)
length_answers (FullAnd a b) row = length_both (evaluated a row).answers (evaluated b row).answers (size a) (size b) (length_answers a row) (length_answers b row)
length_answers (FullOr a b) row = length_both (evaluated a row).answers (evaluated b row).answers (size a) (size b) (length_answers a row) (length_answers b row)
length_answers (FullXor a b) row = length_both (evaluated a row).answers (evaluated b row).answers (size a) (size b) (length_answers a row) (length_answers b row)

-- the outcome of evaluation is that of AND, OR, XOR and NOT
and_outcome : (o : Bool) (x : Evaluation) (r : Tree) (y : Evaluation) → o ≡ x.outcome → (followed_where o x r y).outcome ≡ o && y.outcome
and_outcome true x r y e = refl
and_outcome false x r y e = sym e

or_outcome : (o : Bool) (x : Evaluation) (r : Tree) (y : Evaluation) → o ≡ x.outcome → (followed_where (not o) x r y).outcome ≡ o || y.outcome
or_outcome true x r y e = sym e
or_outcome false x r y e = refl

both_outcome : (op : Bool → Bool → Bool) (x y p q : Bool) → x ≡ p → y ≡ q → op x y ≡ op p q
both_outcome op x y p q e f =
    let P : Bool → Bool = λ u. op u y in
    let Q : Bool → Bool = λ u. op p u in
    ap P e ∙ ap Q f

pub outcome_is_truth : (t : Tree) (row : Row) → (evaluated t row).outcome ≡ truth_of t row
outcome_is_truth (Leaf k) row = refl
outcome_is_truth (Not a) row = ap not (outcome_is_truth a row)
outcome_is_truth (And a b) row =
    let P : Bool → Bool = λ x. x && (evaluated b row).outcome in
    let Q : Bool → Bool = λ y. truth_of a row && y in
    and_outcome (evaluated a row).outcome (evaluated a row) b (evaluated b row) refl ∙ ap P (outcome_is_truth a row) ∙ ap Q (outcome_is_truth b row)
outcome_is_truth (Or a b) row =
    let P : Bool → Bool = λ x. x || (evaluated b row).outcome in
    let Q : Bool → Bool = λ y. truth_of a row || y in
    or_outcome (evaluated a row).outcome (evaluated a row) b (evaluated b row) refl ∙ ap P (outcome_is_truth a row) ∙ ap Q (outcome_is_truth b row)
outcome_is_truth (FullAnd a b) row = both_outcome (λ x y. x && y) (evaluated a row).outcome (evaluated b row).outcome (truth_of a row) (truth_of b row) (outcome_is_truth a row) (outcome_is_truth b row)
outcome_is_truth (FullOr a b) row = both_outcome (λ x y. x || y) (evaluated a row).outcome (evaluated b row).outcome (truth_of a row) (truth_of b row) (outcome_is_truth a row) (outcome_is_truth b row)
outcome_is_truth (FullXor a b) row = both_outcome xor (evaluated a row).outcome (evaluated b row).outcome (truth_of a row) (truth_of b row) (outcome_is_truth a row) (outcome_is_truth b row)

-- the truth depends on the row at the tree's own conditions alone
pub same_truth : (t : Tree) (first : ℕ) (a b : Row) → IsNumberedFrom first t → Agree first (size t) a b → truth_of t a ≡ truth_of t b
same_truth t first a b n g =
    let P : Evaluation → Bool = λ x. x.outcome in
    sym (outcome_is_truth t a) ∙ ap P (same_evaluation t first a b n g) ∙ outcome_is_truth t b

-- the first row below condition m, the second from m on
abbrev pub pasted : ℕ → Row → Row → Row
pasted m a b k = if nat_lt k m then a k else b k

pub pasted_left : (first m : ℕ) (a b : Row) → Agree first m (pasted (first + m) a b) a
pasted_left first m a b k low high = grind (arith, nat_tests)

pub pasted_right : (first m n : ℕ) (a b : Row) → Agree (first + m) n (pasted (first + m) a b) b
pasted_right first m n a b k low high = grind (arith, nat_tests)

-- an operand can take either value
either_and : (outcome : Bool) (l r : Tree) (first : ℕ) → IsNumberedFrom first (And l r) → ((o : Bool) → (row : Row) × (truth_of l row ≡ o)) → ((o : Bool) → (row : Row) × (truth_of r row ≡ o)) → (row : Row) × (truth_of (And l r) row ≡ outcome)
either_and true l r first n p q =
    let a : Row = (p true).0 in
    let b : Row = (q true).0 in
    let row : Row = pasted (first + size l) a b in
    let left : truth_of l row ≡ true = same_truth l first row a n.0 (pasted_left first (size l) a b) ∙ (p true).1 in
    let right : truth_of r row ≡ true = same_truth r (first + size l) row b n.1 (pasted_right first (size l) (size r) a b) ∙ (q true).1 in
    let P : Bool → Bool = λ x. x && truth_of r row in
    (row, ap P left ∙ right)
either_and false l r first n p q =
    let a : Row = (p false).0 in
    let P : Bool → Bool = λ x. x && truth_of r a in
    (a, ap P (p false).1)

either_or : (outcome : Bool) (l r : Tree) (first : ℕ) → IsNumberedFrom first (Or l r) → ((o : Bool) → (row : Row) × (truth_of l row ≡ o)) → ((o : Bool) → (row : Row) × (truth_of r row ≡ o)) → (row : Row) × (truth_of (Or l r) row ≡ outcome)
either_or false l r first n p q =
    let a : Row = (p false).0 in
    let b : Row = (q false).0 in
    let row : Row = pasted (first + size l) a b in
    let left : truth_of l row ≡ false = same_truth l first row a n.0 (pasted_left first (size l) a b) ∙ (p false).1 in
    let right : truth_of r row ≡ false = same_truth r (first + size l) row b n.1 (pasted_right first (size l) (size r) a b) ∙ (q false).1 in
    let P : Bool → Bool = λ x. x || truth_of r row in
    (row, ap P left ∙ right)
either_or true l r first n p q =
    let a : Row = (p true).0 in
    let P : Bool → Bool = λ x. x || truth_of r a in
    (a, ap P (p true).1)

either_xor : (outcome : Bool) (l r : Tree) (first : ℕ) → IsNumberedFrom first (FullXor l r) → ((o : Bool) → (row : Row) × (truth_of l row ≡ o)) → ((o : Bool) → (row : Row) × (truth_of r row ≡ o)) → (row : Row) × (truth_of (FullXor l r) row ≡ outcome)
either_xor outcome l r first n p q =
    let a : Row = (p false).0 in
    let b : Row = (q outcome).0 in
    let row : Row = pasted (first + size l) a b in
    let left : truth_of l row ≡ false = same_truth l first row a n.0 (pasted_left first (size l) a b) ∙ (p false).1 in
    let right : truth_of r row ≡ outcome = same_truth r (first + size l) row b n.1 (pasted_right first (size l) (size r) a b) ∙ (q outcome).1 in
    let P : Bool → Bool = λ x. xor x (truth_of r row) in
    (row, ap P left ∙ right)

not_not : (x : Bool) → not (not x) ≡ x
not_not true = refl
not_not false = refl

pub takes_either : (t : Tree) (first : ℕ) → IsNumberedFrom first t → (outcome : Bool) → (row : Row) × (truth_of t row ≡ outcome)
takes_either (Leaf k) first n outcome = (λ j. outcome, refl)
takes_either (Not a) first n outcome =
    let p : (row : Row) × (truth_of a row ≡ not outcome) = takes_either a first n (not outcome) in
    (p.0, ap not p.1 ∙ not_not outcome)
takes_either (And l r) first n outcome = either_and outcome l r first n (takes_either l first n.0) (takes_either r (first + size l) n.1)
takes_either (Or l r) first n outcome = either_or outcome l r first n (takes_either l first n.0) (takes_either r (first + size l) n.1)
takes_either (FullAnd l r) first n outcome = either_and outcome l r first n (takes_either l first n.0) (takes_either r (first + size l) n.1)
takes_either (FullOr l r) first n outcome = either_or outcome l r first n (takes_either l first n.0) (takes_either r (first + size l) n.1)
takes_either (FullXor l r) first n outcome = either_xor outcome l r first n (takes_either l first n.0) (takes_either r (first + size l) n.1)
