-- Completions of vectors.
use Rattle.std.proofs.Common.{◌≡◌, ℕ, zero, suc, ◌+◌, Bool, true, false, not, ◌&&◌, ◌||◌, Option, Some, None, List, [], ◌∷◌, ◌++◌, length, replicate, refl, sym, ap, ◌∙◌, subst, arith}
use Rattle.std.specs.Prelude.{slice_get}
use Rattle.mc_cond.specs.Tree.{Tree, Leaf, Not, And, Or, FullAnd, FullOr, FullXor, size, IsNumberedFrom}
use Rattle.mc_cond.specs.Vectors.{Row, Evaluation, truth_of, xor, skipped, followed_where, evaluated_both, evaluated, IsVector, IsCompletion}
use Rattle.mc_cond.proofs.Rows.{both_same, length_answers, outcome_is_truth}

-- one answer in a row that agrees with it
abbrev pub FitsAt : Option Bool → Bool → Type 0
FitsAt (Some x) y = y ≡ x
FitsAt None y = Unit {0}

-- the row agrees with answers of the conditions from `first` on
abbrev pub Fits : ℕ → List (Option Bool) → Row → Type 0
Fits first [] row = Unit {0}
Fits first (x ∷ xs) row = FitsAt x (row first) × Fits (first + 1) xs row

at_next : (first k : ℕ) (row : Row) → row (first + 1 + k) ≡ row (first + suc k)
at_next first k row = ap row (omega arith)

fits_at : (first : ℕ) (x : Option Bool) (row : Row) → ((b : Bool) → x ≡ Some b → row first ≡ b) → FitsAt x (row first)
fits_at first (Some x) row h = h x refl
fits_at first None row h = tt

pub fits_from : (xs : List (Option Bool)) (first : ℕ) (row : Row) → ((k : ℕ) (x : Bool) → slice_get xs k ≡ Some (Some x) → row (first + k) ≡ x) → Fits first xs row
fits_from [] first row h = tt
fits_from (x ∷ xs) first row h =
    (fits_at first x row (λ b e. ap row (omega arith) ∙ h 0 b (ap Some e)), fits_from xs (first + 1) row (λ k b e. at_next first k row ∙ h (suc k) b e))

read_fit : (x : Option Bool) (y b : Bool) → FitsAt x y → x ≡ Some b → y ≡ b
read_fit (Some x) y b f e = f ∙ (cc)
read_fit None y b f e = cc

pub from_fits : (xs : List (Option Bool)) (first : ℕ) (row : Row) → Fits first xs row → (k : ℕ) (x : Bool) → slice_get xs k ≡ Some (Some x) → row (first + k) ≡ x
from_fits [] first row f k x e = cc
from_fits (y ∷ ys) first row f zero x e =
    let same : y ≡ Some x = cc in
    ap row (omega arith) ∙ read_fit y (row first) x f.0 same
from_fits (y ∷ ys) first row f (suc k) x e = sym (at_next first k row) ∙ from_fits ys (first + 1) row f.1 k x e

pub fits_left : (xs ys : List (Option Bool)) (first : ℕ) (row : Row) → Fits first (xs ++ ys) row → Fits first xs row
fits_left [] ys first row f = tt
fits_left (x ∷ xs) ys first row f = (f.0, fits_left xs ys (first + 1) row f.1)

at_same : (xs : List (Option Bool)) (m n : ℕ) (row : Row) → m ≡ n → Fits m xs row → Fits n xs row
at_same xs m n row e f = let P : ℕ → Type 0 = λ k. Fits k xs row in subst P e f

pub fits_right : (xs ys : List (Option Bool)) (first : ℕ) (row : Row) → Fits first (xs ++ ys) row → Fits (first + length xs) ys row
fits_right [] ys first row f = at_same ys first (first + 0) row (omega arith) f
fits_right (x ∷ xs) ys first row f = at_same ys (first + 1 + length xs) (first + suc (length xs)) row (omega arith) (fits_right xs ys (first + 1) row f.1)

pub fits_both : (xs ys : List (Option Bool)) (first : ℕ) (row : Row) → Fits first xs row → Fits (first + length xs) ys row → Fits first (xs ++ ys) row
fits_both [] ys first row f g = at_same ys (first + 0) first row (omega arith) g
fits_both (x ∷ xs) ys first row f g = (f.0, fits_both xs ys (first + 1) row f.1 (at_same ys (first + suc (length xs)) (first + 1 + length xs) row (omega arith) g))

fits_none : (n first : ℕ) (row : Row) → Fits first (replicate n None) row
fits_none zero first row = tt
fits_none (suc n) first row = (tt, fits_none n (first + 1) row)

-- a row fits its own evaluation
own_followed : (o : Bool) (x : Evaluation) (r : Tree) (y : Evaluation) (first n : ℕ) (row : Row) → length x.answers ≡ n → Fits first x.answers row → Fits (first + n) y.answers row → Fits first (followed_where o x r y).answers row
own_followed true x r y first n row e f g = fits_both x.answers y.answers first row f (at_same y.answers (first + n) (first + length x.answers) row (omega (arith, e)) g)
own_followed false x r y first n row e f g = fits_both x.answers (skipped r) first row f (fits_none (size r) (first + length x.answers) row)

own_both : (xs ys : List (Option Bool)) (first n : ℕ) (row : Row) → length xs ≡ n → Fits first xs row → Fits (first + n) ys row → Fits first (xs ++ ys) row
own_both xs ys first n row e f g = fits_both xs ys first row f (at_same ys (first + n) (first + length xs) row (omega (arith, e)) g)

pub own_fits : (t : Tree) (first : ℕ) (row : Row) → IsNumberedFrom first t → Fits first (evaluated t row).answers row
own_fits (Leaf k) first row n = (ap row (sym n), tt)
own_fits (Not a) first row n = own_fits a first row n
own_fits (And a b) first row n = own_followed (evaluated a row).outcome (evaluated a row) b (evaluated b row) first (size a) row (length_answers a row) (own_fits a first row n.0) (own_fits b (first + size a) row n.1)
own_fits (Or a b) first row n = own_followed (not (evaluated a row).outcome) (evaluated a row) b (evaluated b row) first (size a) row (length_answers a row) (own_fits a first row n.0) (own_fits b (first + size a) row n.1)
own_fits (FullAnd a b) first row n = own_both (evaluated a row).answers (evaluated b row).answers first (size a) row (length_answers a row) (own_fits a first row n.0) (own_fits b (first + size a) row n.1)
own_fits (FullOr a b) first row n = own_both (evaluated a row).answers (evaluated b row).answers first (size a) row (length_answers a row) (own_fits a first row n.0) (own_fits b (first + size a) row n.1)
own_fits (FullXor a b) first row n = own_both (evaluated a row).answers (evaluated b row).answers first (size a) row (length_answers a row) (own_fits a first row n.0) (own_fits b (first + size a) row n.1)

-- a row that fits an evaluation is evaluated to it
first_fits : (o : Bool) (x : Evaluation) (r : Tree) (y : Evaluation) (first : ℕ) (row : Row) → Fits first (followed_where o x r y).answers row → Fits first x.answers row
first_fits true x r y first row f = fits_left x.answers y.answers first row f
first_fits false x r y first row f = fits_left x.answers (skipped r) first row f

second_again : (o : Bool) (x : Evaluation) (r : Tree) (y z : Evaluation) (first n : ℕ) (row : Row) → length x.answers ≡ n → (Fits (first + n) y.answers row → z ≡ y) → Fits first (followed_where o x r y).answers row → followed_where o x r z ≡ followed_where o x r y
second_again true x r y z first n row e again f =
    let P : Evaluation → Evaluation = λ w. followed_where true x r w in
    ap P (again (at_same y.answers (first + length x.answers) (first + n) row (omega (arith, e)) (fits_right x.answers y.answers first row f)))
second_again false x r y z first n row e again f = refl

both_again : (op : Bool → Bool → Bool) (x y z w : Evaluation) (first n : ℕ) (row : Row) → length x.answers ≡ n → (Fits first x.answers row → z ≡ x) → (Fits (first + n) y.answers row → w ≡ y)
    → Fits first (x.answers ++ y.answers) row → evaluated_both op z w ≡ evaluated_both op x y
both_again op x y z w first n row e left right f =
    both_same op z w x y (left (fits_left x.answers y.answers first row f))
    (right (at_same y.answers (first + length x.answers) (first + n) row (omega (arith, e)) (fits_right x.answers y.answers first row f)))

pub again : (t : Tree) (first : ℕ) (a row : Row) → IsNumberedFrom first t → Fits first (evaluated t a).answers row → evaluated t row ≡ evaluated t a
again (Leaf k) first a row n f =
    let P : Bool → Evaluation = λ x. record { answers = Some x ∷ []; outcome = x } in
    ap P (ap row n ∙ f.0)
again (Not l) first a row n f =
    let P : Evaluation → Evaluation = λ x. record { answers = x.answers; outcome = not x.outcome } in
    ap P (again l first a row n f)
again (And l r) first a row n f =
    let P : Evaluation → Evaluation = λ x. followed_where x.outcome x r (evaluated r row) in
    let o : Bool = (evaluated l a).outcome in
    ap P (again l first a row n.0 (first_fits o (evaluated l a) r (evaluated r a) first row f))
    ∙ second_again o (evaluated l a) r (evaluated r a) (evaluated r row) first (size l) row (length_answers l a) (again r (first + size l) a row n.1) f
again (Or l r) first a row n f =
    let P : Evaluation → Evaluation = λ x. followed_where (not x.outcome) x r (evaluated r row) in
    let o : Bool = not (evaluated l a).outcome in
    ap P (again l first a row n.0 (first_fits o (evaluated l a) r (evaluated r a) first row f))
    ∙ second_again o (evaluated l a) r (evaluated r a) (evaluated r row) first (size l) row (length_answers l a) (again r (first + size l) a row n.1) f
again (FullAnd l r) first a row n f =
    both_again (λ x y. x && y) (evaluated l a) (evaluated r a) (evaluated l row) (evaluated r row) first (size l) row (length_answers l a)
    (again l first a row n.0) (again r (first + size l) a row n.1) f
again (FullOr l r) first a row n f =
    both_again (λ x y. x || y) (evaluated l a) (evaluated r a) (evaluated l row) (evaluated r row) first (size l) row (length_answers l a)
    (again l first a row n.0) (again r (first + size l) a row n.1) f
again (FullXor l r) first a row n f =
    both_again xor (evaluated l a) (evaluated r a) (evaluated l row) (evaluated r row) first (size l) row (length_answers l a)
    (again l first a row n.0) (again r (first + size l) a row n.1) f

-- at a whole decision
completion_fits : (v : Evaluation) (row : Row) → IsCompletion v row → Fits 0 v.answers row
completion_fits v row h = fits_from v.answers 0 row (λ k x e. ap row (omega arith) ∙ h k x e)

pub completion_vector : (t : Tree) (v : Evaluation) (row : Row) → IsNumberedFrom 0 t → IsVector t v → IsCompletion v row → evaluated t row ≡ v
completion_vector t v row n (a, e) h =
    let P : Evaluation → Type 0 = λ w. Fits 0 w.answers row in
    again t 0 a row n (subst P (sym e) (completion_fits v row h)) ∙ e

pub completion_outcome : (t : Tree) (v : Evaluation) (row : Row) → IsNumberedFrom 0 t → IsVector t v → IsCompletion v row → truth_of t row ≡ v.outcome
completion_outcome t v row n is h =
    let P : Evaluation → Bool = λ w. w.outcome in
    sym (outcome_is_truth t row) ∙ ap P (completion_vector t v row n is h)

pub own_completion : (t : Tree) (row : Row) → IsNumberedFrom 0 t → IsCompletion (evaluated t row) row
own_completion t row n k x e = ap row (omega arith) ∙ from_fits (evaluated t row).answers 0 row (own_fits t 0 row n) k x e
