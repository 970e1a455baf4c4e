-- Rows of a node by the rows of its operands.
use Rattle.std.proofs.Common.{◌≡◌, ◌≢◌, ℕ, zero, suc, ◌+◌, ◌<◌, ◌≤◌, Bool, true, false, not, ◌==◌, Option, Some, None, List, [], ◌∷◌, length, replicate, arith, sym, ap, subst, refl, ◌∙◌, inl, inr, ◌⊎◌}
use Rattle.std.specs.Prelude.{if◌then◌else◌}
use Rattle.std.proofs.lemmas.Bool.Decides.{eqb_tells}
use Rattle.mc_cond.specs.Tree.{Tree, size, IsNumberedFrom}
use Rattle.mc_cond.specs.Vectors.{Row, Evaluation, truth_of, flipped, evaluated, skipped, followed_where}
use Rattle.mc_cond.proofs.Rows.{Agree, outcome_is_truth}
use Rattle.mc_cond.proofs.Completions.{FitsAt, Fits, fits_left, fits_right, fits_both, again}

-- a flip at k, seen at k and elsewhere
pub flip_at : (k : ℕ) (row : Row) (j : ℕ) → ((j ≡ k) × (flipped k row j ≡ not (row j))) ⊎ ((j ≢ k) × (flipped k row j ≡ row j))
flip_at k row j =
    let P : Bool → Bool = λ b. if b then not (row j) else row j in
    elim (eqb_tells j k) [ inl same ↦ inl (same.1, ap P same.0) | inr other ↦ inr (other.1, ap P other.0) ]

-- rows that agree still do after a flip of one condition in both
pub agree_flipped : (k first count : ℕ) (a b : Row) → Agree first count a b → Agree first count (flipped k a) (flipped k b)
agree_flipped k first count a b g j low high =
    let P : Bool → Bool = λ x. if j == k then not x else x in
    ap P (g j low high)

-- a flip outside of a range changes nothing in it
pub agree_outside : (k first count : ℕ) (a : Row) → (k < first) ⊎ (first + count ≤ k) → Agree first count (flipped k a) a
agree_outside k first count a out j low high =
    elim (flip_at k a j) [
      | inl same ↦ absurd (elim out [ inl below ↦ let f : ⊥ = omega (arith, same.0) in f | inr above ↦ let f : ⊥ = omega (arith, same.0) in f ])
      | inr other ↦ other.1
    ]

pub agree_through : (first count : ℕ) (a b c : Row) → Agree first count a b → Agree first count b c → Agree first count a c
agree_through first count a b c g h j low high = g j low high ∙ h j low high

-- what fits depends on the conditions of the answers alone
fits_at_same : (x : Option Bool) (y z : Bool) → z ≡ y → FitsAt x y → FitsAt x z
fits_at_same (Some b) y z e f = e ∙ f
fits_at_same None y z e f = tt

pub fits_agree : (xs : List (Option Bool)) (first : ℕ) (a b : Row) → Agree first (length xs) b a → Fits first xs a → Fits first xs b
fits_agree [] first a b g f = tt
fits_agree (x ∷ xs) first a b g f =
    (fits_at_same x (a first) (b first) (g first (omega arith) (omega arith)) f.0, fits_agree xs (first + 1) a b (λ j low high. g j (omega arith) (omega arith)) f.1)

pub fits_nothing : (n first : ℕ) (row : Row) → Fits first (replicate n None) row
fits_nothing zero first row = tt
fits_nothing (suc n) first row = (tt, fits_nothing n (first + 1) row)

-- a row that fits an evaluation has its truth
pub fits_truth : (t : Tree) (first : ℕ) (a row : Row) → IsNumberedFrom first t → Fits first (evaluated t a).answers row → truth_of t row ≡ truth_of t a
fits_truth t first a row n f =
    let P : Evaluation → Bool = λ x. x.outcome in
    sym (outcome_is_truth t row) ∙ ap P (again t first a row n f) ∙ outcome_is_truth t a

-- what fits the answers of a node, by its operands
pub fits_first : (o : Bool) (x : Evaluation) (b : Tree) (y : Evaluation) (first : ℕ) (row : Row) → Fits first (followed_where o x b y).answers row → Fits first x.answers row
fits_first true x b y first row f = fits_left x.answers y.answers first row f
fits_first false x b y first row f = fits_left x.answers (skipped b) first row f

at_length : (xs : List (Option Bool)) (m n : ℕ) (row : Row) → m ≡ n → Fits m xs row → Fits n xs row
at_length xs m n row e f = let P : ℕ → Type 0 = λ k. Fits k xs row in subst P e f

pub fits_second : (o : Bool) (x : Evaluation) (b : Tree) (y : Evaluation) (first n : ℕ) (row : Row) → length x.answers ≡ n → o ≡ true → Fits first (followed_where o x b y).answers row → Fits (first + n) y.answers row
fits_second true x b y first n row e on f = at_length y.answers (first + length x.answers) (first + n) row (omega (arith, e)) (fits_right x.answers y.answers first row f)
fits_second false x b y first n row e on f = cc

pub fits_node : (o : Bool) (x : Evaluation) (b : Tree) (y : Evaluation) (first n : ℕ) (row : Row) → length x.answers ≡ n → Fits first x.answers row → (o ≡ true → Fits (first + n) y.answers row) → Fits first (followed_where o x b y).answers row
fits_node true x b y first n row e f g = fits_both x.answers y.answers first row f (at_length y.answers (first + n) (first + length x.answers) row (omega (arith, e)) (g refl))
fits_node false x b y first n row e f g = fits_both x.answers (skipped b) first row f (fits_nothing (size b) (first + length x.answers) row)
