-- The vector of a number in use stands in the truth table.
use Rattle.std.proofs.Common.{◌≡◌, ℕ, zero, suc, ◌<◌, ◌==◌, Bool, true, false, cond, Option, Some, List, [], ◌∷◌, ◌++◌, map, refl, sym, ap, ◌∙◌, subst, arith}
use Rattle.std.specs.Prelude.{find, unwrap_or}
use Rattle.std.proofs.lemmas.Bool.{eqb-true, eq-eqb}
use Rattle.mc_cond.specs.Tree.{Tree, IsNumbered, size}
use Rattle.mc_cond.specs.Vectors.{Row, Evaluation, row_of, evaluated}
use Rattle.mc_cond.proofs.Rows.{same_evaluation}
use Rattle.mc_paths.specs.Paths.{path_of, all_false, IsPath, IsInUse}
use Rattle.evidence_texts.specs.Vectors.{rows, vectors_of, vector_at}

-- some element passes
abbrev Passes : {X : Type 0} → (X → Bool) → List X → Type 0
Passes {X} p xs = (x : X) × (find p xs ≡ Some x)

passes_first : {X : Type 0} (p : X → Bool) (x : X) (xs : List X) → p x ≡ true → Passes p (x ∷ xs)
passes_first p x xs h = (x, ap (λ b. cond b (Some x) (find p xs)) h)

passes_later : {X : Type 0} (p : X → Bool) (x : X) (xs : List X) → Passes p xs → Passes p (x ∷ xs)
passes_later {X} p x xs (y, e) = by (p x) refl
  where
    by : (b : Bool) → p x ≡ b → Passes p (x ∷ xs)
    by true h = passes_first p x xs h
    by false h = (y, ap (λ b. cond b (Some x) (find p xs)) h ∙ e)

passes_left : {X : Type 0} (p : X → Bool) (xs ys : List X) → Passes p xs → Passes p (xs ++ ys)
passes_left p [] ys (y, e) = cc
passes_left {X} p (x ∷ xs) ys (y, e) = by (p x) refl (passes_left p xs ys)
  where
    by : (b : Bool) → p x ≡ b → (Passes p xs → Passes p (xs ++ ys)) → Passes p (x ∷ xs ++ ys)
    by true h rest = passes_first p x (xs ++ ys) h
    by false h rest = passes_later p x (xs ++ ys) (rest (y, sym (ap (λ b. cond b (Some x) (find p xs)) h) ∙ e))

passes_right : {X : Type 0} (p : X → Bool) (xs ys : List X) → Passes p ys → Passes p (xs ++ ys)
passes_right p [] ys h = h
passes_right p (x ∷ xs) ys h = passes_later p x (xs ++ ys) (passes_right p xs ys h)

passes_map : {X Y : Type 0} (p : Y → Bool) (f : X → Y) (xs : List X) → Passes (λ x. p (f x)) xs → Passes p (map f xs)
passes_map p f [] (x, e) = cc
passes_map {X} {Y} p f (x ∷ xs) (y, e) = by (p (f x)) refl (passes_map p f xs)
  where
    by : (b : Bool) → p (f x) ≡ b → (Passes (λ z. p (f z)) xs → Passes p (map f xs)) → Passes p (f x ∷ map f xs)
    by true h rest = passes_first p (f x) (map f xs) h
    by false h rest = passes_later p (f x) (map f xs) (rest (y, sym (ap (λ b. cond b (Some x) (find (λ z. p (f z)) xs)) h) ∙ e))

-- what is found passes
found_passes : {X : Type 0} (p : X → Bool) (xs : List X) (y : X) → find p xs ≡ Some y → p y ≡ true
found_passes p [] y e = cc
found_passes {X} p (x ∷ xs) y e = by (p x) refl (found_passes p xs y)
  where
    by : (b : Bool) → p x ≡ b → (find p xs ≡ Some y → p y ≡ true) → p y ≡ true
    by true h rest =
        let same : Some x ≡ Some y = sym (ap (λ b. cond b (Some x) (find p xs)) h) ∙ e in
        ap (λ o. p (unwrap_or o x)) (sym same) ∙ h
    by false h rest = rest (sym (ap (λ b. cond b (Some x) (find p xs)) h) ∙ e)

-- what is found in a list of images is one
found_of : {X Y : Type 0} (p : Y → Bool) (f : X → Y) (xs : List X) (y : Y) → find p (map f xs) ≡ Some y → (x : X) × (f x ≡ y)
found_of p f [] y e = cc
found_of {X} {Y} p f (x ∷ xs) y e = by (p (f x)) refl (found_of p f xs y)
  where
    by : (b : Bool) → p (f x) ≡ b → (find p (map f xs) ≡ Some y → (z : X) × (f z ≡ y)) → (z : X) × (f z ≡ y)
    by true h rest =
        let same : Some (f x) ≡ Some y = sym (ap (λ b. cond b (Some (f x)) (find p (map f xs))) h) ∙ e in
        (x, ap (λ o. unwrap_or o (f x)) same)
    by false h rest = rest (sym (ap (λ b. cond b (Some (f x)) (find p (map f xs))) h) ∙ e)

-- the first answers of a row
abbrev answers_of : ℕ → Row → List Bool
answers_of zero row = []
answers_of (suc n) row = row 0 ∷ answers_of n (λ k. row (suc k))

-- they say what the row says
agrees : (n : ℕ) (row : Row) (k : ℕ) → k < n → row_of (answers_of n row) k ≡ row k
agrees zero row k h = absurd (omega (arith, h))
agrees (suc n) row zero h = refl
agrees (suc n) row (suc k) h = agrees n (λ j. row (suc j)) k (omega (arith, h))

-- they stand in the truth table
table_has : (n : ℕ) (p : List Bool → Bool) (row : Row) → p (answers_of n row) ≡ true → Passes p (rows n)
table_has zero p row h = passes_first p [] [] h
table_has (suc n) p row h = by (row 0) refl (λ b. table_has n (λ r. p (b ∷ r)) later)
  where
    later : Row
    later = λ k. row (suc k)

    by : (b : Bool) → row 0 ≡ b → ((c : Bool) → p (c ∷ answers_of n later) ≡ true → Passes (λ r. p (c ∷ r)) (rows n)) → Passes p (rows (suc n))
    by true e rest =
        passes_left p (map (λ r. true ∷ r) (rows n)) (map (λ r. false ∷ r) (rows n))
        (passes_map p (λ r. true ∷ r) (rows n) (rest true (ap (λ b. p (b ∷ answers_of n later)) (sym e) ∙ h)))
    by false e rest =
        passes_right p (map (λ r. true ∷ r) (rows n)) (map (λ r. false ∷ r) (rows n))
        (passes_map p (λ r. false ∷ r) (rows n) (rest false (ap (λ b. p (b ∷ answers_of n later)) (sym e) ∙ h)))

-- evaluation on these answers gives the vector of the row
same_vector : (t : Tree) (row : Row) → IsNumbered t → evaluated t (row_of (answers_of (size t) row)) ≡ evaluated t row
same_vector t row numbered =
    same_evaluation t 0 (row_of (answers_of (size t) row)) row numbered.in_order
    (λ k low high. agrees (size t) row k (omega (arith, high)))

-- a number in use has the vector that stands in the table
pub vector_has_path : (t : Tree) (path : ℕ) → IsNumbered t → IsInUse t path → IsPath t path (vector_at t path)
vector_has_path t path numbered (v, is) =
    let row : Row = is.vector.0 in
    let p : Evaluation → Bool = λ w. path_of t w == path in
    let f : List Bool → Evaluation = λ r. evaluated t (row_of r) in
    let number : path_of t (f (answers_of (size t) row)) ≡ path = ap (path_of t) (same_vector t row numbered ∙ is.vector.1) ∙ is.number in
    let some : Passes p (vectors_of t) = passes_map p f (rows (size t)) (table_has (size t) (λ r. p (f r)) row (eq-eqb (path_of t (f (answers_of (size t) row))) path number)) in
    let image : (r : List Bool) × (f r ≡ some.0) = found_of p f (rows (size t)) some.0 some.1 in
    let own : IsPath t path some.0 =
    record { vector = (row_of image.0, image.1); number = eqb-true (path_of t some.0) path (found_passes p (vectors_of t) some.0 some.1) } in
    let P : Option Evaluation → Type 0 = λ o. IsPath t path (unwrap_or o (all_false t)) in
    subst P (sym some.1) own
