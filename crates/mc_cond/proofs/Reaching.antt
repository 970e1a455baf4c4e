-- A flip reaches the outcome on some completion exactly where the operands say so.
use Rattle.std.proofs.Common.{◌≡◌, ◌≢◌, ℕ, ◌+◌, ◌<◌, ◌≤◌, Bool, true, false, not, ◌&&◌, ◌||◌, Option, List, ◌++◌, length, arith, sym, ap, subst, refl, ◌∙◌, inl, inr, ◌⊎◌}
use Rattle.std.proofs.lemmas.Bool.{cases_lt}
use Rattle.std.proofs.lemmas.Bool.Decides.{eqb_tells}
use Rattle.mc_cond.specs.Tree.{Tree, Leaf, Not, And, Or, FullAnd, FullOr, FullXor, size, IsNumberedFrom}
use Rattle.mc_cond.specs.Vectors.{Row, truth_of, xor, flipped, evaluated, followed_where}
use Rattle.mc_cond.proofs.Rows.{Agree, pasted, pasted_left, pasted_right, same_truth, length_answers, outcome_is_truth, takes_either}
use Rattle.mc_cond.proofs.Completions.{Fits, own_fits}
use Rattle.mc_cond.specs.steps.Reach.{shown_where, shown_both, reaches}
use Rattle.mc_cond.proofs.Operands.{flip_at, agree_flipped, agree_outside, fits_agree, fits_truth, fits_first, fits_second, fits_node}

-- a row that fits the answers, on which a flip of condition k changes the value
pub record Moves (value : Row → Bool) (first : ℕ) (answers : List (Option Bool)) (k : ℕ) : Type 0 where
  pub row : Row
  pub fits : Fits first answers row
  pub changes : value (flipped k row) ≡ not (value row)

-- only conditions of the tree reach its outcome
in_either : (evaluated lets x y : Bool) → shown_where evaluated lets x y ≡ true → (x ≡ true) ⊎ (y ≡ true)
in_either true true true y h = inl refl
in_either true true false y h = inr h
in_either true false x y h = inr h
in_either false lets x y h = inl h

in_one : (f s x y : Bool) → shown_both f s x y ≡ true → ((f ≡ true) × (x ≡ true)) ⊎ ((s ≡ true) × (y ≡ true))
in_one true s true y h = inl (refl, refl)
in_one true true false true h = inr (refl, refl)
in_one true true false false h = cc
in_one true false false y h = cc
in_one false true x true h = inr (refl, refl)
in_one false true x false h = cc
in_one false false x y h = cc

IsWithin : ℕ → ℕ → ℕ → Type 0
IsWithin first count k = (first ≤ k) × (k < first + count)

pub reaches_within : (t : Tree) (first : ℕ) (row : Row) (k : ℕ) → IsNumberedFrom first t → reaches t row k ≡ true → (first ≤ k) × (k < first + size t)
reaches_within (Leaf j) first row k n h = elim (eqb_tells k j) [ inl same ↦ (omega (arith, same.1), omega (arith, same.1)) | inr other ↦ (let f : true ≡ false = sym h ∙ other.0 in cc) ]
reaches_within (Not a) first row k n h = reaches_within a first row k n h
reaches_within (And a b) first row k n h =
    elim (in_either (truth_of a row) (truth_of b row) (reaches a row k) (reaches b row k) h) [
      | inl left ↦ (let w = reaches_within a first row k n.0 left in (w.0, omega (arith, w.1)))
      | inr right ↦ (let w = reaches_within b (first + size a) row k n.1 right in (omega (arith, w.0), omega (arith, w.1)))
    ]
reaches_within (Or a b) first row k n h =
    elim (in_either (not (truth_of a row)) (not (truth_of b row)) (reaches a row k) (reaches b row k) h) [
      | inl left ↦ (let w = reaches_within a first row k n.0 left in (w.0, omega (arith, w.1)))
      | inr right ↦ (let w = reaches_within b (first + size a) row k n.1 right in (omega (arith, w.0), omega (arith, w.1)))
    ]
reaches_within (FullAnd a b) first row k n h =
    elim (in_one (truth_of b row) (truth_of a row) (reaches a row k) (reaches b row k) h) [
      | inl left ↦ (let w = reaches_within a first row k n.0 left.1 in (w.0, omega (arith, w.1)))
      | inr right ↦ (let w = reaches_within b (first + size a) row k n.1 right.1 in (omega (arith, w.0), omega (arith, w.1)))
    ]
reaches_within (FullOr a b) first row k n h =
    elim (in_one (not (truth_of b row)) (not (truth_of a row)) (reaches a row k) (reaches b row k) h) [
      | inl left ↦ (let w = reaches_within a first row k n.0 left.1 in (w.0, omega (arith, w.1)))
      | inr right ↦ (let w = reaches_within b (first + size a) row k n.1 right.1 in (omega (arith, w.0), omega (arith, w.1)))
    ]
reaches_within (FullXor a b) first row k n h =
    elim (in_one true true (reaches a row k) (reaches b row k) h) [
      | inl left ↦ (let w = reaches_within a first row k n.0 left.1 in (w.0, omega (arith, w.1)))
      | inr right ↦ (let w = reaches_within b (first + size a) row k n.1 right.1 in (omega (arith, w.0), omega (arith, w.1)))
    ]

-- the value of a node of two operands
abbrev pub node : (Bool → Bool → Bool) → Tree → Tree → Row → Bool
node op a b row = op (truth_of a row) (truth_of b row)

agree_length : (xs : List (Option Bool)) (first n : ℕ) (p q : Row) → length xs ≡ n → Agree first n p q → Agree first (length xs) p q
agree_length xs first n p q e g = let P : ℕ → Type 0 = λ m. Agree first m p q in subst P (sym e) g

-- A node whose operator leaves the other operand's value as it is where one operand has the value c.
module _ (op : Bool → Bool → Bool) (c : Bool) (keeps_first : (x : Bool) → op x c ≡ x) (keeps_second : (y : Bool) → op c y ≡ y)
    (a b : Tree) (first k : ℕ) (n : IsNumberedFrom first a) (m : IsNumberedFrom (first + size a) b) where
  -- a flip in the first operand shows where the second has the value c
  left_moves : (p q : Row) → k < first + size a → truth_of b q ≡ c → truth_of a (flipped k p) ≡ not (truth_of a p)
      → node op a b (flipped k (pasted (first + size a) p q)) ≡ not (node op a b (pasted (first + size a) p q))
  left_moves p q below value moves =
      let row : Row = pasted (first + size a) p q in
      let row_a : truth_of a row ≡ truth_of a p = same_truth a first row p n (pasted_left first (size a) p q) in
      let row_b : truth_of b row ≡ c = same_truth b (first + size a) row q m (pasted_right first (size a) (size b) p q) ∙ value in
      let flip_a : truth_of a (flipped k row) ≡ truth_of a (flipped k p) = same_truth a first (flipped k row) (flipped k p) n (agree_flipped k first (size a) row p (pasted_left first (size a) p q)) in
      let flip_b : truth_of b (flipped k row) ≡ c = same_truth b (first + size a) (flipped k row) row m (agree_outside k (first + size a) (size b) row (inl below)) ∙ row_b in
      let P : Bool → Bool = λ x. op x (truth_of b (flipped k row)) in
      let Q : Bool → Bool = λ y. op (truth_of a (flipped k p)) y in
      let R : Bool → Bool = λ x. op x (truth_of b row) in
      let S : Bool → Bool = λ y. op (truth_of a p) y in
      ap P flip_a ∙ ap Q flip_b ∙ keeps_first (truth_of a (flipped k p)) ∙ moves ∙ ap not (sym (ap R row_a ∙ ap S row_b ∙ keeps_first (truth_of a p)))

  -- a flip in the second operand shows where the first has the value c
  right_moves : (p q : Row) → first + size a ≤ k → truth_of a p ≡ c → truth_of b (flipped k q) ≡ not (truth_of b q)
      → node op a b (flipped k (pasted (first + size a) p q)) ≡ not (node op a b (pasted (first + size a) p q))
  right_moves p q above value moves =
      let row : Row = pasted (first + size a) p q in
      let row_a : truth_of a row ≡ c = same_truth a first row p n (pasted_left first (size a) p q) ∙ value in
      let row_b : truth_of b row ≡ truth_of b q = same_truth b (first + size a) row q m (pasted_right first (size a) (size b) p q) in
      let flip_a : truth_of a (flipped k row) ≡ c = same_truth a first (flipped k row) row n (agree_outside k first (size a) row (inr above)) ∙ row_a in
      let flip_b : truth_of b (flipped k row) ≡ truth_of b (flipped k q) = same_truth b (first + size a) (flipped k row) (flipped k q) m (agree_flipped k (first + size a) (size b) row q (pasted_right first (size a) (size b) p q)) in
      let P : Bool → Bool = λ x. op x (truth_of b (flipped k row)) in
      let R : Bool → Bool = λ x. op x (truth_of b row) in
      ap P flip_a ∙ keeps_second (truth_of b (flipped k row)) ∙ flip_b ∙ moves ∙ ap not (sym (ap R row_a ∙ keeps_second (truth_of b row) ∙ row_b))

  -- on a row r, with the second operand evaluated where o
  from_left : (r : Row) (o : Bool) → Moves (truth_of a) first (evaluated a r).answers k → k < first + size a
      → (u : Row) → truth_of b u ≡ c → (o ≡ true → Fits (first + size a) (evaluated b r).answers u)
      → Moves (node op a b) first (followed_where o (evaluated a r) b (evaluated b r)).answers k
  from_left r o s below u value fits =
      let row : Row = pasted (first + size a) s.row u in
      record {
        row = row;
        fits = fits_node o (evaluated a r) b (evaluated b r) first (size a) row (length_answers a r)
            (fits_agree (evaluated a r).answers first s.row row (agree_length (evaluated a r).answers first (size a) row s.row (length_answers a r) (pasted_left first (size a) s.row u)) s.fits)
            (λ on. fits_agree (evaluated b r).answers (first + size a) u row (agree_length (evaluated b r).answers (first + size a) (size b) row u (length_answers b r) (pasted_right first (size a) (size b) s.row u)) (fits on));
        changes = left_moves s.row u below value s.changes;
      }

  from_right : (r : Row) (o : Bool) → Moves (truth_of b) (first + size a) (evaluated b r).answers k → first + size a ≤ k → truth_of a r ≡ c
      → Moves (node op a b) first (followed_where o (evaluated a r) b (evaluated b r)).answers k
  from_right r o s above value =
      let row : Row = pasted (first + size a) r s.row in
      record {
        row = row;
        fits = fits_node o (evaluated a r) b (evaluated b r) first (size a) row (length_answers a r)
            (fits_agree (evaluated a r).answers first r row (agree_length (evaluated a r).answers first (size a) row r (length_answers a r) (pasted_left first (size a) r s.row)) (own_fits a first r n))
            (λ on. fits_agree (evaluated b r).answers (first + size a) s.row row (agree_length (evaluated b r).answers (first + size a) (size b) row s.row (length_answers b r) (pasted_right first (size a) (size b) r s.row)) s.fits);
        changes = right_moves r s.row above value s.changes;
      }

  -- where the operands say that the flip shows, it does
  pub node_moves : (r : Row) (o e l x y : Bool) → o ≡ e → (e ≡ true → truth_of a r ≡ c) → (l ≡ true → truth_of b r ≡ c)
      → (x ≡ true → Moves (truth_of a) first (evaluated a r).answers k) → (x ≡ true → k < first + size a)
      → (y ≡ true → Moves (truth_of b) (first + size a) (evaluated b r).answers k) → (y ≡ true → first + size a ≤ k)
      → shown_where e l x y ≡ true → Moves (node op a b) first (followed_where o (evaluated a r) b (evaluated b r)).answers k
  node_moves r o false l x y same first_value second_value left below right above h =
      let u : (row : Row) × (truth_of b row ≡ c) = takes_either b (first + size a) m c in
      from_left r o (left h) (below h) u.0 u.1 (λ on. let f : true ≡ false = sym on ∙ same in cc)
  node_moves r o true true true y same first_value second_value left below right above h =
      from_left r o (left refl) (below refl) r (second_value refl) (λ on. own_fits b (first + size a) r m)
  node_moves r o true true false y same first_value second_value left below right above h =
      from_right r o (right h) (above h) (first_value refl)
  node_moves r o true false x y same first_value second_value left below right above h =
      from_right r o (right h) (above h) (first_value refl)

-- and where a flip shows, the operands say so
and_says : (x y x2 y2 z p q : Bool) → (x2 ≡ not x → p ≡ true) → (x ≡ true → y2 ≡ not y → q ≡ true) → (x ≡ true → z ≡ y) → (x2 && y2) ≡ not (x && z) → shown_where x y p q ≡ true
and_says false y true y2 z p q left right same h = left refl
and_says false y false y2 z p q left right same h = cc
and_says true true false y2 z p q left right same h = let e : p ≡ true = left refl in rw e refl
and_says true true true true z p q left right same h = let e : z ≡ true = same refl in let f : true ≡ not z = h in let g : true ≡ false = f ∙ ap not e in cc
and_says true true true false z true q left right same h = refl
and_says true true true false z false q left right same h = right refl refl
and_says true false true true z p q left right same h = right refl refl
and_says true false true false z p q left right same h = let e : z ≡ false = same refl in let f : false ≡ not z = h in let g : false ≡ true = f ∙ ap not e in cc
and_says true false false y2 z p q left right same h = let e : z ≡ false = same refl in let f : false ≡ not z = h in let g : false ≡ true = f ∙ ap not e in cc

or_says : (x y x2 y2 z p q : Bool) → (x2 ≡ not x → p ≡ true) → (not x ≡ true → y2 ≡ not y → q ≡ true) → (not x ≡ true → z ≡ y) → (x2 || y2) ≡ not (x || z) → shown_where (not x) (not y) p q ≡ true
or_says true y false y2 z p q left right same h = left refl
or_says true y true y2 z p q left right same h = cc
or_says false false true y2 z p q left right same h = let e : p ≡ true = left refl in rw e refl
or_says false false false false z p q left right same h = let e : z ≡ false = same refl in let f : false ≡ not z = h in let g : false ≡ true = f ∙ ap not e in cc
or_says false false false true z true q left right same h = refl
or_says false false false true z false q left right same h = right refl refl
or_says false true false false z p q left right same h = right refl refl
or_says false true false true z p q left right same h = let e : z ≡ true = same refl in let f : true ≡ not z = h in let g : true ≡ false = f ∙ ap not e in cc
or_says false true true y2 z p q left right same h = let e : z ≡ true = same refl in let f : true ≡ not z = h in let g : true ≡ false = f ∙ ap not e in cc

-- the moves of a node's parts, from its own
module _ (op : Bool → Bool → Bool) (a b : Tree) (first k : ℕ) (n : IsNumberedFrom first a) (m : IsNumberedFrom (first + size a) b)
    (r : Row) (o : Bool) (s : Moves (node op a b) first (followed_where o (evaluated a r) b (evaluated b r)).answers k) where
  fits_a : Fits first (evaluated a r).answers s.row
  fits_a = fits_first o (evaluated a r) b (evaluated b r) first s.row s.fits

  fits_b : o ≡ true → Fits (first + size a) (evaluated b r).answers s.row
  fits_b on = fits_second o (evaluated a r) b (evaluated b r) first (size a) s.row (length_answers a r) on s.fits

  pub left_part : truth_of a (flipped k s.row) ≡ not (truth_of a r) → Moves (truth_of a) first (evaluated a r).answers k
  left_part h = record { row = s.row; fits = fits_a; changes = h ∙ ap not (sym (fits_truth a first r s.row n fits_a)) }

  pub right_part : o ≡ true → truth_of b (flipped k s.row) ≡ not (truth_of b r) → Moves (truth_of b) (first + size a) (evaluated b r).answers k
  right_part on h = record { row = s.row; fits = fits_b on; changes = h ∙ ap not (sym (fits_truth b (first + size a) r s.row m (fits_b on))) }

  pub left_truth : truth_of a s.row ≡ truth_of a r
  left_truth = fits_truth a first r s.row n fits_a

  pub right_truth : o ≡ true → truth_of b s.row ≡ truth_of b r
  right_truth on = fits_truth b (first + size a) r s.row m (fits_b on)

first_shown : (p q x y : Bool) → p ≡ true → x ≡ true → shown_both p q x y ≡ true
first_shown true q true y e f = refl
first_shown true q false y e f = cc
first_shown false q x y e f = cc

second_shown : (p q x y : Bool) → q ≡ true → y ≡ true → shown_both p q x y ≡ true
second_shown true true true true e f = refl
second_shown true true false true e f = refl
second_shown false true x true e f = refl
second_shown p true x false e f = cc
second_shown p false x y e f = cc

-- what turns the value of an operator round
and_turns_first : (y x : Bool) → y ≡ true → (not x && y) ≡ not (x && y)
and_turns_first true true e = refl
and_turns_first true false e = refl
and_turns_first false x e = cc

and_turns_second : (x y : Bool) → x ≡ true → (x && not y) ≡ not (x && y)
and_turns_second true y e = refl
and_turns_second false y e = cc

or_turns_first : (y x : Bool) → not y ≡ true → (not x || y) ≡ not (x || y)
or_turns_first true x e = cc
or_turns_first false true e = refl
or_turns_first false false e = refl

or_turns_second : (x y : Bool) → not x ≡ true → (x || not y) ≡ not (x || y)
or_turns_second true y e = cc
or_turns_second false y e = refl

xor_turns_first : (y x : Bool) → true ≡ true → xor (not x) y ≡ not (xor x y)
xor_turns_first true true e = refl
xor_turns_first true false e = refl
xor_turns_first false true e = refl
xor_turns_first false false e = refl

xor_turns_second : (x y : Bool) → true ≡ true → xor x (not y) ≡ not (xor x y)
xor_turns_second true y e = refl
xor_turns_second false y e = refl

and_says_first : (x y z : Bool) → (z && y) ≡ not (x && y) → (z ≡ not x) × (y ≡ true)
and_says_first true true true h = cc
and_says_first true true false h = (refl, refl)
and_says_first true false true h = cc
and_says_first true false false h = cc
and_says_first false true true h = (refl, refl)
and_says_first false true false h = cc
and_says_first false false true h = cc
and_says_first false false false h = cc

and_says_second : (x y z : Bool) → (x && z) ≡ not (x && y) → (z ≡ not y) × (x ≡ true)
and_says_second true y z h = (h, refl)
and_says_second false y z h = cc

or_says_first : (x y z : Bool) → (z || y) ≡ not (x || y) → (z ≡ not x) × (not y ≡ true)
or_says_first true true true h = cc
or_says_first true true false h = cc
or_says_first true false true h = cc
or_says_first true false false h = (refl, refl)
or_says_first false true true h = cc
or_says_first false true false h = cc
or_says_first false false true h = (refl, refl)
or_says_first false false false h = cc

or_says_second : (x y z : Bool) → (x || z) ≡ not (x || y) → (z ≡ not y) × (not x ≡ true)
or_says_second true y z h = cc
or_says_second false y z h = (h, refl)

xor_says_first : (x y z : Bool) → xor z y ≡ not (xor x y) → (z ≡ not x) × (true ≡ true)
xor_says_first true true true h = cc
xor_says_first true true false h = (refl, refl)
xor_says_first true false true h = cc
xor_says_first true false false h = (refl, refl)
xor_says_first false true true h = (refl, refl)
xor_says_first false true false h = cc
xor_says_first false false true h = (refl, refl)
xor_says_first false false false h = cc

xor_says_second : (x y z : Bool) → xor x z ≡ not (xor x y) → (z ≡ not y) × (true ≡ true)
xor_says_second true true true h = cc
xor_says_second true true false h = (refl, refl)
xor_says_second true false true h = (refl, refl)
xor_says_second true false false h = cc
xor_says_second false y z h = (h, refl)

-- A node whose operands are both evaluated.
module _ (op : Bool → Bool → Bool) (a b : Tree) (first k : ℕ) (n : IsNumberedFrom first a) (m : IsNumberedFrom (first + size a) b) (r : Row) where
  -- the flip is on p in the first operand, or on q in the second, and the other row has the evaluation's truth
  pasted_fits : (p q : Row) → Fits first (evaluated a r).answers p → Fits (first + size a) (evaluated b r).answers q
      → Fits first ((evaluated a r).answers ++ (evaluated b r).answers) (pasted (first + size a) p q)
  pasted_fits p q f g =
      let row : Row = pasted (first + size a) p q in
      fits_node true (evaluated a r) b (evaluated b r) first (size a) row (length_answers a r)
      (fits_agree (evaluated a r).answers first p row (agree_length (evaluated a r).answers first (size a) row p (length_answers a r) (pasted_left first (size a) p q)) f)
      (λ on. fits_agree (evaluated b r).answers (first + size a) q row (agree_length (evaluated b r).answers (first + size a) (size b) row q (length_answers b r) (pasted_right first (size a) (size b) p q)) g)

  pasted_first : (p q : Row) → truth_of a (pasted (first + size a) p q) ≡ truth_of a p
  pasted_first p q = same_truth a first (pasted (first + size a) p q) p n (pasted_left first (size a) p q)

  pasted_second : (p q : Row) → truth_of b (pasted (first + size a) p q) ≡ truth_of b q
  pasted_second p q = same_truth b (first + size a) (pasted (first + size a) p q) q m (pasted_right first (size a) (size b) p q)

  both_left : k < first + size a → ((x : Bool) → op (not x) (truth_of b r) ≡ not (op x (truth_of b r))) → Moves (truth_of a) first (evaluated a r).answers k
      → Moves (node op a b) first ((evaluated a r).answers ++ (evaluated b r).answers) k
  both_left below turns s =
      let row : Row = pasted (first + size a) s.row r in
      let flip_a : truth_of a (flipped k row) ≡ not (truth_of a s.row) = same_truth a first (flipped k row) (flipped k s.row) n (agree_flipped k first (size a) row s.row (pasted_left first (size a) s.row r)) ∙ s.changes in
      let flip_b : truth_of b (flipped k row) ≡ truth_of b r = same_truth b (first + size a) (flipped k row) row m (agree_outside k (first + size a) (size b) row (inl below)) ∙ pasted_second s.row r in
      let P : Bool → Bool = λ x. op x (truth_of b (flipped k row)) in
      let Q : Bool → Bool = λ y. op (not (truth_of a s.row)) y in
      let R : Bool → Bool = λ x. op x (truth_of b row) in
      let S : Bool → Bool = λ y. op (truth_of a s.row) y in
      record {
        row = row;
        fits = pasted_fits s.row r s.fits (own_fits b (first + size a) r m);
        changes = ap P flip_a ∙ ap Q flip_b ∙ turns (truth_of a s.row) ∙ ap not (sym (ap R (pasted_first s.row r) ∙ ap S (pasted_second s.row r)));
      }

  both_right : first + size a ≤ k → ((y : Bool) → op (truth_of a r) (not y) ≡ not (op (truth_of a r) y)) → Moves (truth_of b) (first + size a) (evaluated b r).answers k
      → Moves (node op a b) first ((evaluated a r).answers ++ (evaluated b r).answers) k
  both_right above turns s =
      let row : Row = pasted (first + size a) r s.row in
      let flip_a : truth_of a (flipped k row) ≡ truth_of a r = same_truth a first (flipped k row) row n (agree_outside k first (size a) row (inr above)) ∙ pasted_first r s.row in
      let flip_b : truth_of b (flipped k row) ≡ not (truth_of b s.row) = same_truth b (first + size a) (flipped k row) (flipped k s.row) m (agree_flipped k (first + size a) (size b) row s.row (pasted_right first (size a) (size b) r s.row)) ∙ s.changes in
      let P : Bool → Bool = λ x. op x (truth_of b (flipped k row)) in
      let Q : Bool → Bool = λ y. op (truth_of a r) y in
      let R : Bool → Bool = λ x. op x (truth_of b row) in
      record {
        row = row;
        fits = pasted_fits r s.row (own_fits a first r n) s.fits;
        changes = ap P flip_a ∙ ap Q flip_b ∙ turns (truth_of b s.row) ∙ ap not (sym (ap R (pasted_first r s.row) ∙ ap Q (pasted_second r s.row)));
      }

  -- where the operands say that the flip shows, it does
  pub both_move : (f s x y : Bool) → (f ≡ true → (p : Bool) → op (not p) (truth_of b r) ≡ not (op p (truth_of b r))) → (s ≡ true → (q : Bool) → op (truth_of a r) (not q) ≡ not (op (truth_of a r) q))
      → (x ≡ true → Moves (truth_of a) first (evaluated a r).answers k) → (x ≡ true → k < first + size a)
      → (y ≡ true → Moves (truth_of b) (first + size a) (evaluated b r).answers k) → (y ≡ true → first + size a ≤ k)
      → shown_both f s x y ≡ true → Moves (node op a b) first ((evaluated a r).answers ++ (evaluated b r).answers) k
  both_move f s x y turns_first turns_second left below right above h =
      elim (in_one f s x y h) [
        | inl one ↦ both_left (below one.1) (turns_first one.0) (left one.1)
        | inr one ↦ both_right (above one.1) (turns_second one.0) (right one.1)
      ]

  -- and where a flip shows, the operands say so
  module _ (s : Moves (node op a b) first ((evaluated a r).answers ++ (evaluated b r).answers) k) where
    first_turns : k < first + size a → op (truth_of a (flipped k s.row)) (truth_of b r) ≡ not (op (truth_of a r) (truth_of b r))
    first_turns low =
        let P : Bool → Bool = λ y. op (truth_of a (flipped k s.row)) y in
        let Q : Bool → Bool = λ x. op x (truth_of b s.row) in
        let R : Bool → Bool = λ y. op (truth_of a r) y in
        let still : truth_of b (flipped k s.row) ≡ truth_of b r = same_truth b (first + size a) (flipped k s.row) s.row m (agree_outside k (first + size a) (size b) s.row (inl low)) ∙ right_truth op a b first k n m r true s refl in
        sym (ap P still) ∙ s.changes ∙ ap not (ap Q (left_truth op a b first k n m r true s) ∙ ap R (right_truth op a b first k n m r true s refl))

    second_turns : first + size a ≤ k → op (truth_of a r) (truth_of b (flipped k s.row)) ≡ not (op (truth_of a r) (truth_of b r))
    second_turns high =
        let P : Bool → Bool = λ x. op x (truth_of b (flipped k s.row)) in
        let Q : Bool → Bool = λ x. op x (truth_of b s.row) in
        let R : Bool → Bool = λ y. op (truth_of a r) y in
        let still : truth_of a (flipped k s.row) ≡ truth_of a r = same_truth a first (flipped k s.row) s.row n (agree_outside k first (size a) s.row (inr high)) ∙ left_truth op a b first k n m r true s in
        sym (ap P still) ∙ s.changes ∙ ap not (ap Q (left_truth op a b first k n m r true s) ∙ ap R (right_truth op a b first k n m r true s refl))

    pub both_say : (p q x y : Bool) → ((z : Bool) → op z (truth_of b r) ≡ not (op (truth_of a r) (truth_of b r)) → (z ≡ not (truth_of a r)) × (p ≡ true))
        → ((z : Bool) → op (truth_of a r) z ≡ not (op (truth_of a r) (truth_of b r)) → (z ≡ not (truth_of b r)) × (q ≡ true))
        → (Moves (truth_of a) first (evaluated a r).answers k → x ≡ true) → (Moves (truth_of b) (first + size a) (evaluated b r).answers k → y ≡ true)
        → shown_both p q x y ≡ true
    both_say p q x y says_first says_second left right =
        elim (cases_lt k (first + size a)) [
          | inl low ↦ (let e = says_first (truth_of a (flipped k s.row)) (first_turns low) in first_shown p q x y e.1 (left (left_part op a b first k n m r true s e.0)))
          | inr high ↦ (let e = says_second (truth_of b (flipped k s.row)) (second_turns high) in second_shown p q x y e.1 (right (right_part op a b first k n m r true s refl e.0)))
        ]

-- whole trees
and_first : (x : Bool) → x && true ≡ x
and_first true = refl
and_first false = refl

or_first : (x : Bool) → x || false ≡ x
or_first true = refl
or_first false = refl

not_true : (x : Bool) → not x ≡ true → x ≡ false
not_true true h = sym h
not_true false h = refl

not_both : (x y : Bool) → not x ≡ not y → x ≡ y
not_both true true h = refl
not_both true false h = sym h
not_both false true h = sym h
not_both false false h = refl

pub never_own : (x : Bool) → x ≢ not x
never_own true h = cc
never_own false h = cc

pub moves_where : (t : Tree) (first : ℕ) (r : Row) (k : ℕ) → IsNumberedFrom first t → reaches t r k ≡ true → Moves (truth_of t) first (evaluated t r).answers k
moves_where (Leaf j) first r k n h =
    record {
      row = r;
      fits = own_fits (Leaf j) first r n;
      changes = elim (flip_at k r j) [ inl same ↦ same.1 | inr other ↦ absurd (other.0 (elim (eqb_tells k j) [ inl e ↦ sym e.1 | inr e ↦ (let f : true ≡ false = sym h ∙ e.0 in cc) ])) ];
    }
moves_where (Not a) first r k n h =
    let s : Moves (truth_of a) first (evaluated a r).answers k = moves_where a first r k n h in
    record { row = s.row; fits = s.fits; changes = ap not s.changes }
moves_where (And a b) first r k n h =
    node_moves (λ x y. x && y) true and_first (λ y. refl) a b first k n.0 n.1 r (evaluated a r).outcome (truth_of a r) (truth_of b r) (reaches a r k) (reaches b r k)
    (outcome_is_truth a r) (λ e. e) (λ e. e)
    (moves_where a first r k n.0) (λ e. (reaches_within a first r k n.0 e).1)
    (moves_where b (first + size a) r k n.1) (λ e. (reaches_within b (first + size a) r k n.1 e).0) h
moves_where (Or a b) first r k n h =
    node_moves (λ x y. x || y) false or_first (λ y. refl) a b first k n.0 n.1 r (not (evaluated a r).outcome) (not (truth_of a r)) (not (truth_of b r)) (reaches a r k) (reaches b r k)
    (ap not (outcome_is_truth a r)) (not_true (truth_of a r)) (not_true (truth_of b r))
    (moves_where a first r k n.0) (λ e. (reaches_within a first r k n.0 e).1)
    (moves_where b (first + size a) r k n.1) (λ e. (reaches_within b (first + size a) r k n.1 e).0) h
moves_where (FullAnd a b) first r k n h =
    both_move (λ x y. x && y) a b first k n.0 n.1 r (truth_of b r) (truth_of a r) (reaches a r k) (reaches b r k)
    (λ e p. and_turns_first (truth_of b r) p e) (λ e q. and_turns_second (truth_of a r) q e)
    (moves_where a first r k n.0) (λ e. (reaches_within a first r k n.0 e).1)
    (moves_where b (first + size a) r k n.1) (λ e. (reaches_within b (first + size a) r k n.1 e).0) h
moves_where (FullOr a b) first r k n h =
    both_move (λ x y. x || y) a b first k n.0 n.1 r (not (truth_of b r)) (not (truth_of a r)) (reaches a r k) (reaches b r k)
    (λ e p. or_turns_first (truth_of b r) p e) (λ e q. or_turns_second (truth_of a r) q e)
    (moves_where a first r k n.0) (λ e. (reaches_within a first r k n.0 e).1)
    (moves_where b (first + size a) r k n.1) (λ e. (reaches_within b (first + size a) r k n.1 e).0) h
moves_where (FullXor a b) first r k n h =
    both_move xor a b first k n.0 n.1 r true true (reaches a r k) (reaches b r k)
    (λ e p. xor_turns_first (truth_of b r) p e) (λ e q. xor_turns_second (truth_of a r) q e)
    (moves_where a first r k n.0) (λ e. (reaches_within a first r k n.0 e).1)
    (moves_where b (first + size a) r k n.1) (λ e. (reaches_within b (first + size a) r k n.1 e).0) h

pub reaches_where : (t : Tree) (first : ℕ) (r : Row) (k : ℕ) → IsNumberedFrom first t → Moves (truth_of t) first (evaluated t r).answers k → reaches t r k ≡ true
reaches_where (Leaf j) first r k n s =
    elim (eqb_tells k j) [
      | inl same ↦ same.0
      | inr other ↦ absurd (elim (flip_at k s.row j) [ inl e ↦ other.1 (sym e.0) | inr e ↦ never_own (s.row j) (sym e.1 ∙ s.changes) ])
    ]
reaches_where (Not a) first r k n s =
    reaches_where a first r k n (record { row = s.row; fits = s.fits; changes = not_both (truth_of a (flipped k s.row)) (not (truth_of a s.row)) s.changes })
reaches_where (And a b) first r k n s =
    let P : Bool → Type 0 = λ x. truth_of (And a b) (flipped k s.row) ≡ not (x && truth_of b s.row) in
    and_says (truth_of a r) (truth_of b r) (truth_of a (flipped k s.row)) (truth_of b (flipped k s.row)) (truth_of b s.row) (reaches a r k) (reaches b r k)
    (λ e. reaches_where a first r k n.0 (left_part (λ x y. x && y) a b first k n.0 n.1 r (evaluated a r).outcome s e))
    (λ on e. reaches_where b (first + size a) r k n.1 (right_part (λ x y. x && y) a b first k n.0 n.1 r (evaluated a r).outcome s (outcome_is_truth a r ∙ on) e))
    (λ on. right_truth (λ x y. x && y) a b first k n.0 n.1 r (evaluated a r).outcome s (outcome_is_truth a r ∙ on))
    (subst P (left_truth (λ x y. x && y) a b first k n.0 n.1 r (evaluated a r).outcome s) s.changes)
reaches_where (Or a b) first r k n s =
    let P : Bool → Type 0 = λ x. truth_of (Or a b) (flipped k s.row) ≡ not (x || truth_of b s.row) in
    or_says (truth_of a r) (truth_of b r) (truth_of a (flipped k s.row)) (truth_of b (flipped k s.row)) (truth_of b s.row) (reaches a r k) (reaches b r k)
    (λ e. reaches_where a first r k n.0 (left_part (λ x y. x || y) a b first k n.0 n.1 r (not (evaluated a r).outcome) s e))
    (λ on e. reaches_where b (first + size a) r k n.1 (right_part (λ x y. x || y) a b first k n.0 n.1 r (not (evaluated a r).outcome) s (ap not (outcome_is_truth a r) ∙ on) e))
    (λ on. right_truth (λ x y. x || y) a b first k n.0 n.1 r (not (evaluated a r).outcome) s (ap not (outcome_is_truth a r) ∙ on))
    (subst P (left_truth (λ x y. x || y) a b first k n.0 n.1 r (not (evaluated a r).outcome) s) s.changes)
reaches_where (FullAnd a b) first r k n s =
    both_say (λ x y. x && y) a b first k n.0 n.1 r s (truth_of b r) (truth_of a r) (reaches a r k) (reaches b r k)
    (and_says_first (truth_of a r) (truth_of b r)) (and_says_second (truth_of a r) (truth_of b r))
    (reaches_where a first r k n.0) (reaches_where b (first + size a) r k n.1)
reaches_where (FullOr a b) first r k n s =
    both_say (λ x y. x || y) a b first k n.0 n.1 r s (not (truth_of b r)) (not (truth_of a r)) (reaches a r k) (reaches b r k)
    (or_says_first (truth_of a r) (truth_of b r)) (or_says_second (truth_of a r) (truth_of b r))
    (reaches_where a first r k n.0) (reaches_where b (first + size a) r k n.1)
reaches_where (FullXor a b) first r k n s =
    both_say xor a b first k n.0 n.1 r s true true (reaches a r k) (reaches b r k)
    (xor_says_first (truth_of a r) (truth_of b r)) (xor_says_second (truth_of a r) (truth_of b r))
    (reaches_where a first r k n.0) (reaches_where b (first + size a) r k n.1)
