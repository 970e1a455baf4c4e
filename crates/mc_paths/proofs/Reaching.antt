-- What following a number comes to.
use Rattle.std.proofs.Common.{◌≡◌, ℕ, ◌+◌, ◌-◌, ◌<◌, ◌≤◌, Bool, true, false, not, ◌&&◌, ◌||◌, Some, List, [], ◌∷◌, ◌++◌, length, length-append, refl, sym, ap, ◌∙◌, arith}
use Rattle.std.specs.Prelude.{max, nat_lt, slice_index}
use Rattle.std.proofs.lemmas.Bool.Decides.{nat_tests}
use Rattle.std.proofs.lemmas.List.{get_or_append_left, get_or-append-add}
use Rattle.mc_cond.specs.Tree.{Tree, Leaf, Not, And, Or, FullAnd, FullOr, FullXor, size, IsNumberedFrom, IsShort}
use Rattle.mc_cond.specs.Vectors.{Row, Evaluation, xor, skipped, followed_where, evaluated_both, evaluated}
use Rattle.mc_cond.proofs.Rows.{both_same, same_evaluation, pasted, pasted_left, pasted_right, length_answers}
use Rattle.mc_paths.specs.Paths.{room, false_edges, sum_along}
use Rattle.mc_paths.specs.steps.Descent.{Descent, descended_where, descended_both, taken, descent}
use Rattle.mc_paths.proofs.Counting.{side, carry, total, led, led_both, Leads, leads_and, leads_or, side_not, side_and, side_or, side_xor, length_edges, same_length, sum_append, sum_none, fits}

-- the evaluation that a descent comes to
abbrev pub seen : Descent → Evaluation
seen d = record { answers = d.answers; outcome = d.outcome }

-- the descent comes to an evaluation of the tree, and its number is the path's, but for what is left
pub record Reaches (t : Tree) (x y path : ℕ) (d : Descent) : Type 0 where
  pub row : Row
  pub same : evaluated t row ≡ seen d
  pub sum : sum_along d.answers (false_edges t x y) + d.left ≡ path

-- the increments of a part of the tree stand from `first` on
abbrev pub Stand : List ℕ → ℕ → List ℕ → Type 0
Stand on_false first es = (k : ℕ) → k < length es → slice_index on_false (first + k) ≡ slice_index es k

stand_left : (on_false : List ℕ) (first : ℕ) (es fs : List ℕ) → Stand on_false first (es ++ fs) → Stand on_false first es
stand_left on_false first es fs h k lt = h k (omega (arith, lt, length-append es fs)) ∙ get_or_append_left es fs 0 k lt

stand_right : (on_false : List ℕ) (first n : ℕ) (es fs : List ℕ) → length es ≡ n → Stand on_false first (es ++ fs) → Stand on_false (first + n) fs
stand_right on_false first n es fs e h k lt =
    let P : ℕ → ℕ = λ i. slice_index on_false i in
    let at : first + n + k ≡ first + (length es + k) = omega (arith, e) in
    ap P at ∙ h (length es + k) (omega (arith, lt, length-append es fs)) ∙ get_or-append-add es fs k 0

reaches_leaf : (x y path k on : ℕ) → on ≡ x → (o : Bool) → nat_lt path on ≡ o → Reaches (Leaf k) x y path (taken on path)
reaches_leaf x y path k on e true test = rw test (record { row = λ j. true; same = refl; sum = omega arith })
reaches_leaf x y path k on e false test =
    let more : on ≤ path = grind (arith, nat_tests) in
    rw test (record { row = λ j. false; same = refl; sum = omega (arith, e, more) })

abbrev turned : Descent → Descent
turned d = record { answers = d.answers; outcome = not d.outcome; left = d.left }

reaches_not : (a : Tree) (x y path : ℕ) (d : Descent) → Reaches a y x path d → Reaches (Not a) x y path (turned d)
reaches_not a x y path d r =
    let P : Evaluation → Evaluation = λ v. record { answers = v.answers; outcome = not v.outcome } in
    record { row = r.row; same = ap P r.same; sum = r.sum }

-- both operands, with u and w as the rooms after the first, x and y after the second
module _ (a b : Tree) (first u w x y path : ℕ) (na : IsNumberedFrom first a) (nb : IsNumberedFrom (first + size a) b) (d e : Descent) (r : Reaches a u w path d) where
  lengths : length d.answers ≡ length (false_edges a u w)
  lengths =
      let P : Evaluation → ℕ = λ v. length v.answers in
      sym (ap P r.same) ∙ length_answers a r.row ∙ sym (length_edges a u w)

  -- the second operand is passed over
  sum_past : sum_along (d.answers ++ skipped b) (false_edges a u w ++ false_edges b x y) + d.left ≡ path
  sum_past = omega (arith, sum_append d.answers (skipped b) (false_edges a u w) (false_edges b x y) lengths, sum_none (size b) (false_edges b x y), r.sum)

  -- it is evaluated
  module _ (s : Reaches b x y d.left e) where
    pasted_row : Row
    pasted_row = pasted (first + size a) r.row s.row

    left_again : evaluated a pasted_row ≡ seen d
    unfolding pasted_row
    left_again = same_evaluation a first (pasted (first + size a) r.row s.row) r.row na (pasted_left first (size a) r.row s.row) ∙ r.same

    right_again : evaluated b pasted_row ≡ seen e
    unfolding pasted_row
    right_again = same_evaluation b (first + size a) (pasted (first + size a) r.row s.row) s.row nb (pasted_right first (size a) (size b) r.row s.row) ∙ s.same

    sum_through : sum_along (d.answers ++ e.answers) (false_edges a u w ++ false_edges b x y) + e.left ≡ path
    sum_through = omega (arith, sum_append d.answers e.answers (false_edges a u w) (false_edges b x y) lengths, r.sum, s.sum)

  -- AND, where `f` is the outcome itself, or OR, where `f` is NOT
  record Either (f : Bool → Bool) (z : Descent) : Type 0 where
    row : Row
    same : followed_where (f (evaluated a row).outcome) (evaluated a row) b (evaluated b row) ≡ seen z
    sum : sum_along z.answers (false_edges a u w ++ false_edges b x y) + z.left ≡ path

  either_reached : (f : Bool → Bool) (n : Bool) → f d.outcome ≡ n → Reaches b x y d.left e → Either f (descended_where n d b e)
  either_reached f true needed s =
      let P : Evaluation → Evaluation = λ v. followed_where (f v.outcome) v b (evaluated b (pasted_row s)) in
      let Q : Bool → Evaluation = λ n. followed_where n (seen d) b (evaluated b (pasted_row s)) in
      let R : Evaluation → Evaluation = λ v. followed_where true (seen d) b v in
      record { row = pasted_row s; same = ap P (left_again s) ∙ ap Q needed ∙ ap R (right_again s); sum = sum_through s }
  either_reached f false needless s =
      let P : Evaluation → Evaluation = λ v. followed_where (f v.outcome) v b (evaluated b r.row) in
      let Q : Bool → Evaluation = λ n. followed_where n (seen d) b (evaluated b r.row) in
      record { row = r.row; same = ap P r.same ∙ ap Q needless; sum = sum_past }

  -- operators that are evaluated in full
  record Both (op : Bool → Bool → Bool) (z : Descent) : Type 0 where
    row : Row
    same : evaluated_both op (evaluated a row) (evaluated b row) ≡ seen z
    sum : sum_along z.answers (false_edges a u w ++ false_edges b x y) + z.left ≡ path

  both_reached : (op : Bool → Bool → Bool) → Reaches b x y d.left e → Both op (descended_both op d e)
  both_reached op s =
      record { row = pasted_row s; same = both_same op (evaluated a (pasted_row s)) (evaluated b (pasted_row s)) (seen d) (seen e) (left_again s) (right_again s); sum = sum_through s }

-- following any number reaches an evaluation of the tree
pub reaches : (t : Tree) (first x y path : ℕ) (on_false : List ℕ) → IsNumberedFrom first t → Stand on_false first (false_edges t x y) → Reaches t x y path (descent t on_false path)
reaches (Leaf k) first x y path on_false n h =
    let P : ℕ → ℕ = λ i. slice_index on_false i in
    let at : k ≡ first + 0 = omega (arith, n) in
    reaches_leaf x y path k (slice_index on_false k) (ap P at ∙ h 0 (omega arith)) (nat_lt path (slice_index on_false k)) refl
reaches (Not a) first x y path on_false n h = reaches_not a x y path (descent a on_false path) (reaches a first y x path on_false n h)
reaches (And a b) first x y path on_false n h =
    let d : Descent = descent a on_false path in
    let r = reaches a first (room b x y) y path on_false n.0 (stand_left on_false first (false_edges a (room b x y) y) (false_edges b x y) h) in
    let s = reaches b (first + size a) x y d.left on_false n.1 (stand_right on_false first (size a) (false_edges a (room b x y) y) (false_edges b x y) (length_edges a (room b x y) y) h) in
    let z = either_reached a b first (room b x y) y x y path n.0 n.1 d (descent b on_false d.left) r (λ o. o) d.outcome refl s in
    record { row = z.row; same = z.same; sum = z.sum }
reaches (Or a b) first x y path on_false n h =
    let d : Descent = descent a on_false path in
    let r = reaches a first x (room b x y) path on_false n.0 (stand_left on_false first (false_edges a x (room b x y)) (false_edges b x y) h) in
    let s = reaches b (first + size a) x y d.left on_false n.1 (stand_right on_false first (size a) (false_edges a x (room b x y)) (false_edges b x y) (length_edges a x (room b x y)) h) in
    let z = either_reached a b first x (room b x y) x y path n.0 n.1 d (descent b on_false d.left) r not (not d.outcome) refl s in
    record { row = z.row; same = z.same; sum = z.sum }
reaches (FullAnd a b) first x y path on_false n h =
    let d : Descent = descent a on_false path in
    let r = reaches a first (room b (max x y) y) (room b (max x y) y) path on_false n.0 (stand_left on_false first (false_edges a (room b (max x y) y) (room b (max x y) y)) (false_edges b (max x y) y) h) in
    let s = reaches b (first + size a) (max x y) y d.left on_false n.1 (stand_right on_false first (size a) (false_edges a (room b (max x y) y) (room b (max x y) y)) (false_edges b (max x y) y) (length_edges a (room b (max x y) y) (room b (max x y) y)) h) in
    let z = both_reached a b first (room b (max x y) y) (room b (max x y) y) (max x y) y path n.0 n.1 d (descent b on_false d.left) r (λ (o : Bool) (p : Bool). o && p) s in
    record { row = z.row; same = z.same; sum = z.sum }
reaches (FullOr a b) first x y path on_false n h =
    let d : Descent = descent a on_false path in
    let r = reaches a first (room b x (max x y)) (room b x (max x y)) path on_false n.0 (stand_left on_false first (false_edges a (room b x (max x y)) (room b x (max x y))) (false_edges b x (max x y)) h) in
    let s = reaches b (first + size a) x (max x y) d.left on_false n.1 (stand_right on_false first (size a) (false_edges a (room b x (max x y)) (room b x (max x y))) (false_edges b x (max x y)) (length_edges a (room b x (max x y)) (room b x (max x y))) h) in
    let z = both_reached a b first (room b x (max x y)) (room b x (max x y)) x (max x y) path n.0 n.1 d (descent b on_false d.left) r (λ (o : Bool) (p : Bool). o || p) s in
    record { row = z.row; same = z.same; sum = z.sum }
reaches (FullXor a b) first x y path on_false n h =
    let d : Descent = descent a on_false path in
    let r = reaches a first (room b (max x y) (max x y)) (room b (max x y) (max x y)) path on_false n.0 (stand_left on_false first (false_edges a (room b (max x y) (max x y)) (room b (max x y) (max x y))) (false_edges b (max x y) (max x y)) h) in
    let s = reaches b (first + size a) (max x y) (max x y) d.left on_false n.1 (stand_right on_false first (size a) (false_edges a (room b (max x y) (max x y)) (room b (max x y) (max x y))) (false_edges b (max x y) (max x y)) (length_edges a (room b (max x y) (max x y)) (room b (max x y) (max x y))) h) in
    let z = both_reached a b first (room b (max x y) (max x y)) (room b (max x y) (max x y)) (max x y) (max x y) path n.0 n.1 d (descent b on_false d.left) r xor s in
    record { row = z.row; same = z.same; sum = z.sum }

-- ---- the number of an evaluation leads to it

-- an evaluation with what is left of a number after it
abbrev pub ended : Evaluation → ℕ → Descent
ended v c = record { answers = v.answers; outcome = v.outcome; left = c }

abbrev single : Bool → Evaluation
single o = record { answers = Some o ∷ []; outcome = o }

descends_leaf : (o : Bool) (on x y path c : ℕ) → on ≡ x → c < side o x y → path ≡ sum_along (Some o ∷ []) (x ∷ []) + c → taken on path ≡ ended (single o) c
descends_leaf true on x y path c e lt is =
    let test : nat_lt path on ≡ true = grind (arith, nat_tests) in
    let P : ℕ → Descent = λ n. ended (single true) n in
    rw test (ap P (omega (arith, is)))
descends_leaf false on x y path c e lt is =
    let test : nat_lt path on ≡ false = grind (arith, nat_tests) in
    let P : ℕ → Descent = λ n. ended (single false) n in
    rw test (ap P (omega (arith, is, e)))

descends_second : (n : Bool) (e : Evaluation) (b : Tree) (g : Evaluation) (fs on_false : List ℕ) (c : ℕ) → (n ≡ true → descent b on_false (carry n g fs + c) ≡ ended g c)
    → descended_where n (ended e (carry n g fs + c)) b (descent b on_false (carry n g fs + c)) ≡ ended (followed_where n e b g) c
descends_second true e b g fs on_false c next =
    let P : Descent → Descent = λ z. descended_where true (ended e (sum_along g.answers fs + c)) b z in
    ap P (next refl)
descends_second false e b g fs on_false c next =
    let P : ℕ → Descent = λ n. record { answers = e.answers ++ skipped b; outcome = e.outcome; left = n } in
    ap P (omega arith)

carry_on : (n : Bool) (g : Evaluation) (fs : List ℕ) (c : ℕ) → n ≡ true → carry n g fs + c ≡ sum_along g.answers fs + c
carry_on true g fs c on = refl
carry_on false g fs c on = cc

room_on : (n : Bool) (e : Evaluation) (b : Tree) (g : Evaluation) (x y c : ℕ) → n ≡ true → c < side (followed_where n e b g).outcome x y → c < side g.outcome x y
room_on true e b g x y c on lt = lt
room_on false e b g x y c on lt = cc

pub descends : (t : Tree) (first x y c : ℕ) (row : Row) (on_false : List ℕ) → IsNumberedFrom first t → Stand on_false first (false_edges t x y) → c < side (evaluated t row).outcome x y
    → (path : ℕ) → path ≡ sum_along (evaluated t row).answers (false_edges t x y) + c → descent t on_false path ≡ ended (evaluated t row) c
descends (Leaf k) first x y c row on_false n h lt path is =
    let P : ℕ → ℕ = λ i. slice_index on_false i in
    let at : k ≡ first + 0 = omega (arith, n) in
    descends_leaf (row k) (slice_index on_false k) x y path c (ap P at ∙ h 0 (omega arith)) lt is
descends (Not a) first x y c row on_false n h lt path is =
    ap turned (descends a first y x c row on_false n h (rw (← side_not (evaluated a row).outcome x y) lt) path is)
descends (And a b) first x y c row on_false n h lt path is =
    let e = evaluated a row in
    let g = evaluated b row in
    let o : Bool = (evaluated a row).outcome in
    let es = false_edges a (room b x y) y in
    let fs = false_edges b x y in
    let after : carry o g fs + side (followed_where o e b g).outcome x y ≤ side e.outcome (room b x y) y = led o e b g fs (room b x y) y (room b x y) x y (leads_and (room b x y) x y e.outcome) (fits b row x y) in
    let there : path ≡ sum_along e.answers es + (carry o g fs + c) = omega (arith, is, total o e b g es fs (same_length a row (room b x y) y)) in
    let one : descent a on_false path ≡ ended e (carry o g fs + c) = descends a first (room b x y) y (carry o g fs + c) row on_false n.0 (stand_left on_false first es fs h) (omega (arith, after, lt)) path there in
    let P : Descent → Descent = λ d. descended_where d.outcome d b (descent b on_false d.left) in
    ap P one ∙ descends_second o e b g fs on_false c (λ on.
    descends b (first + size a) x y c row on_false n.1 (stand_right on_false first (size a) es fs (length_edges a (room b x y) y) h) (room_on o e b g x y c on lt) (carry o g fs + c) (carry_on o g fs c on))
descends (Or a b) first x y c row on_false n h lt path is =
    let e = evaluated a row in
    let g = evaluated b row in
    let o : Bool = not (evaluated a row).outcome in
    let es = false_edges a x (room b x y) in
    let fs = false_edges b x y in
    let after : carry o g fs + side (followed_where o e b g).outcome x y ≤ side e.outcome x (room b x y) = led o e b g fs x (room b x y) (room b x y) x y (leads_or (room b x y) x y e.outcome) (fits b row x y) in
    let there : path ≡ sum_along e.answers es + (carry o g fs + c) = omega (arith, is, total o e b g es fs (same_length a row x (room b x y))) in
    let one : descent a on_false path ≡ ended e (carry o g fs + c) = descends a first x (room b x y) (carry o g fs + c) row on_false n.0 (stand_left on_false first es fs h) (omega (arith, after, lt)) path there in
    let P : Descent → Descent = λ d. descended_where (not d.outcome) d b (descent b on_false d.left) in
    ap P one ∙ descends_second o e b g fs on_false c (λ on.
    descends b (first + size a) x y c row on_false n.1 (stand_right on_false first (size a) es fs (length_edges a x (room b x y)) h) (room_on o e b g x y c on lt) (carry o g fs + c) (carry_on o g fs c on))
descends (FullAnd a b) first x y c row on_false n h lt path is =
    let e = evaluated a row in
    let g = evaluated b row in
    let es = false_edges a (room b (max x y) y) (room b (max x y) y) in
    let fs = false_edges b (max x y) y in
    let less : side ((λ (o : Bool) (p : Bool). o && p) e.outcome g.outcome) x y ≤ side g.outcome (max x y) y = side_and x y e.outcome g.outcome in
    let after : sum_along g.answers fs + side ((λ (o : Bool) (p : Bool). o && p) e.outcome g.outcome) x y ≤ side e.outcome (room b (max x y) y) (room b (max x y) y) = led_both e.outcome g fs (room b (max x y) y) (max x y) y (side ((λ (o : Bool) (p : Bool). o && p) e.outcome g.outcome) x y) less (fits b row (max x y) y) in
    let there : path ≡ sum_along e.answers es + (sum_along g.answers fs + c) = omega (arith, is, sum_append e.answers g.answers es fs (same_length a row (room b (max x y) y) (room b (max x y) y))) in
    let one : descent a on_false path ≡ ended e (sum_along g.answers fs + c) = descends a first (room b (max x y) y) (room b (max x y) y) (sum_along g.answers fs + c) row on_false n.0 (stand_left on_false first es fs h) (omega (arith, after, lt)) path there in
    let other : descent b on_false (sum_along g.answers fs + c) ≡ ended g c = descends b (first + size a) (max x y) y c row on_false n.1 (stand_right on_false first (size a) es fs (length_edges a (room b (max x y) y) (room b (max x y) y)) h) (omega (arith, less, lt)) (sum_along g.answers fs + c) refl in
    let P : Descent → Descent = λ d. descended_both (λ (o : Bool) (p : Bool). o && p) d (descent b on_false d.left) in
    let Q : Descent → Descent = λ d. descended_both (λ (o : Bool) (p : Bool). o && p) (ended e (sum_along g.answers fs + c)) d in
    ap P one ∙ ap Q other
descends (FullOr a b) first x y c row on_false n h lt path is =
    let e = evaluated a row in
    let g = evaluated b row in
    let es = false_edges a (room b x (max x y)) (room b x (max x y)) in
    let fs = false_edges b x (max x y) in
    let less : side ((λ (o : Bool) (p : Bool). o || p) e.outcome g.outcome) x y ≤ side g.outcome x (max x y) = side_or x y e.outcome g.outcome in
    let after : sum_along g.answers fs + side ((λ (o : Bool) (p : Bool). o || p) e.outcome g.outcome) x y ≤ side e.outcome (room b x (max x y)) (room b x (max x y)) = led_both e.outcome g fs (room b x (max x y)) x (max x y) (side ((λ (o : Bool) (p : Bool). o || p) e.outcome g.outcome) x y) less (fits b row x (max x y)) in
    let there : path ≡ sum_along e.answers es + (sum_along g.answers fs + c) = omega (arith, is, sum_append e.answers g.answers es fs (same_length a row (room b x (max x y)) (room b x (max x y)))) in
    let one : descent a on_false path ≡ ended e (sum_along g.answers fs + c) = descends a first (room b x (max x y)) (room b x (max x y)) (sum_along g.answers fs + c) row on_false n.0 (stand_left on_false first es fs h) (omega (arith, after, lt)) path there in
    let other : descent b on_false (sum_along g.answers fs + c) ≡ ended g c = descends b (first + size a) x (max x y) c row on_false n.1 (stand_right on_false first (size a) es fs (length_edges a (room b x (max x y)) (room b x (max x y))) h) (omega (arith, less, lt)) (sum_along g.answers fs + c) refl in
    let P : Descent → Descent = λ d. descended_both (λ (o : Bool) (p : Bool). o || p) d (descent b on_false d.left) in
    let Q : Descent → Descent = λ d. descended_both (λ (o : Bool) (p : Bool). o || p) (ended e (sum_along g.answers fs + c)) d in
    ap P one ∙ ap Q other
descends (FullXor a b) first x y c row on_false n h lt path is =
    let e = evaluated a row in
    let g = evaluated b row in
    let es = false_edges a (room b (max x y) (max x y)) (room b (max x y) (max x y)) in
    let fs = false_edges b (max x y) (max x y) in
    let less : side (xor e.outcome g.outcome) x y ≤ side g.outcome (max x y) (max x y) = side_xor x y e.outcome g.outcome in
    let after : sum_along g.answers fs + side (xor e.outcome g.outcome) x y ≤ side e.outcome (room b (max x y) (max x y)) (room b (max x y) (max x y)) = led_both e.outcome g fs (room b (max x y) (max x y)) (max x y) (max x y) (side (xor e.outcome g.outcome) x y) less (fits b row (max x y) (max x y)) in
    let there : path ≡ sum_along e.answers es + (sum_along g.answers fs + c) = omega (arith, is, sum_append e.answers g.answers es fs (same_length a row (room b (max x y) (max x y)) (room b (max x y) (max x y)))) in
    let one : descent a on_false path ≡ ended e (sum_along g.answers fs + c) = descends a first (room b (max x y) (max x y)) (room b (max x y) (max x y)) (sum_along g.answers fs + c) row on_false n.0 (stand_left on_false first es fs h) (omega (arith, after, lt)) path there in
    let other : descent b on_false (sum_along g.answers fs + c) ≡ ended g c = descends b (first + size a) (max x y) (max x y) c row on_false n.1 (stand_right on_false first (size a) es fs (length_edges a (room b (max x y) (max x y)) (room b (max x y) (max x y))) h) (omega (arith, less, lt)) (sum_along g.answers fs + c) refl in
    let P : Descent → Descent = λ d. descended_both xor d (descent b on_false d.left) in
    let Q : Descent → Descent = λ d. descended_both xor (ended e (sum_along g.answers fs + c)) d in
    ap P one ∙ ap Q other

-- ---- without operators that are evaluated in full nothing is left of a number within the room

short_leaf : (on x y path : ℕ) → on ≡ x → path < x + y → (o : Bool) → nat_lt path on ≡ o → (taken on path).left < side (taken on path).outcome x y
short_leaf on x y path e lt true test =
    let less : path < x = grind (arith, nat_tests) in
    rw test less
short_leaf on x y path e lt false test =
    let more : on ≤ path = grind (arith, nat_tests) in
    let less : path - on < y = omega (arith, e, more, lt) in
    rw test less

short_second : (n : Bool) (d : Descent) (b : Tree) (e : Descent) (u w within x y : ℕ) → Leads n d.outcome u w within x y → d.left < side d.outcome u w
    → (d.left < within → e.left < side e.outcome x y) → (descended_where n d b e).left < side (descended_where n d b e).outcome x y
short_second true d b e u w within x y leads lt next = next (rw (← leads) lt)
short_second false d b e u w within x y leads lt next = rw (← leads) lt

pub left_short : (t : Tree) (first x y path : ℕ) (on_false : List ℕ) → IsShort t → IsNumberedFrom first t → Stand on_false first (false_edges t x y) → path < room t x y
    → (descent t on_false path).left < side (descent t on_false path).outcome x y
left_short (Leaf k) first x y path on_false short n h lt =
    let P : ℕ → ℕ = λ i. slice_index on_false i in
    let at : k ≡ first + 0 = omega (arith, n) in
    short_leaf (slice_index on_false k) x y path (ap P at ∙ h 0 (omega arith)) lt (nat_lt path (slice_index on_false k)) refl
left_short (Not a) first x y path on_false short n h lt =
    rw (side_not (descent a on_false path).outcome x y) (left_short a first y x path on_false short n h lt)
left_short (And a b) first x y path on_false short n h lt =
    let d : Descent = descent a on_false path in
    short_second d.outcome d b (descent b on_false d.left) (room b x y) y (room b x y) x y (leads_and (room b x y) x y d.outcome)
    (left_short a first (room b x y) y path on_false short.0 n.0 (stand_left on_false first (false_edges a (room b x y) y) (false_edges b x y) h) lt)
    (left_short b (first + size a) x y d.left on_false short.1 n.1 (stand_right on_false first (size a) (false_edges a (room b x y) y) (false_edges b x y) (length_edges a (room b x y) y) h))
left_short (Or a b) first x y path on_false short n h lt =
    let d : Descent = descent a on_false path in
    short_second (not d.outcome) d b (descent b on_false d.left) x (room b x y) (room b x y) x y (leads_or (room b x y) x y d.outcome)
    (left_short a first x (room b x y) path on_false short.0 n.0 (stand_left on_false first (false_edges a x (room b x y)) (false_edges b x y) h) lt)
    (left_short b (first + size a) x y d.left on_false short.1 n.1 (stand_right on_false first (size a) (false_edges a x (room b x y)) (false_edges b x y) (length_edges a x (room b x y)) h))
left_short (FullAnd a b) first x y path on_false short n h lt = absurd short
left_short (FullOr a b) first x y path on_false short n h lt = absurd short
left_short (FullXor a b) first x y path on_false short n h lt = absurd short
