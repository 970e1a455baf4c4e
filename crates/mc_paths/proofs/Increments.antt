-- What a false edge adds is the number of some vector at most: each condition can be evaluated.
use Rattle.std.proofs.Common.{◌≡◌, ℕ, ◌+◌, ◌<◌, ◌≤◌, Bool, true, false, not, List, [], ◌∷◌, ◌++◌, length, refl, sym, ap, ◌∙◌, subst, arith}
use Rattle.std.specs.Prelude.{max}
use Rattle.mc_cond.specs.Tree.{Tree, Leaf, Not, And, Or, FullAnd, FullOr, FullXor, size, IsNumberedFrom}
use Rattle.mc_cond.specs.Vectors.{Row, Evaluation, truth_of, followed_where, evaluated}
use Rattle.mc_cond.proofs.Rows.{same_evaluation, pasted, pasted_left, pasted_right, outcome_is_truth, takes_either}
use Rattle.mc_paths.specs.Paths.{room, false_edges, sum_along, path_of, count_of}
use Rattle.mc_paths.specs.steps.Bounds.{AddAtMost}
use Rattle.mc_paths.proofs.Counting.{carry, total, sum_append, same_length, count_most}
use Rattle.mc_paths.proofs.Numbers.{vector_below}

first_most : (n : Bool) (e : Evaluation) (b : Tree) (g : Evaluation) (es fs : List ℕ) (limit : ℕ) → length e.answers ≡ length es
    → sum_along (followed_where n e b g).answers (es ++ fs) ≤ limit → sum_along e.answers es ≤ limit
first_most n e b g es fs limit h most = omega (arith, total n e b g es fs h, most)

second_most : (n : Bool) (e : Evaluation) (b : Tree) (g : Evaluation) (es fs : List ℕ) (limit : ℕ) → n ≡ true → length e.answers ≡ length es
    → sum_along (followed_where n e b g).answers (es ++ fs) ≤ limit → sum_along g.answers fs ≤ limit
second_most true e b g es fs limit on h most = omega (arith, total true e b g es fs h, most)
second_most false e b g es fs limit on h most = cc

-- both operands, where some row makes the first lead into the second
module _ (a b : Tree) (first : ℕ) (n : IsNumberedFrom first a) (m : IsNumberedFrom (first + size a) b) (p q : Row) where
  both_rows : Row
  both_rows = pasted (first + size a) p q

  row_first : evaluated a both_rows ≡ evaluated a p
  unfolding both_rows
  row_first = same_evaluation a first (pasted (first + size a) p q) p n (pasted_left first (size a) p q)

  row_second : evaluated b both_rows ≡ evaluated b q
  unfolding both_rows
  row_second = same_evaluation b (first + size a) (pasted (first + size a) p q) q m (pasted_right first (size a) (size b) p q)

  outcome_first : (o : Bool) → truth_of a p ≡ o → (evaluated a both_rows).outcome ≡ o
  outcome_first o e = let P : Evaluation → Bool = λ z. z.outcome in ap P row_first ∙ outcome_is_truth a p ∙ e

  at_second : (fs : List ℕ) (limit : ℕ) → sum_along (evaluated b both_rows).answers fs ≤ limit → sum_along (evaluated b q).answers fs ≤ limit
  at_second fs limit h = let P : Evaluation → Type 0 = λ z. sum_along z.answers fs ≤ limit in subst P row_second h

pub adds_at_most : (t : Tree) (first x y limit : ℕ) → IsNumberedFrom first t → ((row : Row) → sum_along (evaluated t row).answers (false_edges t x y) ≤ limit) → AddAtMost limit t x y
adds_at_most (Leaf k) first x y limit n all = let most : sum_along (evaluated (Leaf k) (λ j. false)).answers (x ∷ []) ≤ limit = all (λ j. false) in omega (arith, most)
adds_at_most (Not a) first x y limit n all = adds_at_most a first y x limit n all
adds_at_most (And a b) first x y limit n all =
    let es = false_edges a (room b x y) y in
    let fs = false_edges b x y in
    let p = takes_either a first n.0 true in (
      adds_at_most b (first + size a) x y limit n.1 (λ q. let row = both_rows a b first n.0 n.1 p.0 q in
          at_second a b first n.0 n.1 p.0 q fs limit (second_most (evaluated a row).outcome (evaluated a row) b (evaluated b row) es fs limit (outcome_first a b first n.0 n.1 p.0 q true p.1) (same_length a row (room b x y) y) (all row))),
      adds_at_most a first (room b x y) y limit n.0 (λ row. first_most (evaluated a row).outcome (evaluated a row) b (evaluated b row) es fs limit (same_length a row (room b x y) y) (all row)),
    )
adds_at_most (Or a b) first x y limit n all =
    let es = false_edges a x (room b x y) in
    let fs = false_edges b x y in
    let p = takes_either a first n.0 false in (
      adds_at_most b (first + size a) x y limit n.1 (λ q. let row = both_rows a b first n.0 n.1 p.0 q in
          at_second a b first n.0 n.1 p.0 q fs limit (second_most (not (evaluated a row).outcome) (evaluated a row) b (evaluated b row) es fs limit (ap not (outcome_first a b first n.0 n.1 p.0 q false p.1)) (same_length a row x (room b x y)) (all row))),
      adds_at_most a first x (room b x y) limit n.0 (λ row. first_most (not (evaluated a row).outcome) (evaluated a row) b (evaluated b row) es fs limit (same_length a row x (room b x y)) (all row)),
    )
adds_at_most (FullAnd a b) first x y limit n all =
    let es = false_edges a (room b (max x y) y) (room b (max x y) y) in
    let fs = false_edges b (max x y) y in
    let sum = λ (row : Row). sum_append (evaluated a row).answers (evaluated b row).answers es fs (same_length a row (room b (max x y) y) (room b (max x y) y)) in (
      adds_at_most b (first + size a) (max x y) y limit n.1 (λ row. omega (arith, sum row, all row)),
      adds_at_most a first (room b (max x y) y) (room b (max x y) y) limit n.0 (λ row. omega (arith, sum row, all row)),
    )
adds_at_most (FullOr a b) first x y limit n all =
    let es = false_edges a (room b x (max x y)) (room b x (max x y)) in
    let fs = false_edges b x (max x y) in
    let sum = λ (row : Row). sum_append (evaluated a row).answers (evaluated b row).answers es fs (same_length a row (room b x (max x y)) (room b x (max x y))) in (
      adds_at_most b (first + size a) x (max x y) limit n.1 (λ row. omega (arith, sum row, all row)),
      adds_at_most a first (room b x (max x y)) (room b x (max x y)) limit n.0 (λ row. omega (arith, sum row, all row)),
    )
adds_at_most (FullXor a b) first x y limit n all =
    let es = false_edges a (room b (max x y) (max x y)) (room b (max x y) (max x y)) in
    let fs = false_edges b (max x y) (max x y) in
    let sum = λ (row : Row). sum_append (evaluated a row).answers (evaluated b row).answers es fs (same_length a row (room b (max x y) (max x y)) (room b (max x y) (max x y))) in (
      adds_at_most b (first + size a) (max x y) (max x y) limit n.1 (λ row. omega (arith, sum row, all row)),
      adds_at_most a first (room b (max x y) (max x y)) (room b (max x y) (max x y)) limit n.0 (λ row. omega (arith, sum row, all row)),
    )

-- the increments of a decision are below its count
pub edges_most : (t : Tree) (limit : ℕ) → IsNumberedFrom 0 t → count_of t ≤ limit → AddAtMost limit t 1 1
edges_most t limit n few = adds_at_most t 0 1 1 limit n (λ row. omega (arith, few, vector_below t (evaluated t row) (row, refl)))
