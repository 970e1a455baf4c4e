-- The order of path numbers is the order of vectors.
use Rattle.std.proofs.Common.{◌≡◌, ℕ, ◌+◌, ◌<◌, ◌≤◌, Bool, true, false, not, ◌&&◌, ◌||◌, Option, Some, List, [], ◌∷◌, ◌++◌, ◌⊎◌, inl, inr, length, refl, ap, ◌∙◌, subst, arith}
use Rattle.std.specs.Prelude.{max}
use Rattle.mc_cond.specs.Tree.{Tree, Leaf, Not, And, Or, FullAnd, FullOr, FullXor}
use Rattle.mc_cond.specs.Vectors.{Row, Evaluation, xor, skipped, followed_where, evaluated_both, evaluated}
use Rattle.mc_cond.specs.Order.{IsBefore}
use Rattle.mc_paths.specs.Paths.{room, false_edges, sum_along, all_false}
use Rattle.mc_paths.proofs.Counting.{side, carry, total, led, led_both, sum_append, side_and, side_or, side_xor, Leads, leads_and, leads_or, side_not, same_length, fits}

-- v is before w, and so is the room after it
pub record Ahead (es : List ℕ) (x y : ℕ) (v w : Evaluation) : Type 0 where
  pub order : IsBefore v.answers w.answers
  pub gap : sum_along v.answers es + side v.outcome x y ≤ sum_along w.answers es

-- v is w, or before it
abbrev pub NotBehind : List ℕ → ℕ → ℕ → Evaluation → Evaluation → Type 0
NotBehind es x y v w = (v ≡ w) ⊎ Ahead es x y v w

abbrev pub Compared : List ℕ → ℕ → ℕ → Evaluation → Evaluation → Type 0
Compared es x y v w = (v ≡ w) ⊎ (Ahead es x y v w ⊎ Ahead es x y w v)

before_front : (xs ys us vs : List (Option Bool)) → IsBefore xs ys → IsBefore (xs ++ us) (ys ++ vs)
before_front [] ys us vs h = absurd h
before_front (x ∷ xs) [] us vs h = absurd h
before_front (x ∷ xs) (y ∷ ys) us vs (inl h) = inl h
before_front (x ∷ xs) (y ∷ ys) us vs (inr h) = inr (h.0, before_front xs ys us vs h.1)

before_back : (xs us vs : List (Option Bool)) → IsBefore us vs → IsBefore (xs ++ us) (xs ++ vs)
before_back [] us vs h = h
before_back (x ∷ xs) us vs h = inr (refl, before_back xs us vs h)

module _ (b : Tree) (es fs : List ℕ) (u w within x y : ℕ) where
  before_followed : (n m : Bool) (e e' g g' : Evaluation) → IsBefore e.answers e'.answers → IsBefore (followed_where n e b g).answers (followed_where m e' b g').answers
  before_followed true true e e' g g' h = before_front e.answers e'.answers g.answers g'.answers h
  before_followed true false e e' g g' h = before_front e.answers e'.answers g.answers (skipped b) h
  before_followed false true e e' g g' h = before_front e.answers e'.answers (skipped b) g'.answers h
  before_followed false false e e' g g' h = before_front e.answers e'.answers (skipped b) (skipped b) h

  -- the first operand decides
  ahead_first : (n m : Bool) (e e' g g' : Evaluation) → length e.answers ≡ length es → length e'.answers ≡ length es
      → Leads n e.outcome u w within x y → sum_along g.answers fs + side g.outcome x y ≤ within
      → Ahead es u w e e' → Ahead (es ++ fs) x y (followed_where n e b g) (followed_where m e' b g')
  ahead_first n m e e' g g' h h' leads second ahead = record {
    order = before_followed n m e e' g g' ahead.order;
    gap = omega (arith, total n e b g es fs h, total m e' b g' es fs h', led n e b g fs u w within x y leads second, ahead.gap);
  }

  -- the first operands are alike, and the second is evaluated
  ahead_second : (e g g' : Evaluation) → length e.answers ≡ length es → Ahead fs x y g g' → Ahead (es ++ fs) x y (followed_where true e b g) (followed_where true e b g')
  ahead_second e g g' h ahead = record {
    order = before_back e.answers g.answers g'.answers ahead.order;
    gap = omega (arith, total true e b g es fs h, total true e b g' es fs h, ahead.gap);
  }

  last_second : (n : Bool) (e g g' : Evaluation) → length e.answers ≡ length es → NotBehind fs x y g g' → NotBehind (es ++ fs) x y (followed_where n e b g) (followed_where n e b g')
  last_second true e g g' h (inl same) =
      let P : Evaluation → Evaluation = λ z. followed_where true e b z in
      inl (ap P same)
  last_second true e g g' h (inr ahead) = inr (ahead_second e g g' h ahead)
  last_second false e g g' h any = inl refl

  compared_second : (n : Bool) (e g g' : Evaluation) → length e.answers ≡ length es → Compared fs x y g g' → Compared (es ++ fs) x y (followed_where n e b g) (followed_where n e b g')
  compared_second true e g g' h (inl same) =
      let P : Evaluation → Evaluation = λ z. followed_where true e b z in
      inl (ap P same)
  compared_second true e g g' h (inr (inl ahead)) = inr (inl (ahead_second e g g' h ahead))
  compared_second true e g g' h (inr (inr ahead)) = inr (inr (ahead_second e g' g h ahead))
  compared_second false e g g' h any = inl refl

  module _ (f : Bool → Bool) (leads : (o : Bool) → Leads (f o) o u w within x y) (e e' g g' : Evaluation) (h : length e.answers ≡ length es) (h' : length e'.answers ≡ length es)
      (second : sum_along g.answers fs + side g.outcome x y ≤ within) where
    last_node : NotBehind es u w e e' → NotBehind fs x y g g' → NotBehind (es ++ fs) x y (followed_where (f e.outcome) e b g) (followed_where (f e'.outcome) e' b g')
    last_node (inl same) seconds =
        let P : Evaluation → Type 0 = λ z. NotBehind (es ++ fs) x y (followed_where (f e.outcome) e b g) (followed_where (f z.outcome) z b g') in
        subst P same (last_second (f e.outcome) e g g' h seconds)
    last_node (inr ahead) seconds = inr (ahead_first (f e.outcome) (f e'.outcome) e e' g g' h h' (leads e.outcome) second ahead)

    compared_node : sum_along g'.answers fs + side g'.outcome x y ≤ within → Compared es u w e e' → Compared fs x y g g'
        → Compared (es ++ fs) x y (followed_where (f e.outcome) e b g) (followed_where (f e'.outcome) e' b g')
    compared_node second' (inl same) seconds =
        let P : Evaluation → Type 0 = λ z. Compared (es ++ fs) x y (followed_where (f e.outcome) e b g) (followed_where (f z.outcome) z b g') in
        subst P same (compared_second (f e.outcome) e g g' h seconds)
    compared_node second' (inr (inl ahead)) seconds = inr (inl (ahead_first (f e.outcome) (f e'.outcome) e e' g g' h h' (leads e.outcome) second ahead))
    compared_node second' (inr (inr ahead)) seconds = inr (inr (ahead_first (f e'.outcome) (f e.outcome) e' e g' g h' h (leads e'.outcome) second' ahead))

-- Both operands are evaluated: p and q are the rooms after the second, x and y those after the node.
module _ (op : Bool → Bool → Bool) (es fs : List ℕ) (s p q x y : ℕ) (less : (o c : Bool) → side (op o c) x y ≤ side c p q) where
  ahead_first_both : (e e' g g' : Evaluation) → length e.answers ≡ length es → length e'.answers ≡ length es → sum_along g.answers fs + side g.outcome p q ≤ s
      → Ahead es s s e e' → Ahead (es ++ fs) x y (evaluated_both op e g) (evaluated_both op e' g')
  ahead_first_both e e' g g' h h' second ahead = record {
    order = before_front e.answers e'.answers g.answers g'.answers ahead.order;
    gap = omega (arith, sum_append e.answers g.answers es fs h, sum_append e'.answers g'.answers es fs h', led_both e.outcome g fs s p q (side (op e.outcome g.outcome) x y) (less e.outcome g.outcome) second, ahead.gap);
  }

  ahead_second_both : (e g g' : Evaluation) → length e.answers ≡ length es → Ahead fs p q g g' → Ahead (es ++ fs) x y (evaluated_both op e g) (evaluated_both op e g')
  ahead_second_both e g g' h ahead = record {
    order = before_back e.answers g.answers g'.answers ahead.order;
    gap = omega (arith, sum_append e.answers g.answers es fs h, sum_append e.answers g'.answers es fs h, less e.outcome g.outcome, ahead.gap);
  }

  module _ (e e' g g' : Evaluation) (h : length e.answers ≡ length es) (h' : length e'.answers ≡ length es) (second : sum_along g.answers fs + side g.outcome p q ≤ s) where
    last_both : NotBehind es s s e e' → NotBehind fs p q g g' → NotBehind (es ++ fs) x y (evaluated_both op e g) (evaluated_both op e' g')
    last_both (inl same) (inl alike) =
        let P : Evaluation → Evaluation = λ z. evaluated_both op z g in
        let Q : Evaluation → Evaluation = λ z. evaluated_both op e' z in
        inl (ap P same ∙ ap Q alike)
    last_both (inl same) (inr ahead) =
        let P : Evaluation → Type 0 = λ z. NotBehind (es ++ fs) x y (evaluated_both op e g) (evaluated_both op z g') in
        subst P same (inr (ahead_second_both e g g' h ahead))
    last_both (inr ahead) seconds = inr (ahead_first_both e e' g g' h h' second ahead)

    compared_both : sum_along g'.answers fs + side g'.outcome p q ≤ s → Compared es s s e e' → Compared fs p q g g'
        → Compared (es ++ fs) x y (evaluated_both op e g) (evaluated_both op e' g')
    compared_both second' (inl same) (inl alike) =
        let P : Evaluation → Evaluation = λ z. evaluated_both op z g in
        let Q : Evaluation → Evaluation = λ z. evaluated_both op e' z in
        inl (ap P same ∙ ap Q alike)
    compared_both second' (inl same) (inr (inl ahead)) =
        let P : Evaluation → Type 0 = λ z. Compared (es ++ fs) x y (evaluated_both op e g) (evaluated_both op z g') in
        subst P same (inr (inl (ahead_second_both e g g' h ahead)))
    compared_both second' (inl same) (inr (inr ahead)) =
        let P : Evaluation → Type 0 = λ z. Compared (es ++ fs) x y (evaluated_both op e g) (evaluated_both op z g') in
        subst P same (inr (inr (ahead_second_both e g' g h ahead)))
    compared_both second' (inr (inl ahead)) seconds = inr (inl (ahead_first_both e e' g g' h h' second ahead))
    compared_both second' (inr (inr ahead)) seconds = inr (inr (ahead_first_both e' e g' g h' h second' ahead))

abbrev single : Bool → Evaluation
single o = record { answers = Some o ∷ []; outcome = o }

last_leaf : (x y : ℕ) (o : Bool) → NotBehind (x ∷ []) x y (single o) (single false)
last_leaf x y true = inr (record { order = inl (omega arith); gap = omega arith })
last_leaf x y false = inl refl

compared_leaf : (x y : ℕ) (o p : Bool) → Compared (x ∷ []) x y (single o) (single p)
compared_leaf x y true true = inl refl
compared_leaf x y false false = inl refl
compared_leaf x y true false = inr (inl (record { order = inl (omega arith); gap = omega arith }))
compared_leaf x y false true = inr (inr (record { order = inl (omega arith); gap = omega arith }))

abbrev opposite : Evaluation → Evaluation
opposite v = record { answers = v.answers; outcome = not v.outcome }

ahead_not : (es : List ℕ) (x y : ℕ) (v w : Evaluation) → Ahead es y x v w → Ahead es x y (opposite v) (opposite w)
ahead_not es x y v w ahead = record { order = ahead.order; gap = rw (side_not v.outcome x y) ahead.gap }

last_not : (es : List ℕ) (x y : ℕ) (v w : Evaluation) → NotBehind es y x v w → NotBehind es x y (opposite v) (opposite w)
last_not es x y v w (inl same) = inl (ap opposite same)
last_not es x y v w (inr ahead) = inr (ahead_not es x y v w ahead)

compared_not : (es : List ℕ) (x y : ℕ) (v w : Evaluation) → Compared es y x v w → Compared es x y (opposite v) (opposite w)
compared_not es x y v w (inl same) = inl (ap opposite same)
compared_not es x y v w (inr (inl ahead)) = inr (inl (ahead_not es x y v w ahead))
compared_not es x y v w (inr (inr ahead)) = inr (inr (ahead_not es x y w v ahead))

-- the evaluation in which all is false is the last in both orders
pub last : (t : Tree) (x y : ℕ) (row : Row) → NotBehind (false_edges t x y) x y (evaluated t row) (all_false t)
last (Leaf k) x y row = last_leaf x y (row k)
last (Not a) x y row = last_not (false_edges a y x) x y (evaluated a row) (all_false a) (last a y x row)
last (And a b) x y row =
    last_node b (false_edges a (room b x y) y) (false_edges b x y) (room b x y) y (room b x y) x y (λ o. o) (leads_and (room b x y) x y)
    (evaluated a row) (all_false a) (evaluated b row) (all_false b) (same_length a row (room b x y) y) (same_length a (λ k. false) (room b x y) y)
    (fits b row x y) (last a (room b x y) y row) (last b x y row)
last (Or a b) x y row =
    last_node b (false_edges a x (room b x y)) (false_edges b x y) x (room b x y) (room b x y) x y not (leads_or (room b x y) x y)
    (evaluated a row) (all_false a) (evaluated b row) (all_false b) (same_length a row x (room b x y)) (same_length a (λ k. false) x (room b x y))
    (fits b row x y) (last a x (room b x y) row) (last b x y row)
last (FullAnd a b) x y row =
    last_both (λ (o : Bool) (p : Bool). o && p) (false_edges a (room b (max x y) y) (room b (max x y) y)) (false_edges b (max x y) y) (room b (max x y) y) (max x y) y x y (side_and x y)
    (evaluated a row) (all_false a) (evaluated b row) (all_false b) (same_length a row (room b (max x y) y) (room b (max x y) y)) (same_length a (λ k. false) (room b (max x y) y) (room b (max x y) y))
    (fits b row (max x y) y) (last a (room b (max x y) y) (room b (max x y) y) row) (last b (max x y) y row)
last (FullOr a b) x y row =
    last_both (λ (o : Bool) (p : Bool). o || p) (false_edges a (room b x (max x y)) (room b x (max x y))) (false_edges b x (max x y)) (room b x (max x y)) x (max x y) x y (side_or x y)
    (evaluated a row) (all_false a) (evaluated b row) (all_false b) (same_length a row (room b x (max x y)) (room b x (max x y))) (same_length a (λ k. false) (room b x (max x y)) (room b x (max x y)))
    (fits b row x (max x y)) (last a (room b x (max x y)) (room b x (max x y)) row) (last b x (max x y) row)
last (FullXor a b) x y row =
    last_both xor (false_edges a (room b (max x y) (max x y)) (room b (max x y) (max x y))) (false_edges b (max x y) (max x y)) (room b (max x y) (max x y)) (max x y) (max x y) x y (side_xor x y)
    (evaluated a row) (all_false a) (evaluated b row) (all_false b) (same_length a row (room b (max x y) (max x y)) (room b (max x y) (max x y))) (same_length a (λ k. false) (room b (max x y) (max x y)) (room b (max x y) (max x y)))
    (fits b row (max x y) (max x y)) (last a (room b (max x y) (max x y)) (room b (max x y) (max x y)) row) (last b (max x y) (max x y) row)

-- two evaluations of a tree are alike, or one is before the other in both orders
pub compared : (t : Tree) (x y : ℕ) (p q : Row) → Compared (false_edges t x y) x y (evaluated t p) (evaluated t q)
compared (Leaf k) x y p q = compared_leaf x y (p k) (q k)
compared (Not a) x y p q = compared_not (false_edges a y x) x y (evaluated a p) (evaluated a q) (compared a y x p q)
compared (And a b) x y p q =
    compared_node b (false_edges a (room b x y) y) (false_edges b x y) (room b x y) y (room b x y) x y (λ o. o) (leads_and (room b x y) x y)
    (evaluated a p) (evaluated a q) (evaluated b p) (evaluated b q) (same_length a p (room b x y) y) (same_length a q (room b x y) y)
    (fits b p x y) (fits b q x y) (compared a (room b x y) y p q) (compared b x y p q)
compared (Or a b) x y p q =
    compared_node b (false_edges a x (room b x y)) (false_edges b x y) x (room b x y) (room b x y) x y not (leads_or (room b x y) x y)
    (evaluated a p) (evaluated a q) (evaluated b p) (evaluated b q) (same_length a p x (room b x y)) (same_length a q x (room b x y))
    (fits b p x y) (fits b q x y) (compared a x (room b x y) p q) (compared b x y p q)
compared (FullAnd a b) x y p q =
    compared_both (λ (o : Bool) (p : Bool). o && p) (false_edges a (room b (max x y) y) (room b (max x y) y)) (false_edges b (max x y) y) (room b (max x y) y) (max x y) y x y (side_and x y)
    (evaluated a p) (evaluated a q) (evaluated b p) (evaluated b q) (same_length a p (room b (max x y) y) (room b (max x y) y)) (same_length a q (room b (max x y) y) (room b (max x y) y))
    (fits b p (max x y) y) (fits b q (max x y) y) (compared a (room b (max x y) y) (room b (max x y) y) p q) (compared b (max x y) y p q)
compared (FullOr a b) x y p q =
    compared_both (λ (o : Bool) (p : Bool). o || p) (false_edges a (room b x (max x y)) (room b x (max x y))) (false_edges b x (max x y)) (room b x (max x y)) x (max x y) x y (side_or x y)
    (evaluated a p) (evaluated a q) (evaluated b p) (evaluated b q) (same_length a p (room b x (max x y)) (room b x (max x y))) (same_length a q (room b x (max x y)) (room b x (max x y)))
    (fits b p x (max x y)) (fits b q x (max x y)) (compared a (room b x (max x y)) (room b x (max x y)) p q) (compared b x (max x y) p q)
compared (FullXor a b) x y p q =
    compared_both xor (false_edges a (room b (max x y) (max x y)) (room b (max x y) (max x y))) (false_edges b (max x y) (max x y)) (room b (max x y) (max x y)) (max x y) (max x y) x y (side_xor x y)
    (evaluated a p) (evaluated a q) (evaluated b p) (evaluated b q) (same_length a p (room b (max x y) (max x y)) (room b (max x y) (max x y))) (same_length a q (room b (max x y) (max x y)) (room b (max x y) (max x y)))
    (fits b p (max x y) (max x y)) (fits b q (max x y) (max x y)) (compared a (room b (max x y) (max x y)) (room b (max x y) (max x y)) p q) (compared b (max x y) (max x y) p q)
