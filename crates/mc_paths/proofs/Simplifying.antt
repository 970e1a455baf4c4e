-- Decisions that differ in chains of NOT alone.
use Rattle.std.proofs.Common.{◌≡◌, ℕ, ◌+◌, ◌≤◌, Bool, true, false, not, ◌&&◌, ◌||◌, Option, Some, None, List, ◌++◌, replicate, refl, sym, ap, ◌∙◌, subst}
use Rattle.std.specs.Prelude.{Result, Ok, Err, IfOk, max}
use Rattle.mc_cond.specs.Tree.{Tree, Not, And, Or, FullAnd, FullOr, FullXor, size, IsNumbered, IsNumberedFrom}
use Rattle.mc_cond.specs.Vectors.{Row, Evaluation, truth_of, xor, flipped, evaluated, followed_where, evaluated_both}
use Rattle.mc_cond.specs.Influence.{HasInfluence}
use Rattle.mc_cond.proofs.Rows.{both_same, outcome_is_truth}
use Rattle.mc_paths.specs.Paths.{room, false_edges, sum_along, increments, IsPath, IsInUse}
use Rattle.mc_paths.specs.declared.masks.Masks.{Masks}
use Rattle.mc_paths.specs.steps.Masked.{AreMasks, IsEntry, AreMasked}
use Rattle.mc_paths.specs.steps.Same.{AreSame, turned_where}

pub same_self : (t : Tree) → AreSame t t
same_self t = record { vectors = λ row. refl; sizes = refl; numbers = λ first n. n; rooms = λ x y. refl; edges = λ x y. refl }

opposite : Evaluation → Evaluation
opposite v = record { answers = v.answers; outcome = not v.outcome }

pub same_not : (s t : Tree) → AreSame s t → AreSame (Not s) (Not t)
unfolding opposite
same_not s t h =
    record {
      vectors = λ row. ap opposite (h.vectors row);
      sizes = h.sizes;
      numbers = h.numbers;
      rooms = λ x y. h.rooms y x;
      edges = λ x y. h.edges y x;
    }

not_not : (x : Bool) → x ≡ not (not x)
not_not true = refl
not_not false = refl

twice : (v : Evaluation) → v ≡ record { answers = v.answers; outcome = not (not v.outcome) }
twice v = let P : Bool → Evaluation = λ o. record { answers = v.answers; outcome = o } in ap P (not_not v.outcome)

pub same_twice : (s t : Tree) → AreSame s t → AreSame s (Not (Not t))
same_twice s t h =
    record {
      vectors = λ row. h.vectors row ∙ twice (evaluated t row);
      sizes = h.sizes;
      numbers = h.numbers;
      rooms = h.rooms;
      edges = h.edges;
    }

-- nodes of two operands
followed_same : (o : Bool) (e : Evaluation) (b d : Tree) (g : Evaluation) → size b ≡ size d → followed_where o e b g ≡ followed_where o e d g
followed_same true e b d g same = refl
followed_same false e b d g same = let P : ℕ → Evaluation = λ n. record { answers = e.answers ++ replicate n None; outcome = e.outcome } in ap P same

node_same : (f : Bool → Bool) (a b c d : Tree) (row : Row) → AreSame a c → AreSame b d
    → followed_where (f (evaluated a row).outcome) (evaluated a row) b (evaluated b row) ≡ followed_where (f (evaluated c row).outcome) (evaluated c row) d (evaluated d row)
node_same f a b c d row p q =
    let P : Evaluation → Evaluation = λ e. followed_where (f e.outcome) e b (evaluated b row) in
    let Q : Evaluation → Evaluation = λ g. followed_where (f (evaluated c row).outcome) (evaluated c row) b g in
    ap P (p.vectors row) ∙ ap Q (q.vectors row) ∙ followed_same (f (evaluated c row).outcome) (evaluated c row) b d (evaluated d row) q.sizes

module _ (a b c d : Tree) (p : AreSame a c) (q : AreSame b d) where
  sizes_same : size a + size b ≡ size c + size d
  sizes_same = let P : ℕ → ℕ = λ n. n + size b in let Q : ℕ → ℕ = λ n. size c + n in ap P p.sizes ∙ ap Q q.sizes

  numbers_same : (first : ℕ) → IsNumberedFrom first c → IsNumberedFrom (first + size c) d → IsNumberedFrom (first + size a) b
  numbers_same first n m = let P : ℕ → Type 0 = λ k. IsNumberedFrom (first + k) b in subst P (sym p.sizes) (q.numbers (first + size c) m)

  pub same_and : AreSame (And a b) (And c d)
  same_and =
      record {
        vectors = λ row. node_same (λ o. o) a b c d row p q;
        sizes = sizes_same;
        numbers = λ first n. (p.numbers first n.0, numbers_same first n.0 n.1);
        rooms = λ x y. (let P : ℕ → ℕ = λ n. room a n y in ap P (q.rooms x y) ∙ p.rooms (room d x y) y);
        edges = λ x y.
            (let P : ℕ → List ℕ = λ n. false_edges a n y ++ false_edges b x y in
            let Q : List ℕ → List ℕ = λ l. l ++ false_edges b x y in
            let R : List ℕ → List ℕ = λ l. false_edges c (room d x y) y ++ l in
            ap P (q.rooms x y) ∙ ap Q (p.edges (room d x y) y) ∙ ap R (q.edges x y));
      }

  pub same_or : AreSame (Or a b) (Or c d)
  same_or =
      record {
        vectors = λ row. node_same not a b c d row p q;
        sizes = sizes_same;
        numbers = λ first n. (p.numbers first n.0, numbers_same first n.0 n.1);
        rooms = λ x y. (let P : ℕ → ℕ = λ n. room a x n in ap P (q.rooms x y) ∙ p.rooms x (room d x y));
        edges = λ x y.
            (let P : ℕ → List ℕ = λ n. false_edges a x n ++ false_edges b x y in
            let Q : List ℕ → List ℕ = λ l. l ++ false_edges b x y in
            let R : List ℕ → List ℕ = λ l. false_edges c x (room d x y) ++ l in
            ap P (q.rooms x y) ∙ ap Q (p.edges x (room d x y)) ∙ ap R (q.edges x y));
      }

  -- operators that are evaluated in full, with p and q as the rooms after the second operand
  rooms_both : (x y : ℕ) → room a (room b x y) (room b x y) ≡ room c (room d x y) (room d x y)
  rooms_both x y = let P : ℕ → ℕ = λ n. room a n n in ap P (q.rooms x y) ∙ p.rooms (room d x y) (room d x y)

  edges_both : (x y : ℕ) → false_edges a (room b x y) (room b x y) ++ false_edges b x y ≡ false_edges c (room d x y) (room d x y) ++ false_edges d x y
  edges_both x y =
      let P : ℕ → List ℕ = λ n. false_edges a n n ++ false_edges b x y in
      let Q : List ℕ → List ℕ = λ l. l ++ false_edges b x y in
      let R : List ℕ → List ℕ = λ l. false_edges c (room d x y) (room d x y) ++ l in
      ap P (q.rooms x y) ∙ ap Q (p.edges (room d x y) (room d x y)) ∙ ap R (q.edges x y)

  pub same_full_and : AreSame (FullAnd a b) (FullAnd c d)
  same_full_and =
      record {
        vectors = λ row. both_same (λ (o : Bool) (p : Bool). o && p) (evaluated a row) (evaluated b row) (evaluated c row) (evaluated d row) (p.vectors row) (q.vectors row);
        sizes = sizes_same;
        numbers = λ first n. (p.numbers first n.0, numbers_same first n.0 n.1);
        rooms = λ x y. rooms_both (max x y) y;
        edges = λ x y. edges_both (max x y) y;
      }

  pub same_full_or : AreSame (FullOr a b) (FullOr c d)
  same_full_or =
      record {
        vectors = λ row. both_same (λ (o : Bool) (p : Bool). o || p) (evaluated a row) (evaluated b row) (evaluated c row) (evaluated d row) (p.vectors row) (q.vectors row);
        sizes = sizes_same;
        numbers = λ first n. (p.numbers first n.0, numbers_same first n.0 n.1);
        rooms = λ x y. rooms_both x (max x y);
        edges = λ x y. edges_both x (max x y);
      }

  pub same_full_xor : AreSame (FullXor a b) (FullXor c d)
  same_full_xor =
      record {
        vectors = λ row. both_same xor (evaluated a row) (evaluated b row) (evaluated c row) (evaluated d row) (p.vectors row) (q.vectors row);
        sizes = sizes_same;
        numbers = λ first n. (p.numbers first n.0, numbers_same first n.0 n.1);
        rooms = λ x y. rooms_both (max x y) (max x y);
        edges = λ x y. edges_both (max x y) (max x y);
      }

-- under a NOT or not
pub same_turned : (negated : Bool) (s t : Tree) → AreSame s t → AreSame (turned_where negated s) (turned_where negated t)
same_turned true s t h = same_not s t h
same_turned false s t h = h

pub same_past : (negated : Bool) (s t : Tree) → AreSame s (turned_where (not negated) t) → AreSame s (turned_where negated (Not t))
same_past true s t h = same_twice s t h
same_past false s t h = h

-- what follows
module _ (s t : Tree) (h : AreSame s t) where
  pub same_numbered : IsNumbered t → IsNumbered s
  same_numbered n = record { in_order = h.numbers 0 n.in_order; few = (let P : ℕ → Type 0 = λ k. k ≤ 64 in subst P (sym h.sizes) n.few) }

  truths : (row : Row) → truth_of s row ≡ truth_of t row
  truths row = let P : Evaluation → Bool = λ e. e.outcome in sym (outcome_is_truth s row) ∙ ap P (h.vectors row) ∙ outcome_is_truth t row

  pub same_path : (path : ℕ) (v : Evaluation) → IsPath s path v → IsPath t path v
  same_path path v p =
      let P : List ℕ → ℕ = λ edges. sum_along v.answers edges in
      record { vector = (p.vector.0, sym (h.vectors p.vector.0) ∙ p.vector.1); number = ap P (sym (h.edges 1 1)) ∙ p.number }

  influence_on : (k : ℕ) (v : Evaluation) → HasInfluence s k v → HasInfluence t k v
  influence_on k v i = record { row = i.row; completion = i.completion; changes = λ e. i.changes (truths (flipped k i.row) ∙ e ∙ sym (truths i.row)) }

  influence_back : (k : ℕ) (v : Evaluation) → HasInfluence t k v → HasInfluence s k v
  influence_back k v i = record { row = i.row; completion = i.completion; changes = λ e. i.changes (sym (truths (flipped k i.row)) ∙ e ∙ truths i.row) }

  pub same_masks : (v : Evaluation) (m : Masks) → AreMasks s v m → AreMasks t v m
  same_masks v m a =
      record {
        evaluated = a.evaluated;
        value = a.value;
        influence = λ k. (λ e. influence_on k v ((a.influence k).0 e), λ i. (a.influence k).1 (influence_back k v i));
        outcome = a.outcome;
      }

  pub same_edges : (on_false : List ℕ) → on_false ≡ increments t → on_false ≡ increments s
  same_edges on_false e = e ∙ sym (h.edges 1 1)

  back_path : (path : ℕ) (v : Evaluation) → IsPath t path v → IsPath s path v
  back_path path v p =
      let P : List ℕ → ℕ = λ edges. sum_along v.answers edges in
      record { vector = (p.vector.0, h.vectors p.vector.0 ∙ p.vector.1); number = ap P (h.edges 1 1) ∙ p.number }

  same_entry : (path : ℕ) (entry : Option Masks) → IsEntry s path entry → IsEntry t path entry
  same_entry path (Some m) e = ((e.0.0, same_path path e.0.0 e.0.1), λ v is. same_masks v m (e.1 v (back_path path v is)))
  same_entry path None idle = λ used. idle (used.0, back_path path used.0 used.1)

  pub same_masked : (count : ℕ) (list : List (Option Masks)) → AreMasked s count list → AreMasked t count list
  same_masked count list all = record { many = all.many; each = λ path entry e. same_entry path entry (all.each path entry e) }

  pub masked_by : {A E : Type 0} (result : Result A E) (items : A → List (Option Masks)) (count : ℕ) → IfOk result (λ m. AreMasked s count (items m)) → IfOk result (λ m. AreMasked t count (items m))
  masked_by (Ok m) items count all = same_masked count (items m) all
  masked_by (Err e) items count all = tt
