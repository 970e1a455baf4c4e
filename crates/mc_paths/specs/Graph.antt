-- The short-circuit graph of a decision (C17 6.5.13, 6.5.14): what is evaluated after a condition,
-- where it is true and where it is false. Where an operator is evaluated in full, that is not all
-- that matters of a condition, so a tree with such operators has no graph, and no law speaks of it.
use Rattle.std.specs.Prelude.{◌≡◌, ℕ, ◌+◌, Bool, true, false, if◌then◌else◌, Some, List, [], ◌∷◌, ◌++◌, slice_get}
use Rattle.mc_cond.specs.Tree.{Tree, Leaf, Not, And, Or, FullAnd, FullOr, FullXor}
use Rattle.mc_cond.specs.Order.{Answer}

-- a place of the graph: a condition, by its number, or the decision's outcome
pub data Place : Type 0 where
  Condition : ℕ → Place
  Outcome : Bool → Place

-- the two places to which a condition leads
pub record Successors : Type 0 where
  pub where_true : Place
  pub where_false : Place

-- the condition of a tree that is evaluated first
abbrev pub first_of : Tree → ℕ
first_of (Leaf k) = k
first_of (Not a) = first_of a
first_of (And a b) = first_of a
first_of (Or a b) = first_of a
first_of (FullAnd a b) = first_of a
first_of (FullOr a b) = first_of a
first_of (FullXor a b) = first_of a

-- the successors of the conditions of a tree, in the order of the text, where the tree leads to
-- `on_true` where it is true, and to `on_false` where it is false
abbrev pub successors : Tree → Place → Place → List Successors
successors (Leaf k) on_true on_false =
    record { where_true = on_true; where_false = on_false } ∷ []
successors (Not a) on_true on_false = successors a on_false on_true
successors (And a b) on_true on_false =
    successors a (Condition (first_of b)) on_false ++ successors b on_true on_false
successors (Or a b) on_true on_false =
    successors a on_true (Condition (first_of b)) ++ successors b on_true on_false
successors (FullAnd a b) on_true on_false = []
successors (FullOr a b) on_true on_false = []
successors (FullXor a b) on_true on_false = []

-- a decision leads to its outcome
abbrev pub graph_of : Tree → List Successors
graph_of t = successors t (Outcome true) (Outcome false)

-- so many paths lead from a place of the graph to an outcome
pub data Lead (graph : List Successors) : Place → ℕ → Type 0 where
  at_outcome : {o : Bool} → Lead graph (Outcome o) 1
  at_condition : {k m n : ℕ} {s : Successors} → slice_get graph k ≡ Some s →
      Lead graph s.where_true m → Lead graph s.where_false n → Lead graph (Condition k) (m + n)

-- these answers lead along the graph from a place to the outcome o
pub data GoAlong (graph : List Successors) (answers : List Answer) (o : Bool) : Place → Type 0 where
  ended : GoAlong graph answers o (Outcome o)
  passed : {k : ℕ} {s : Successors} {x : Bool} → slice_get graph k ≡ Some s →
      slice_get answers k ≡ Some (Some x) →
      GoAlong graph answers o (if x then s.where_true else s.where_false) →
      GoAlong graph answers o (Condition k)
