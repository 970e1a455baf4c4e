-- Paths of a decision: the number of each.
use Rattle.std.specs.Prelude.{◌≡◌, ℕ, ◌+◌, max, Bool, true, false, Option, Some, None, List, [], ◌∷◌, ◌++◌}
use Rattle.mc_cond.specs.Tree.{Tree, Leaf, Not, And, Or, FullAnd, FullOr, FullXor}
use Rattle.mc_cond.specs.Vectors.{Evaluation, evaluated, IsVector}

-- the room that the numbers of a tree take, where `after_true` is the room of what comes after it
-- where it is true, and `after_false` where it is false
-- An operator that is evaluated in full has one room after either value of its first operand. For
-- what comes after its second operand it has the greater of the two where the first one decides.
abbrev pub room : Tree → ℕ → ℕ → ℕ
room (Leaf k) after_true after_false = after_true + after_false
room (Not a) after_true after_false = room a after_false after_true
room (And a b) after_true after_false = room a (room b after_true after_false) after_false
room (Or a b) after_true after_false = room a after_true (room b after_true after_false)
room (FullAnd a b) after_true after_false =
    room a (room b (max after_true after_false) after_false)
    (room b (max after_true after_false) after_false)
room (FullOr a b) after_true after_false =
    room a (room b after_true (max after_true after_false))
    (room b after_true (max after_true after_false))
room (FullXor a b) after_true after_false =
    room a (room b (max after_true after_false) (max after_true after_false))
    (room b (max after_true after_false) (max after_true after_false))

-- for each condition the room after its true edge, which its false edge adds
-- a true edge adds 0
abbrev pub false_edges : Tree → ℕ → ℕ → List ℕ
false_edges (Leaf k) after_true after_false = after_true ∷ []
false_edges (Not a) after_true after_false = false_edges a after_false after_true
false_edges (And a b) after_true after_false =
    false_edges a (room b after_true after_false) after_false
    ++ false_edges b after_true after_false
false_edges (Or a b) after_true after_false =
    false_edges a after_true (room b after_true after_false)
    ++ false_edges b after_true after_false
false_edges (FullAnd a b) after_true after_false =
    false_edges a (room b (max after_true after_false) after_false)
    (room b (max after_true after_false) after_false)
    ++ false_edges b (max after_true after_false) after_false
false_edges (FullOr a b) after_true after_false =
    false_edges a (room b after_true (max after_true after_false))
    (room b after_true (max after_true after_false))
    ++ false_edges b after_true (max after_true after_false)
false_edges (FullXor a b) after_true after_false =
    false_edges a (room b (max after_true after_false) (max after_true after_false))
    (room b (max after_true after_false) (max after_true after_false))
    ++ false_edges b (max after_true after_false) (max after_true after_false)

-- a decision ends at either outcome, which takes one number
abbrev pub increments : Tree → List ℕ
increments t = false_edges t 1 1

-- the sum over the edges of a path: those of the conditions that were evaluated
abbrev pub sum_along : List (Option Bool) → List ℕ → ℕ
sum_along (Some true ∷ answers) (on_false ∷ rest) = sum_along answers rest
sum_along (Some false ∷ answers) (on_false ∷ rest) = on_false + sum_along answers rest
sum_along (None ∷ answers) (on_false ∷ rest) = sum_along answers rest
sum_along [] edges = 0
sum_along (answer ∷ answers) [] = 0

-- the path number of a vector
abbrev pub path_of : Tree → Evaluation → ℕ
path_of t v = sum_along v.answers (increments t)

-- the vector in which each condition that is evaluated is false
abbrev pub all_false : Tree → Evaluation
all_false t = evaluated t (λ k. false)

-- one more than the number of this vector
abbrev pub count_of : Tree → ℕ
count_of t = path_of t (all_false t) + 1

-- the vector of a path
pub record IsPath (t : Tree) (path : ℕ) (v : Evaluation) : Type 0 where
  pub vector : IsVector t v
  pub number : path_of t v ≡ path

-- A number is in use where a vector has it. A number below the count that no vector has is idle.
abbrev pub IsInUse : Tree → ℕ → Type 0
IsInUse t path = (v : Evaluation) × IsPath t path v
