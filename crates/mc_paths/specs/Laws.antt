-- What follows from the definitions of paths.
use Rattle.std.specs.Prelude.{◌≡◌, ℕ, ◌<◌, ◌↔◌, Some, List, length, slice_get, AllPairs, Contains}
use Rattle.mc_cond.specs.Tree.{Tree, IsNumbered, IsShort}
use Rattle.mc_cond.specs.Order.{IsBefore}
use Rattle.mc_cond.specs.Vectors.{Evaluation, IsVector}
use Rattle.mc_paths.specs.Graph.{Condition, Successors, graph_of, Lead, GoAlong}
use Rattle.mc_paths.specs.Paths.{count_of, increments, path_of, IsInUse}

abbrev pub NumberIsBelow : Type 0
NumberIsBelow =
    (t : Tree) (v : Evaluation) → IsNumbered t → IsVector t v → path_of t v < count_of t

abbrev pub NumberIsOnce : Type 0
NumberIsOnce =
    (t : Tree) (v w : Evaluation) → IsVector t v → IsVector t w → path_of t v ≡ path_of t w → v ≡ w

-- without operators that are evaluated in full no number below the count is idle
abbrev pub NumberIsTaken : Type 0
NumberIsTaken =
    (t : Tree) (path : ℕ) → IsShort t → IsNumbered t → path < count_of t → IsInUse t path

abbrev pub NumberKeepsOrder : Type 0
NumberKeepsOrder =
    (t : Tree) (v w : Evaluation) → IsVector t v → IsVector t w →
    (path_of t v < path_of t w) ↔ IsBefore v.answers w.answers

-- the vectors of a decision that stand before v, each once and in order
pub record AreBefore (t : Tree) (v : Evaluation) (vectors : List Evaluation) : Type 0 where
  pub ordered : AllPairs (λ x y. IsBefore x.answers y.answers) vectors
  pub exact : (w : Evaluation) →
      Contains vectors w ↔ (IsVector t w × IsBefore w.answers v.answers)

abbrev pub NumberCountsVectorsBefore : Type 0
NumberCountsVectorsBefore =
    (t : Tree) (v : Evaluation) → IsShort t → IsNumbered t → IsVector t v →
    (vectors : List Evaluation) × AreBefore t v vectors × (length vectors ≡ path_of t v)

-- the count is that of the paths from the condition that is evaluated first
abbrev pub CountIsOfGraph : Type 0
CountIsOfGraph =
    (t : Tree) → IsShort t → IsNumbered t → Lead (graph_of t) (Condition 0) (count_of t)

-- the false edge of a condition adds the count of the paths from its true successor
abbrev pub IncrementIsOfGraph : Type 0
IncrementIsOfGraph =
    (t : Tree) (k m : ℕ) → IsShort t → IsNumbered t → slice_get (increments t) k ≡ Some m →
    (s : Successors) × (slice_get (graph_of t) k ≡ Some s) × Lead (graph_of t) s.where_true m

-- an evaluation is a path of the graph
abbrev pub VectorGoesAlongGraph : Type 0
VectorGoesAlongGraph =
    (t : Tree) (v : Evaluation) → IsShort t → IsNumbered t → IsVector t v →
    GoAlong (graph_of t) v.answers v.outcome (Condition 0)
