-- Numbers and the order of vectors, where an operator is evaluated in full.
use Rattle.std.specs.Prelude.{◌≡◌, ◌<◌, ◌↔◌, true, false, Some, None}
use Rattle.mc_cond.specs.Tree.{Tree, Leaf, FullAnd}
use Rattle.mc_cond.specs.Order.{IsBefore, rank}
use Rattle.mc_cond.specs.Vectors.{Evaluation, IsVector}
use Rattle.mc_paths.specs.Paths.{path_of}

-- `a & b`
abbrev pub both : Tree
both = FullAnd (Leaf 0) (Leaf 1)

abbrev pub NumberIsOnce : Type 0
NumberIsOnce =
    (v w : Evaluation) → IsVector both v → IsVector both w → path_of both v ≡ path_of both w
    → v ≡ w

abbrev pub NumberKeepsOrder : Type 0
NumberKeepsOrder =
    (v w : Evaluation) → IsVector both v → IsVector both w
    → (path_of both v < path_of both w) ↔ IsBefore v.answers w.answers

-- true before false before not evaluated
abbrev pub RanksRise : Type 0
RanksRise = (rank (Some true) < rank (Some false)) × (rank (Some false) < rank None)
