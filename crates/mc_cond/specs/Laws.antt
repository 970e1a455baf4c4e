-- What follows from the definitions of vectors, their completions and influence.
use Rattle.std.specs.Prelude.{◌≡◌, ℕ, Bool, true, false, not, Some, None, slice_get}
use Rattle.mc_cond.specs.Tree.{Tree, IsNumbered, IsNumberedFrom, IsShort}
use Rattle.mc_cond.specs.Vectors.{Row, Evaluation, truth_of, flipped, evaluated, IsVector, IsCompletion}
use Rattle.mc_cond.specs.Influence.{HasInfluence}

abbrev pub CompletionHasOutcome : Type 0
CompletionHasOutcome =
    (t : Tree) (v : Evaluation) (row : Row) → IsNumbered t → IsVector t v → IsCompletion v row →
    truth_of t row ≡ v.outcome

abbrev pub CompletionHasVector : Type 0
CompletionHasVector =
    (t : Tree) (v : Evaluation) (row : Row) → IsNumbered t → IsVector t v → IsCompletion v row →
    evaluated t row ≡ v

abbrev pub VectorHasCompletion : Type 0
VectorHasCompletion =
    (t : Tree) (row : Row) → IsNumbered t → IsCompletion (evaluated t row) row

abbrev pub FlipStays : Type 0
FlipStays =
    (v : Evaluation) (row : Row) (k : ℕ) → slice_get v.answers k ≡ Some None →
    IsCompletion v row → IsCompletion v (flipped k row)

abbrev pub OperandTakesEither : Type 0
OperandTakesEither =
    (first : ℕ) (t : Tree) (outcome : Bool) → IsNumberedFrom first t →
    (row : Row) × (truth_of t row ≡ outcome)

abbrev pub InfluenceIsEvaluated : Type 0
InfluenceIsEvaluated =
    (t : Tree) (k : ℕ) (v : Evaluation) → IsNumbered t → IsVector t v →
    (influence : HasInfluence t k v) → slice_get v.answers k ≡ Some (Some (influence.row k))

-- Each condition stands once in a tree of AND, OR and NOT, so it moves the outcome one way alone.
-- XOR moves it both ways, so the law is one of trees without operators that are evaluated in full.
abbrev pub InfluenceTurns : Type 0
InfluenceTurns =
    (t : Tree) (k : ℕ) (v w : Evaluation) → IsShort t → IsNumbered t →
    IsVector t v → IsVector t w →
    slice_get v.answers k ≡ Some (Some true) → slice_get w.answers k ≡ Some (Some false) →
    HasInfluence t k v → HasInfluence t k w → v.outcome ≡ not w.outcome
