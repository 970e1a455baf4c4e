-- What follows from the definition of unique-cause pairs.
use Rattle.std.specs.Prelude.{◌≡◌, ◌≢◌, ℕ, ◌<◌, ◌↔◌, Bool, true, false, Some, slice_get, bit_and, bit_xor}
use Rattle.mc_cond.specs.Tree.{Tree, IsNumbered, IsShort}
use Rattle.mc_cond.specs.Vectors.{Evaluation, IsVector}
use Rattle.mc_cond.specs.Influence.{HasInfluence}
use Rattle.mc_paths.specs.Masks.{IsMaskOf, IsEvaluated, IsOn}
use Rattle.mc_unique.specs.Unique.{IsUniquePair}

abbrev pub PairIsEvaluated : Type 0
PairIsEvaluated =
    (t : Tree) (k : ℕ) (v w : Evaluation) → IsNumbered t → IsVector t v → IsVector t w →
    (pair : IsUniquePair t k v w) →
    (slice_get v.answers k ≡ Some (Some (pair.a k)))
    × (slice_get w.answers k ≡ Some (Some (pair.b k)))

abbrev pub PairTurns : Type 0
PairTurns = (t : Tree) (k : ℕ) (v w : Evaluation) → IsUniquePair t k v w → IsUniquePair t k w v

-- the two vectors have equal answers before condition k
abbrev pub AlikeBefore : ℕ → Evaluation → Evaluation → Type 0
AlikeBefore k v w = (j : ℕ) → j < k → slice_get v.answers j ≡ slice_get w.answers j

-- the two vectors have equal answers wherever both evaluated a condition behind k
abbrev pub AlikeBehind : ℕ → Evaluation → Evaluation → Type 0
AlikeBehind k v w =
    (j : ℕ) (x y : Bool) → k < j → slice_get v.answers j ≡ Some (Some x) →
    slice_get w.answers j ≡ Some (Some y) → x ≡ y

-- Two vectors, with condition k true in the first and false in the second, are a pair exactly where
-- their answers before k are equal, and behind k wherever both evaluated a condition, and their
-- outcomes differ.
abbrev pub PairIsOfAnswers : Type 0
PairIsOfAnswers =
    (t : Tree) (k : ℕ) (v w : Evaluation) → IsNumbered t → IsVector t v → IsVector t w →
    slice_get v.answers k ≡ Some (Some true) → slice_get w.answers k ≡ Some (Some false) →
    IsUniquePair t k v w
    ↔ (AlikeBefore k v w × AlikeBehind k v w × (v.outcome ≢ w.outcome))

-- In a decision without operators that are evaluated in full they are a pair exactly where their
-- answers before k are equal and k has influence in both. By short-circuit evaluation no condition
-- behind k is then evaluated in both, and the outcomes differ.
abbrev pub PairIsOfPrefix : Type 0
PairIsOfPrefix =
    (t : Tree) (k : ℕ) (v w : Evaluation) → IsShort t → IsNumbered t →
    IsVector t v → IsVector t w →
    slice_get v.answers k ≡ Some (Some true) → slice_get w.answers k ≡ Some (Some false) →
    IsUniquePair t k v w ↔ (AlikeBefore k v w × HasInfluence t k v × HasInfluence t k w)

-- By masks: two vectors are a pair exactly where the bits in which their values differ, of the
-- conditions that both evaluated, are bit k alone, and the outcomes differ.
abbrev pub PairIsOfMasks : Type 0
PairIsOfMasks =
    (t : Tree) (k : ℕ) (v w : Evaluation)
    (v_evaluated v_value w_evaluated w_value : ℕ) →
    IsNumbered t → IsVector t v → IsVector t w →
    IsMaskOf v_evaluated (IsEvaluated v) → IsMaskOf v_value (IsOn v) →
    IsMaskOf w_evaluated (IsEvaluated w) → IsMaskOf w_value (IsOn w) →
    IsUniquePair t k v w
    ↔ (IsMaskOf (bit_and (bit_xor v_value w_value) (bit_and v_evaluated w_evaluated)) (λ j. j ≡ k)
    × (v.outcome ≢ w.outcome))
