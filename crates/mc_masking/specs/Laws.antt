-- What follows from the definition of masking pairs.
use Rattle.std.specs.Prelude.{◌≡◌, ◌≢◌, ℕ, ◌<◌, ◌↔◌, Bool, true, false, not, Some, List, slice_get, Contains}
use Rattle.std.specs.Int.{bit_at}
use Rattle.mc_cond.specs.Tree.{Tree, IsNumbered, IsShort}
use Rattle.mc_cond.specs.Vectors.{Evaluation, IsVector}
use Rattle.mc_cond.specs.Influence.{HasInfluence}
use Rattle.mc_paths.specs.Paths.{IsPath}
use Rattle.mc_paths.specs.Masks.{IsMaskOf, IsOn}
use Rattle.mc_pairs.specs.Pairs.{HasInfluenceAs, IsLeastWhere, IsChosen}
use Rattle.mc_masking.specs.Masking.{IsMaskingPair}

abbrev pub PairIsEvaluated : Type 0
PairIsEvaluated =
    (t : Tree) (k : ℕ) (v w : Evaluation) → IsNumbered t → IsVector t v → IsVector t w →
    (pair : IsMaskingPair t k v w) →
    (slice_get v.answers k ≡ Some (Some (pair.a k)))
    × (slice_get w.answers k ≡ Some (Some (pair.b k)))

abbrev pub PairTurns : Type 0
PairTurns = (t : Tree) (k : ℕ) (v w : Evaluation) → IsMaskingPair t k v w → IsMaskingPair t k w v

-- Two vectors, with condition k true in the first and false in the second, are a pair exactly where
-- the condition has influence in both, and the outcomes differ.
abbrev pub PairIsOfInfluence : Type 0
PairIsOfInfluence =
    (t : Tree) (k : ℕ) (v w : Evaluation) →
    slice_get v.answers k ≡ Some (Some true) → slice_get w.answers k ≡ Some (Some false) →
    IsMaskingPair t k v w
    ↔ (HasInfluence t k v × HasInfluence t k w × (v.outcome ≢ w.outcome))

-- In a decision without operators that are evaluated in full influence alone makes a pair: AND, OR
-- and NOT move the outcome one way, so the outcomes differ. XOR moves it both ways.
abbrev pub PairIsOfInfluenceAlone : Type 0
PairIsOfInfluenceAlone =
    (t : Tree) (k : ℕ) (v w : Evaluation) → IsShort t → IsNumbered t →
    IsVector t v → IsVector t w →
    slice_get v.answers k ≡ Some (Some true) → slice_get w.answers k ≡ Some (Some false) →
    IsMaskingPair t k v w ↔ (HasInfluence t k v × HasInfluence t k w)

-- By masks: two vectors are a pair exactly where both influences have bit k, the values differ at
-- k, and the outcomes differ.
abbrev pub PairIsOfMasks : Type 0
PairIsOfMasks =
    (t : Tree) (k : ℕ) (v w : Evaluation) (v_value w_value v_influence w_influence : ℕ) →
    IsNumbered t → IsVector t v → IsVector t w →
    IsMaskOf v_value (IsOn v) → IsMaskOf w_value (IsOn w) →
    IsMaskOf v_influence (λ j. HasInfluence t j v) →
    IsMaskOf w_influence (λ j. HasInfluence t j w) →
    IsMaskingPair t k v w
    ↔ ((bit_at v_influence k ≡ 1) × (bit_at w_influence k ≡ 1)
    × (bit_at v_value k ≢ bit_at w_value k) × (v.outcome ≢ w.outcome))

-- The same without the outcomes, in a decision without operators that are evaluated in full.
abbrev pub PairIsOfMasksAlone : Type 0
PairIsOfMasksAlone =
    (t : Tree) (k : ℕ) (v w : Evaluation) (v_value w_value v_influence w_influence : ℕ) →
    IsShort t → IsNumbered t → IsVector t v → IsVector t w →
    IsMaskOf v_value (IsOn v) → IsMaskOf w_value (IsOn w) →
    IsMaskOf v_influence (λ j. HasInfluence t j v) →
    IsMaskOf w_influence (λ j. HasInfluence t j w) →
    IsMaskingPair t k v w
    ↔ ((bit_at v_influence k ≡ 1) × (bit_at w_influence k ≡ 1)
    × (bit_at v_value k ≢ bit_at w_value k))

-- the path's vector has this outcome, and condition k has this value in it, and influence
pub record HasInfluenceTo (t : Tree) (k : ℕ) (value outcome : Bool) (path : ℕ) : Type 0 where
  pub v : Evaluation
  pub is_path : IsPath t path v
  pub answer : slice_get v.answers k ≡ Some (Some value)
  pub influence : HasInfluence t k v
  pub result : v.outcome ≡ outcome

-- the least seen path in which condition k has this value, and influence
abbrev pub IsLeastSeen : Tree → List ℕ → ℕ → Bool → ℕ → Type 0
IsLeastSeen t seen k value path = IsLeastWhere (HasInfluenceAs t k value) seen path

-- the least of these with this outcome
abbrev pub IsLeastSeenTo : Tree → List ℕ → ℕ → Bool → Bool → ℕ → Type 0
IsLeastSeenTo t seen k value outcome path =
    IsLeastWhere (HasInfluenceTo t k value outcome) seen path

-- The chosen pair is of two of four least paths: one for each value of the condition and each
-- outcome. No pair of paths with the other two has a first path before it.
abbrev pub ChosenIsLeast : Type 0
ChosenIsLeast =
    (t : Tree) (seen : List ℕ) (k first second : ℕ) → IsNumbered t →
    IsChosen (IsMaskingPair t k) t seen k first second
    ↔ ((outcome : Bool) × IsLeastSeenTo t seen k true outcome first
    × IsLeastSeenTo t seen k false (not outcome) second
    × ((p q : ℕ) → Contains seen p → Contains seen q →
    HasInfluenceTo t k true (not outcome) p → HasInfluenceTo t k false outcome q → first < p))

-- In a decision without operators that are evaluated in full it is of two least paths: one for each
-- value of the condition.
abbrev pub ChosenIsLeastAlone : Type 0
ChosenIsLeastAlone =
    (t : Tree) (seen : List ℕ) (k first second : ℕ) → IsShort t → IsNumbered t →
    IsChosen (IsMaskingPair t k) t seen k first second
    ↔ (IsLeastSeen t seen k true first × IsLeastSeen t seen k false second)
