-- Pairs of paths, for a relation between vectors: the kind of independence that their vectors are
-- to show. A number that is idle has no vector, so it is in no pair.
use Rattle.std.specs.Prelude.{◌≡◌, ℕ, ◌<◌, ◌≤◌, ◌⊎◌, Bool, true, false, Some, List, slice_get, Contains}
use Rattle.mc_cond.specs.Tree.{Tree}
use Rattle.mc_cond.specs.Vectors.{Evaluation}
use Rattle.mc_cond.specs.Influence.{HasInfluence}
use Rattle.mc_paths.specs.Paths.{IsPath}

-- the two paths have vectors that stand in the relation
pub record ArePaired (shows : Evaluation → Evaluation → Type 0) (t : Tree) (first second : ℕ)
    : Type 0 where
  pub v : Evaluation
  pub w : Evaluation
  pub first_path : IsPath t first v
  pub second_path : IsPath t second w
  pub shown : shows v w

-- no two of the seen paths are paired
abbrev pub NonePaired : (Evaluation → Evaluation → Type 0) → Tree → List ℕ → Type 0
NonePaired shows t seen =
    (first second : ℕ) → Contains seen first → Contains seen second →
    ¬ ArePaired shows t first second

-- the relation where condition k is true in the first vector and false in the second
abbrev pub turned : ℕ → (Evaluation → Evaluation → Type 0) → Evaluation → Evaluation → Type 0
turned k shows v w =
    (slice_get v.answers k ≡ Some (Some true))
    × (slice_get w.answers k ≡ Some (Some false))
    × shows v w

-- The chosen pair of seen paths for condition k: true in the first member and false in the second,
-- with the least first member, and then the least second. The order of path numbers is that of
-- vectors.
pub record IsChosen (shows : Evaluation → Evaluation → Type 0) (t : Tree) (seen : List ℕ)
    (k first second : ℕ) : Type 0 where
  pub first_seen : Contains seen first
  pub second_seen : Contains seen second
  pub paired : ArePaired (turned k shows) t first second
  pub least : (p q : ℕ) → Contains seen p → Contains seen q → ArePaired (turned k shows) t p q →
      (first < p) ⊎ ((first ≡ p) × (second ≤ q))

-- of the seen paths of which a fact holds, the least
pub record IsLeastWhere (holds : ℕ → Type 0) (seen : List ℕ) (path : ℕ) : Type 0 where
  pub among : Contains seen path
  pub fits : holds path
  pub least : (other : ℕ) → Contains seen other → holds other → path ≤ other

-- condition k is evaluated with this value in the path's vector, and has influence on its outcome
pub record HasInfluenceAs (t : Tree) (k : ℕ) (value : Bool) (path : ℕ) : Type 0 where
  pub v : Evaluation
  pub is_path : IsPath t path v
  pub answer : slice_get v.answers k ≡ Some (Some value)
  pub influence : HasInfluence t k v
