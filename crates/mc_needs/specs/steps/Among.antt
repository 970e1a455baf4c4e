-- A step of the proofs: it follows the code, and no public clause rests on it.
-- Lists of paths.
use Rattle.std.specs.Prelude.{ℕ, ◌<◌, ◌↔◌, ◌⊎◌, Bool, List, All, Contains}
use Rattle.std.specs.List.Sorted.{IsStrictlyIncreasing}
use Rattle.mc_cond.specs.Tree.{Tree}
use Rattle.mc_pairs.specs.Pairs.{HasInfluenceAs}
use Rattle.mc_needs.specs.steps.Marks.{IsMarked}

-- those of the first n paths of which a fact holds, in ascending order
pub record AreAmong (holds : ℕ → Type 0) (n : ℕ) (paths : List ℕ) : Type 0 where
  pub ascending : IsStrictlyIncreasing paths
  pub below : All (λ path. path < n) paths
  pub each : (path : ℕ) → Contains paths path ↔ ((path < n) × holds path)

-- it is marked, or condition k has this value in it, and influence
abbrev pub IsMember : Tree → List Bool → ℕ → ℕ → Bool → ℕ → Type 0
IsMember t marks base k value path = IsMarked marks base path ⊎ HasInfluenceAs t k value path

-- any path
abbrev pub IsAny : ℕ → Type 0
IsAny path = Unit {0}
