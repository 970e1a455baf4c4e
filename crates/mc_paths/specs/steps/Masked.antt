-- A step of the proofs: it follows the code, and no public clause rests on it.
-- The words and outcomes that stand for vectors.
use Rattle.std.specs.Prelude.{◌≡◌, ℕ, Option, Some, None, List, length, slice_get}
use Rattle.mc_cond.specs.Tree.{Tree}
use Rattle.mc_cond.specs.Vectors.{Evaluation}
use Rattle.mc_cond.specs.Influence.{HasInfluence}
use Rattle.mc_paths.specs.Paths.{IsPath, IsInUse}
use Rattle.mc_paths.specs.Masks.{IsMaskOf, IsEvaluated, IsOn}
use Rattle.mc_paths.specs.declared.masks.Masks.{Masks}

pub record AreMasks (t : Tree) (v : Evaluation) (m : Masks) : Type 0 where
  pub evaluated : IsMaskOf m.evaluated (IsEvaluated v)
  pub value : IsMaskOf m.value (IsOn v)
  pub influence : IsMaskOf m.influence (λ k. HasInfluence t k v)
  pub outcome : m.outcome ≡ v.outcome

-- what is kept of a number: the words of its vector, or nothing where it is idle
abbrev pub IsEntry : Tree → ℕ → Option Masks → Type 0
IsEntry t path (Some m) =
    IsInUse t path × ((v : Evaluation) → IsPath t path v → AreMasks t v m)
IsEntry t path None = IsInUse t path → ⊥

-- what is kept of the first `count` numbers, in order
pub record AreMasked (t : Tree) (count : ℕ) (list : List (Option Masks)) : Type 0 where
  pub many : length list ≡ count
  pub each : (path : ℕ) (entry : Option Masks) → slice_get list path ≡ Some entry →
      IsEntry t path entry
