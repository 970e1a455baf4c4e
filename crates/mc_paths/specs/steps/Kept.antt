-- A step of the proofs: it follows the code, and no public clause rests on it.
-- What a numbering keeps beside its tree.
use Rattle.std.specs.Prelude.{◌≡◌, ℕ, ◌≤◌, Option, List}
use Rattle.mc_limits.specs.Limits.{most_paths}
use Rattle.mc_cond.specs.Tree.{tree_of, IsNumbered}
use Rattle.mc_cond.specs.declared.tree.CondTree.{CondTree}
use Rattle.mc_paths.specs.Paths.{count_of, increments}
use Rattle.mc_paths.specs.steps.Masked.{AreMasked}
use Rattle.mc_paths.specs.declared.masks.Masks.{Masks}

-- its tree is numbered, it has the increments, the count and the words of this tree, and the count
-- is small
pub record IsKept (tree : CondTree) (on_false : List ℕ) (count : ℕ) (masks : List (Option Masks))
    : Type 0 where
  pub numbered : IsNumbered (tree_of tree)
  pub edges : on_false ≡ increments (tree_of tree)
  pub total : count ≡ count_of (tree_of tree)
  pub few : count ≤ most_paths
  pub words : AreMasked (tree_of tree) count masks
