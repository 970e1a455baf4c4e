-- The decisions of a program, in their order.
use Rattle.std.specs.Prelude.{◌≡◌, ℕ, ◌<◌, ◌≤◌, ◌⊎◌, List, [], ◌∷◌, length, slice_get, Some, All, Contains}
use Rattle.mc_limits.specs.Limits.{most_conditions}
use Rattle.mc_span.specs.declared.span.Span.{Span}
use Rattle.mc_cond.specs.Tree.{Tree}
use Rattle.mc_typed.specs.Tree.{Function}
use Rattle.mc_typed.specs.Levels.{limited}
use Rattle.decide_rules.specs.Nodes.{Node, span_of}
use Rattle.decide_rules.specs.Roots.{Place, Found, IsRoot}
use Rattle.decide_rules.specs.Conditions.{width, tree_from, IsCondition}

-- where the root stands, the function in whose body it stands, the tree, and where each condition
-- stands
pub record Decision : Type 0 where
  pub root : Span
  pub function : ℕ
  pub tree : Tree
  pub conditions : List Span

-- what is told of the decision with this root
pub record Tells (f : Found) (d : Decision) : Type 0 where
  pub root : d.root ≡ span_of f.node
  -- the parts of a program are its functions
  pub function : slice_get f.place 0 ≡ Some d.function
  pub tree : d.tree ≡ tree_from 0 f.node
  pub count : length d.conditions ≡ width f.node
  pub conditions :
      (k : ℕ) (p : Place) (x : Node) → IsCondition f.node k p x
      → slice_get d.conditions k ≡ Some (span_of x)

abbrev pub AreTold : List Found → List Decision → Type 0
AreTold [] [] = Unit {0}
AreTold [] (d ∷ ds) = ⊥
AreTold (f ∷ fs) [] = ⊥
AreTold (f ∷ fs) (d ∷ ds) = Tells f d × AreTold fs ds

-- ---- the order

-- the order of the text: a node before its parts, and the parts one after the other
abbrev pub IsBefore : Place → Place → Type 0
IsBefore [] [] = ⊥
IsBefore [] (j ∷ q) = Unit {0}
IsBefore (i ∷ p) [] = ⊥
IsBefore (i ∷ p) (j ∷ q) = (i < j) ⊎ ((i ≡ j) × IsBefore p q)

-- each before all that follow it
abbrev pub IsAscending : List Found → Type 0
IsAscending [] = Unit {0}
IsAscending (f ∷ fs) = All (λ g. IsBefore f.place g.place) fs × IsAscending fs

-- ---- the decisions of the program with these functions

-- one for each root, in the order of the text
pub record AreDecisions (fs : List Function) (ds : List Decision) : Type 0 where
  pub roots : List Found
  pub only : All (IsRoot fs) roots
  pub each : (f : Found) → IsRoot fs f → Contains roots f
  pub in_order : IsAscending roots
  pub told : AreTold roots ds

-- ---- too many conditions

abbrev pub IsSmall : Decision → Type 0
IsSmall d = length d.conditions ≤ most_conditions

-- The first decision that is not small has its root at this byte and so many conditions; where
-- there are more than 2^32 - 1, this number stands for them.
abbrev pub IsFirstLarge : List Decision → ℕ → ℕ → Type 0
IsFirstLarge [] at count = ⊥
IsFirstLarge (d ∷ ds) at count =
    ((most_conditions < length d.conditions) × (at ≡ d.root.start)
    × (count ≡ limited (length d.conditions)))
    ⊎ (IsSmall d × IsFirstLarge ds at count)
