-- Equality of condition trees, and why facts of a map have one proof each.
use Rattle.std.specs.Prelude.{◌≡◌, ℕ, ◌+◌, List, [], ◌∷◌}
use Rattle.std.specs.Coded.{×_prop, le_prop}
use Rattle.std.proofs.Math.Nat.{ℕ_set}
use Rattle.mc_cond.specs.declared.tree.CondTree.{CondTree}
use Rattle.mc_cond.specs.Tree.{Tree, Leaf, Not, And, Or, FullAnd, FullOr, FullXor, tree_of, size, IsNumberedFrom}
use Rattle.mc_paths.specs.Paths.{count_of}
use Rattle.mc_probe.specs.Maps.{Mapped, AreBased, IsPlaced}
use Rattle.decide_rules.specs.Decisions.{Decision}

-- the two are one tree
abbrev pub IsSame : Tree → Tree → Type 0
IsSame (Leaf k) (Leaf l) = k ≡ l
IsSame (Not a) (Not b) = IsSame a b
IsSame (And a b) (And c d) = IsSame a c × IsSame b d
IsSame (Or a b) (Or c d) = IsSame a c × IsSame b d
IsSame (FullAnd a b) (FullAnd c d) = IsSame a c × IsSame b d
IsSame (FullOr a b) (FullOr c d) = IsSame a c × IsSame b d
IsSame (FullXor a b) (FullXor c d) = IsSame a c × IsSame b d
IsSame _ _ = ⊥

nothing_prop : IsProp ⊥
nothing_prop x y = absurd x

numbers_prop : (k l : ℕ) → IsProp (k ≡ l)
numbers_prop k l = ℕ_set k l

pub IsSame-prop : (a b : Tree) → IsProp (IsSame a b)
IsSame-prop (Leaf k) (Leaf l) = numbers_prop k l
IsSame-prop (Leaf k) (Not b) = nothing_prop
IsSame-prop (Leaf k) (And b c) = nothing_prop
IsSame-prop (Leaf k) (Or b c) = nothing_prop
IsSame-prop (Leaf k) (FullAnd b c) = nothing_prop
IsSame-prop (Leaf k) (FullOr b c) = nothing_prop
IsSame-prop (Leaf k) (FullXor b c) = nothing_prop
IsSame-prop (Not a) (Leaf l) = nothing_prop
IsSame-prop (Not a) (Not b) = IsSame-prop a b
IsSame-prop (Not a) (And b c) = nothing_prop
IsSame-prop (Not a) (Or b c) = nothing_prop
IsSame-prop (Not a) (FullAnd b c) = nothing_prop
IsSame-prop (Not a) (FullOr b c) = nothing_prop
IsSame-prop (Not a) (FullXor b c) = nothing_prop
IsSame-prop (And a b) (Leaf l) = nothing_prop
IsSame-prop (And a b) (Not c) = nothing_prop
IsSame-prop (And a b) (And c d) = ×_prop (IsSame-prop a c) (IsSame-prop b d)
IsSame-prop (And a b) (Or c d) = nothing_prop
IsSame-prop (And a b) (FullAnd c d) = nothing_prop
IsSame-prop (And a b) (FullOr c d) = nothing_prop
IsSame-prop (And a b) (FullXor c d) = nothing_prop
IsSame-prop (Or a b) (Leaf l) = nothing_prop
IsSame-prop (Or a b) (Not c) = nothing_prop
IsSame-prop (Or a b) (And c d) = nothing_prop
IsSame-prop (Or a b) (Or c d) = ×_prop (IsSame-prop a c) (IsSame-prop b d)
IsSame-prop (Or a b) (FullAnd c d) = nothing_prop
IsSame-prop (Or a b) (FullOr c d) = nothing_prop
IsSame-prop (Or a b) (FullXor c d) = nothing_prop
IsSame-prop (FullAnd a b) (Leaf l) = nothing_prop
IsSame-prop (FullAnd a b) (Not c) = nothing_prop
IsSame-prop (FullAnd a b) (And c d) = nothing_prop
IsSame-prop (FullAnd a b) (Or c d) = nothing_prop
IsSame-prop (FullAnd a b) (FullAnd c d) = ×_prop (IsSame-prop a c) (IsSame-prop b d)
IsSame-prop (FullAnd a b) (FullOr c d) = nothing_prop
IsSame-prop (FullAnd a b) (FullXor c d) = nothing_prop
IsSame-prop (FullOr a b) (Leaf l) = nothing_prop
IsSame-prop (FullOr a b) (Not c) = nothing_prop
IsSame-prop (FullOr a b) (And c d) = nothing_prop
IsSame-prop (FullOr a b) (Or c d) = nothing_prop
IsSame-prop (FullOr a b) (FullAnd c d) = nothing_prop
IsSame-prop (FullOr a b) (FullOr c d) = ×_prop (IsSame-prop a c) (IsSame-prop b d)
IsSame-prop (FullOr a b) (FullXor c d) = nothing_prop
IsSame-prop (FullXor a b) (Leaf l) = nothing_prop
IsSame-prop (FullXor a b) (Not c) = nothing_prop
IsSame-prop (FullXor a b) (And c d) = nothing_prop
IsSame-prop (FullXor a b) (Or c d) = nothing_prop
IsSame-prop (FullXor a b) (FullAnd c d) = nothing_prop
IsSame-prop (FullXor a b) (FullOr c d) = nothing_prop
IsSame-prop (FullXor a b) (FullXor c d) = ×_prop (IsSame-prop a c) (IsSame-prop b d)

-- the first is the tree of a numbering of the second
abbrev pub Numbers : CondTree → CondTree → Type 0
Numbers numbering tree = IsSame (tree_of numbering) (tree_of tree)

pub Numbers-prop : (a b : CondTree) → IsProp (Numbers a b)
Numbers-prop a b = IsSame-prop (tree_of a) (tree_of b)

pub IsNumberedFrom-prop : (first : ℕ) (a : Tree) → IsProp (IsNumberedFrom first a)
IsNumberedFrom-prop first (Leaf k) = numbers_prop k first
IsNumberedFrom-prop first (Not a) = IsNumberedFrom-prop first a
IsNumberedFrom-prop first (And a b) =
    ×_prop (IsNumberedFrom-prop first a) (IsNumberedFrom-prop (first + size a) b)
IsNumberedFrom-prop first (Or a b) =
    ×_prop (IsNumberedFrom-prop first a) (IsNumberedFrom-prop (first + size a) b)
IsNumberedFrom-prop first (FullAnd a b) =
    ×_prop (IsNumberedFrom-prop first a) (IsNumberedFrom-prop (first + size a) b)
IsNumberedFrom-prop first (FullOr a b) =
    ×_prop (IsNumberedFrom-prop first a) (IsNumberedFrom-prop (first + size a) b)
IsNumberedFrom-prop first (FullXor a b) =
    ×_prop (IsNumberedFrom-prop first a) (IsNumberedFrom-prop (first + size a) b)

pub IsPlaced-prop : (d : Decision) → IsProp (IsPlaced d)
IsPlaced-prop d = hlevel (IsNumberedFrom-prop, le_prop, ℕ_set)

pub AreBased-prop : (ds : List Mapped) (from to : ℕ) → IsProp (AreBased ds from to)
AreBased-prop [] from to = numbers_prop from to
AreBased-prop (d ∷ ds) from to =
    ×_prop (numbers_prop d.base from) (AreBased-prop ds (from + count_of d.decision.tree) to)
