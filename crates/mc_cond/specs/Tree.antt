-- A decision's tree, without where it lies in memory.
use Rattle.std.specs.Prelude.{◌≡◌, ℕ, ◌+◌, ◌<◌, ◌≤◌, ⊤}
use Rattle.mc_cond.specs.declared.tree.CondTree.{CondTree}
use Rattle.mc_cond.specs.declared.tree.CondTree.TheVariants as code

-- A decision consists of conditions and Boolean operators (DO-178C, glossary).
-- A condition is known by its number.
pub data Tree : Type 0 where
  Leaf : ℕ → Tree
  Not : Tree → Tree
  And : Tree → Tree → Tree
  Or : Tree → Tree → Tree
  -- AND, OR and XOR that evaluate both operands
  FullAnd : Tree → Tree → Tree
  FullOr : Tree → Tree → Tree
  FullXor : Tree → Tree → Tree

-- what a tree of the program stands for
abbrev pub tree_of : CondTree → Tree
tree_of (code.Leaf k) = Leaf k
tree_of (code.Not' p operand) = Not (tree_of operand)
tree_of (code.And' p left q right) = And (tree_of left) (tree_of right)
tree_of (code.Or' p left q right) = Or (tree_of left) (tree_of right)
tree_of (code.FullAnd' p left q right) = FullAnd (tree_of left) (tree_of right)
tree_of (code.FullOr' p left q right) = FullOr (tree_of left) (tree_of right)
tree_of (code.FullXor' p left q right) = FullXor (tree_of left) (tree_of right)

-- how many conditions it has: each occurrence is a condition of its own
abbrev pub size : Tree → ℕ
size (Leaf k) = 1
size (Not a) = size a
size (And a b) = size a + size b
size (Or a b) = size a + size b
size (FullAnd a b) = size a + size b
size (FullOr a b) = size a + size b
size (FullXor a b) = size a + size b

-- no operator in it is evaluated in full
abbrev pub IsShort : Tree → Type 0
IsShort (Leaf k) = ⊤
IsShort (Not a) = IsShort a
IsShort (And a b) = IsShort a × IsShort b
IsShort (Or a b) = IsShort a × IsShort b
IsShort (FullAnd a b) = ⊥
IsShort (FullOr a b) = ⊥
IsShort (FullXor a b) = ⊥

-- its conditions are numbered from `first` on, in the order of the text
abbrev pub IsNumberedFrom : ℕ → Tree → Type 0
IsNumberedFrom first (Leaf k) = k ≡ first
IsNumberedFrom first (Not a) = IsNumberedFrom first a
IsNumberedFrom first (And a b) = IsNumberedFrom first a × IsNumberedFrom (first + size a) b
IsNumberedFrom first (Or a b) = IsNumberedFrom first a × IsNumberedFrom (first + size a) b
IsNumberedFrom first (FullAnd a b) = IsNumberedFrom first a × IsNumberedFrom (first + size a) b
IsNumberedFrom first (FullOr a b) = IsNumberedFrom first a × IsNumberedFrom (first + size a) b
IsNumberedFrom first (FullXor a b) = IsNumberedFrom first a × IsNumberedFrom (first + size a) b

-- the trees of accepted decisions: numbered from 0 on, with at most 64 conditions
pub record IsNumbered (t : Tree) : Type 0 where
  pub in_order : IsNumberedFrom 0 t
  pub few : size t ≤ 64

-- the number of each condition is below the limit
abbrev pub AreBelow : ℕ → Tree → Type 0
AreBelow limit (Leaf k) = k < limit
AreBelow limit (Not a) = AreBelow limit a
AreBelow limit (And a b) = AreBelow limit a × AreBelow limit b
AreBelow limit (Or a b) = AreBelow limit a × AreBelow limit b
AreBelow limit (FullAnd a b) = AreBelow limit a × AreBelow limit b
AreBelow limit (FullOr a b) = AreBelow limit a × AreBelow limit b
AreBelow limit (FullXor a b) = AreBelow limit a × AreBelow limit b
