-- The numbers of a tree's conditions.
use Rattle.std.proofs.Common.{ℕ, ◌+◌, ◌≤◌, arith}
use Rattle.mc_cond.specs.Tree.{Tree, Leaf, Not, And, Or, FullAnd, FullOr, FullXor, size, IsNumberedFrom, AreBelow}

-- conditions numbered from `first` on are below `first` and their count
pub numbered_below : (t : Tree) (first limit : ℕ) → IsNumberedFrom first t → first + size t ≤ limit → AreBelow limit t
numbered_below (Leaf k) first limit n h = omega arith
numbered_below (Not a) first limit n h = numbered_below a first limit n h
numbered_below (And a b) first limit n h = (numbered_below a first limit n.0 (omega arith), numbered_below b (first + size a) limit n.1 (omega arith))
numbered_below (Or a b) first limit n h = (numbered_below a first limit n.0 (omega arith), numbered_below b (first + size a) limit n.1 (omega arith))
numbered_below (FullAnd a b) first limit n h = (numbered_below a first limit n.0 (omega arith), numbered_below b (first + size a) limit n.1 (omega arith))
numbered_below (FullOr a b) first limit n h = (numbered_below a first limit n.0 (omega arith), numbered_below b (first + size a) limit n.1 (omega arith))
numbered_below (FullXor a b) first limit n h = (numbered_below a first limit n.0 (omega arith), numbered_below b (first + size a) limit n.1 (omega arith))
