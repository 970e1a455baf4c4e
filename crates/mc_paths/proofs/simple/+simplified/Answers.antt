use Rattle.std.proofs.Common.{rules}
use Rattle.mc_cond.specs.Tree.{Or, FullAnd, FullOr, FullXor, tree_of}
use Rattle.mc_paths.specs.steps.Same.{AreSame}
use Rattle.mc_paths.proofs.Simplifying.{same_or, same_full_and, same_full_or, same_full_xor}
use Rattle.mc_paths.proofs.simple.+simplified.Goals as goal

pub returns-in_ok-right-in-Or : goal.returns-in_ok-right-in-Or
returns-in_ok-right-in-Or t c =
    let left : AreSame (tree_of c.in_ok-left-in-Or.left.value) (tree_of c.in-Or.left.value) = search rules in
    let right : AreSame (tree_of c.in_ok-right-in-Or.right.value) (tree_of c.in-Or.right.value) = search rules in
    rw c.in-Or.is
    (c.turned-in-Or.ensures (Or (tree_of c.in-Or.left.value) (tree_of c.in-Or.right.value))
    (same_or (tree_of c.in_ok-left-in-Or.left.value) (tree_of c.in_ok-right-in-Or.right.value) (tree_of c.in-Or.left.value) (tree_of c.in-Or.right.value) left right))

pub returns-in_ok-right-in-FullAnd : goal.returns-in_ok-right-in-FullAnd
returns-in_ok-right-in-FullAnd t c =
    let left : AreSame (tree_of c.in_ok-left-in-FullAnd.left.value) (tree_of c.in-FullAnd.left.value) = search rules in
    let right : AreSame (tree_of c.in_ok-right-in-FullAnd.right.value) (tree_of c.in-FullAnd.right.value) = search rules in
    rw c.in-FullAnd.is
    (c.turned-in-FullAnd.ensures (FullAnd (tree_of c.in-FullAnd.left.value) (tree_of c.in-FullAnd.right.value))
    (same_full_and (tree_of c.in_ok-left-in-FullAnd.left.value) (tree_of c.in_ok-right-in-FullAnd.right.value) (tree_of c.in-FullAnd.left.value) (tree_of c.in-FullAnd.right.value) left right))

pub returns-in_ok-right-in-FullOr : goal.returns-in_ok-right-in-FullOr
returns-in_ok-right-in-FullOr t c =
    let left : AreSame (tree_of c.in_ok-left-in-FullOr.left.value) (tree_of c.in-FullOr.left.value) = search rules in
    let right : AreSame (tree_of c.in_ok-right-in-FullOr.right.value) (tree_of c.in-FullOr.right.value) = search rules in
    rw c.in-FullOr.is
    (c.turned-in-FullOr.ensures (FullOr (tree_of c.in-FullOr.left.value) (tree_of c.in-FullOr.right.value))
    (same_full_or (tree_of c.in_ok-left-in-FullOr.left.value) (tree_of c.in_ok-right-in-FullOr.right.value) (tree_of c.in-FullOr.left.value) (tree_of c.in-FullOr.right.value) left right))

pub returns-in_ok-right-in-FullXor : goal.returns-in_ok-right-in-FullXor
returns-in_ok-right-in-FullXor t c =
    let left : AreSame (tree_of c.in_ok-left-in-FullXor.left.value) (tree_of c.in-FullXor.left.value) = search rules in
    let right : AreSame (tree_of c.in_ok-right-in-FullXor.right.value) (tree_of c.in-FullXor.right.value) = search rules in
    rw c.in-FullXor.is
    (c.turned-in-FullXor.ensures (FullXor (tree_of c.in-FullXor.left.value) (tree_of c.in-FullXor.right.value))
    (same_full_xor (tree_of c.in_ok-left-in-FullXor.left.value) (tree_of c.in_ok-right-in-FullXor.right.value) (tree_of c.in-FullXor.left.value) (tree_of c.in-FullXor.right.value) left right))
