use Rattle.std.proofs.Common.{◌≡◌, ◌+◌, ◌^◌, ◌-◌, ◌∙◌, true, false, sym, arith, rules}
use Rattle.std.specs.Prelude.{max}
use Rattle.mc_cond.specs.Tree.{And, Or, FullAnd, FullOr, FullXor, tree_of}
use Rattle.mc_paths.specs.Paths.{room, all_false}
use Rattle.mc_paths.specs.steps.Bounds.{AreWithin}
use Rattle.mc_paths.proofs.AllFalse.{sum_of, sum_most, and_through, and_past, or_through, or_past, sum_full_and, sum_full_or, sum_full_xor}
use Rattle.mc_paths.proofs.rooms.+all_false.Goals as goal

pub overflow_add-result : goal.overflow_add-result
overflow_add-result t c =
    let l = tree_of c.in-And.left.value in
    let r = tree_of c.in-And.right.value in
    let x = c.args.after_true in
    let y = c.args.after_false in
    let first : c.all_false-first.result.number ≡ sum_of l (room r x y) y = search rules in
    let second : c.all_false-second.result.number ≡ sum_of r x y = search rules in
    let on : (all_false l).outcome ≡ true = search rules in
    let whole : AreWithin (2 ^ 128 - 1) (And l r) x y = rw c.in-And.is at c.requires in
    omega (arith, first, second, (and_through l r x y on).0, sum_most (And l r) x y (2 ^ 128 - 1) whole)

pub returns-then-first-clause-number : goal.returns-then-first-clause-number
returns-then-first-clause-number t c =
    let l = tree_of c.in-And.left.value in
    let r = tree_of c.in-And.right.value in
    let x = c.args.after_true in
    let y = c.args.after_false in
    let first : c.all_false-first.result.number ≡ sum_of l (room r x y) y = search rules in
    let second : c.all_false-second.result.number ≡ sum_of r x y = search rules in
    let on : (all_false l).outcome ≡ true = search rules in
    rw c.in-And.is (omega (arith, first, second, (and_through l r x y on).0))

pub returns-else-first-clause-number : goal.returns-else-first-clause-number
returns-else-first-clause-number t c =
    let l = tree_of c.in-And.left.value in
    let r = tree_of c.in-And.right.value in
    let x = c.args.after_true in
    let y = c.args.after_false in
    let first : c.all_false-first.result.number ≡ sum_of l (room r x y) y = search rules in
    let off : (all_false l).outcome ≡ false = search rules in
    rw c.in-And.is (first ∙ sym (and_past l r x y off).0)

pub overflow_add-result-else-first-2 : goal.overflow_add-result-else-first-2
overflow_add-result-else-first-2 t c =
    let l = tree_of c.in-Or.left.value in
    let r = tree_of c.in-Or.right.value in
    let x = c.args.after_true in
    let y = c.args.after_false in
    let first : c.all_false-first-in-Or.result.number ≡ sum_of l x (room r x y) = search rules in
    let second : c.all_false-second-else-first-2.result.number ≡ sum_of r x y = search rules in
    let on : (all_false l).outcome ≡ false = search rules in
    let whole : AreWithin (2 ^ 128 - 1) (Or l r) x y = rw c.in-Or.is at c.requires in
    omega (arith, first, second, (or_through l r x y on).0, sum_most (Or l r) x y (2 ^ 128 - 1) whole)

pub returns-else-first-2-clause-number : goal.returns-else-first-2-clause-number
returns-else-first-2-clause-number t c =
    let l = tree_of c.in-Or.left.value in
    let r = tree_of c.in-Or.right.value in
    let x = c.args.after_true in
    let y = c.args.after_false in
    let first : c.all_false-first-in-Or.result.number ≡ sum_of l x (room r x y) = search rules in
    let second : c.all_false-second-else-first-2.result.number ≡ sum_of r x y = search rules in
    let on : (all_false l).outcome ≡ false = search rules in
    rw c.in-Or.is (omega (arith, first, second, (or_through l r x y on).0))

pub returns-then-first-2-clause-number : goal.returns-then-first-2-clause-number
returns-then-first-2-clause-number t c =
    let l = tree_of c.in-Or.left.value in
    let r = tree_of c.in-Or.right.value in
    let x = c.args.after_true in
    let y = c.args.after_false in
    let first : c.all_false-first-in-Or.result.number ≡ sum_of l x (room r x y) = search rules in
    let off : (all_false l).outcome ≡ true = search rules in
    rw c.in-Or.is (first ∙ sym (or_past l r x y off).0)

pub overflow_add-result-in-FullAnd : goal.overflow_add-result-in-FullAnd
overflow_add-result-in-FullAnd t c =
    let l = tree_of c.in-FullAnd.left.value in
    let r = tree_of c.in-FullAnd.right.value in
    let x = c.args.after_true in
    let y = c.args.after_false in
    let first : c.all_false-first-in-FullAnd.result.number ≡ sum_of l (room r (max x y) y) (room r (max x y) y) = search rules in
    let second : c.all_false-second-in-FullAnd.result.number ≡ sum_of r (max x y) y = search rules in
    let whole : AreWithin (2 ^ 128 - 1) (FullAnd l r) x y = rw c.in-FullAnd.is at c.requires in
    omega (arith, first, second, sum_full_and l r x y, sum_most (FullAnd l r) x y (2 ^ 128 - 1) whole)

pub returns-in-FullAnd-clause-number : goal.returns-in-FullAnd-clause-number
returns-in-FullAnd-clause-number t c =
    let l = tree_of c.in-FullAnd.left.value in
    let r = tree_of c.in-FullAnd.right.value in
    let x = c.args.after_true in
    let y = c.args.after_false in
    let first : c.all_false-first-in-FullAnd.result.number ≡ sum_of l (room r (max x y) y) (room r (max x y) y) = search rules in
    let second : c.all_false-second-in-FullAnd.result.number ≡ sum_of r (max x y) y = search rules in
    rw c.in-FullAnd.is (omega (arith, first, second, sum_full_and l r x y))

pub overflow_add-result-in-FullOr : goal.overflow_add-result-in-FullOr
overflow_add-result-in-FullOr t c =
    let l = tree_of c.in-FullOr.left.value in
    let r = tree_of c.in-FullOr.right.value in
    let x = c.args.after_true in
    let y = c.args.after_false in
    let first : c.all_false-first-in-FullOr.result.number ≡ sum_of l (room r x (max x y)) (room r x (max x y)) = search rules in
    let second : c.all_false-second-in-FullOr.result.number ≡ sum_of r x (max x y) = search rules in
    let whole : AreWithin (2 ^ 128 - 1) (FullOr l r) x y = rw c.in-FullOr.is at c.requires in
    omega (arith, first, second, sum_full_or l r x y, sum_most (FullOr l r) x y (2 ^ 128 - 1) whole)

pub returns-in-FullOr-clause-number : goal.returns-in-FullOr-clause-number
returns-in-FullOr-clause-number t c =
    let l = tree_of c.in-FullOr.left.value in
    let r = tree_of c.in-FullOr.right.value in
    let x = c.args.after_true in
    let y = c.args.after_false in
    let first : c.all_false-first-in-FullOr.result.number ≡ sum_of l (room r x (max x y)) (room r x (max x y)) = search rules in
    let second : c.all_false-second-in-FullOr.result.number ≡ sum_of r x (max x y) = search rules in
    rw c.in-FullOr.is (omega (arith, first, second, sum_full_or l r x y))

pub overflow_add-result-in-FullXor : goal.overflow_add-result-in-FullXor
overflow_add-result-in-FullXor t c =
    let l = tree_of c.in-FullXor.left.value in
    let r = tree_of c.in-FullXor.right.value in
    let x = c.args.after_true in
    let y = c.args.after_false in
    let first : c.all_false-first-in-FullXor.result.number ≡ sum_of l (room r (max x y) (max x y)) (room r (max x y) (max x y)) = search rules in
    let second : c.all_false-second-in-FullXor.result.number ≡ sum_of r (max x y) (max x y) = search rules in
    let whole : AreWithin (2 ^ 128 - 1) (FullXor l r) x y = rw c.in-FullXor.is at c.requires in
    omega (arith, first, second, sum_full_xor l r x y, sum_most (FullXor l r) x y (2 ^ 128 - 1) whole)

pub returns-in-FullXor-clause-number : goal.returns-in-FullXor-clause-number
returns-in-FullXor-clause-number t c =
    let l = tree_of c.in-FullXor.left.value in
    let r = tree_of c.in-FullXor.right.value in
    let x = c.args.after_true in
    let y = c.args.after_false in
    let first : c.all_false-first-in-FullXor.result.number ≡ sum_of l (room r (max x y) (max x y)) (room r (max x y) (max x y)) = search rules in
    let second : c.all_false-second-in-FullXor.result.number ≡ sum_of r (max x y) (max x y) = search rules in
    rw c.in-FullXor.is (omega (arith, first, second, sum_full_xor l r x y))
