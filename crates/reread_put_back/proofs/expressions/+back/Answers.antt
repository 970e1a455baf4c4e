use Rattle.std.proofs.Common.{arith, rules}
use Rattle.reread_put_back.proofs.Lists.{begin, next, arguments_parts, arguments_pens}
use Rattle.reread_put_back.proofs.expressions.+back.Goals as goal

pub arguments-loop-tree-init : goal.arguments-loop-tree-init
arguments-loop-tree-init t c = begin _ _ _ _ _ _ (search rules)

pub arguments-loop-tree-preserved : goal.arguments-loop-tree-preserved
arguments-loop-tree-preserved t c =
    next _ _ _ _ _ _ _ _ _ _ _ _ c.loop-tree-test.true c.tree-item.is c.in_ok-push.ensures.items c.in_ok-copy.ensures.part c.in_ok-copy.ensures.pen c.loop-tree.invariant

pub arguments-returns-clause-part : goal.arguments-returns-clause-part
arguments-returns-clause-part t c = arguments_parts _ _ _ _ _ _ (omega (arith, c.loop-tree-test.false)) c.loop-tree.invariant

pub arguments-returns-clause-pen : goal.arguments-returns-clause-pen
arguments-returns-clause-pen t c = arguments_pens _ _ _ _ _ _ (omega (arith, c.loop-tree-test.false)) c.loop-tree.invariant
