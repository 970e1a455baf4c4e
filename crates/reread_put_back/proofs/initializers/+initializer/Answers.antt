use Rattle.std.proofs.Common.{arith, rules}
use Rattle.reread_put_back.proofs.Lists.{begin, next, initializers_parts, initializers_pens}
use Rattle.reread_put_back.proofs.initializers.+initializer.Goals as goal

pub initializers-loop-tree-init : goal.initializers-loop-tree-init
initializers-loop-tree-init t c = begin _ _ _ _ _ _ (search rules)

pub initializers-loop-tree-preserved : goal.initializers-loop-tree-preserved
initializers-loop-tree-preserved t c =
    next _ _ _ _ _ _ _ _ _ _ _ _ c.loop-tree-test.true c.tree-item.is c.in_ok-push.ensures.items c.in_ok-copy.ensures.part c.in_ok-copy.ensures.pen c.loop-tree.invariant

pub initializers-returns-clause-part : goal.initializers-returns-clause-part
initializers-returns-clause-part t c = initializers_parts _ _ _ _ _ _ (omega (arith, c.loop-tree-test.false)) c.loop-tree.invariant

pub initializers-returns-clause-pen : goal.initializers-returns-clause-pen
initializers-returns-clause-pen t c = initializers_pens _ _ _ _ _ _ (omega (arith, c.loop-tree-test.false)) c.loop-tree.invariant
