use Rattle.std.proofs.Common.{arith, rules}
use Rattle.reread_put_back.proofs.Lists.{begin, next, parts, pens}
use Rattle.reread_put_back.proofs.initializers.declarators.Goals as goal

pub loop-tree-init : goal.loop-tree-init
loop-tree-init c = begin _ _ _ _ _ _ (search rules)

pub loop-tree-preserved : goal.loop-tree-preserved
loop-tree-preserved c =
    next _ _ _ _ _ _ _ _ _ _ _ _ c.loop-tree-test.true c.tree-item.is c.in_ok-push.ensures.items c.in_ok-copy.ensures.part c.in_ok-copy.ensures.pen c.loop-tree.invariant

pub returns-clause-part : goal.returns-clause-part
returns-clause-part c = parts _ _ _ _ _ _ _ _ (omega (arith, c.loop-tree-test.false)) c.loop-tree.invariant

pub returns-clause-pen : goal.returns-clause-pen
returns-clause-pen c = pens _ _ _ _ _ _ _ _ (omega (arith, c.loop-tree-test.false)) c.loop-tree.invariant
