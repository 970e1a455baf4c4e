use Rattle.std.proofs.Common.{arith, rules}
use Rattle.reread_put_back.proofs.Lists.{begin, next, statements_parts, statements_pens}
use Rattle.reread_put_back.proofs.statements.+statement.Goals as goal

pub statements-loop-tree-init : goal.statements-loop-tree-init
statements-loop-tree-init t c = begin _ _ _ _ _ _ (search rules)

pub statements-loop-tree-preserved : goal.statements-loop-tree-preserved
statements-loop-tree-preserved t c =
    next _ _ _ _ _ _ _ _ _ _ _ _ c.loop-tree-test.true c.tree-item.is c.in_ok-push.ensures.items c.in_ok-copy.ensures.part c.in_ok-copy.ensures.pen c.loop-tree.invariant

pub statements-returns-clause-part : goal.statements-returns-clause-part
statements-returns-clause-part t c = statements_parts _ _ _ _ _ _ (omega (arith, c.loop-tree-test.false)) c.loop-tree.invariant

pub statements-returns-clause-pen : goal.statements-returns-clause-pen
statements-returns-clause-pen t c = statements_pens _ _ _ _ _ _ (omega (arith, c.loop-tree-test.false)) c.loop-tree.invariant
