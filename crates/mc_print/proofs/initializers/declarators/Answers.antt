use Rattle.mc_print.proofs.Lists.{declarator_act, all_declarators, begin, next, finish}
use Rattle.mc_print.proofs.initializers.declarators.Goals as goal

pub loop-tree-init : goal.loop-tree-init
loop-tree-init g c = begin declarator_act c.args.trees.now _ _ _

pub loop-tree-preserved : goal.loop-tree-preserved
loop-tree-preserved g c =
    next declarator_act c.args.trees.now c.loop-tree.tree-index c.tree-item.result _ _ _ _ _ _ _ _ _ c.loop-tree-test.true c.tree-item.is c.initial.ensures c.loop-tree.invariant

pub returns : goal.returns
returns g c =
    finish declarator_act c.args.trees.now c.loop-tree.tree-index _ _ _ _ _ _ _ c.loop-tree-test.false (all_declarators c.args.trees.now) c.loop-tree.invariant
