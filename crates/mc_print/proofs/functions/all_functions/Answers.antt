use Rattle.mc_print.proofs.Lists.{function_act, all_functions, begin, next, finish}
use Rattle.mc_print.proofs.functions.all_functions.Goals as goal

pub loop-tree-init : goal.loop-tree-init
loop-tree-init g c = begin function_act c.args.trees.now _ _ _

pub loop-tree-preserved : goal.loop-tree-preserved
loop-tree-preserved g c =
    next function_act c.args.trees.now c.loop-tree.tree-index c.tree-item.result _ _ _ _ _ _ _ _ _ c.loop-tree-test.true c.tree-item.is c.function.ensures c.loop-tree.invariant

pub returns : goal.returns
returns g c =
    finish function_act c.args.trees.now c.loop-tree.tree-index _ _ _ _ _ _ _ c.loop-tree-test.false (all_functions c.args.trees.now) c.loop-tree.invariant
