use Rattle.mc_print.proofs.Held.{by}
use Rattle.mc_print.proofs.Lists.{initializer_act, all_initializers, begin, next, finish}
use Rattle.mc_print.proofs.Wholes.{initializer_list, initializer_number, initializer_structure, initializer_zero}
use Rattle.mc_print.proofs.initializers.+initializer.Goals as goal

pub initializer-returns-in-Number : goal.initializer-returns-in-Number
initializer-returns-in-Number g t c = λ start first p h.
    by _ _ (initializer_number _ _ c.in-Number.is) start first p _ _ _
    (c.expression.ensures start first p h)

pub initializer-returns-in-Structure : goal.initializer-returns-in-Structure
initializer-returns-in-Structure g t c = λ start first p h.
    by _ _ (initializer_structure _ _ _ c.in-Structure.is) start first p _ _ _
    (c.structure.ensures start first p h)

pub initializer-returns-in-List : goal.initializer-returns-in-List
initializer-returns-in-List g t c = λ start first p h.
    by _ _ (initializer_list _ _ _ _ c.in-List.is c.deref.ensures.value) start first p _ _ _
    (c.initializers.ensures start first p h)

pub initializer-returns-in-Zero : goal.initializer-returns-in-Zero
initializer-returns-in-Zero g t c = λ start first p h.
    by _ _ (initializer_zero _ _ _ c.in-Zero.is) start first p _ _ _
    (c.expression-in-Zero.ensures start first p h)

pub initializers-loop-tree-init : goal.initializers-loop-tree-init
initializers-loop-tree-init g t c = begin initializer_act c.args.trees.now _ _ _

pub initializers-loop-tree-preserved : goal.initializers-loop-tree-preserved
initializers-loop-tree-preserved g t c =
    next initializer_act c.args.trees.now c.loop-tree.tree-index c.tree-item.result _ _ _ _ _ _ _ _ _ c.loop-tree-test.true c.tree-item.is c.initializer.ensures c.loop-tree.invariant

pub initializers-returns : goal.initializers-returns
initializers-returns g t c =
    finish initializer_act c.args.trees.now c.loop-tree.tree-index _ _ _ _ _ _ _ c.loop-tree-test.false (all_initializers c.args.trees.now) c.loop-tree.invariant
