use Rattle.mc_print.proofs.Lists.{effect_act, all_effects, begin, next, finish}
use Rattle.mc_print.proofs.effects.effects.Goals as goal

pub loop-tree-init : goal.loop-tree-init
loop-tree-init g c = begin effect_act c.args.trees.now _ _ _

pub loop-tree-preserved : goal.loop-tree-preserved
loop-tree-preserved g c =
    next effect_act c.args.trees.now c.loop-tree.tree-index c.tree-item.result _ _ _ _ _ _ _ _ _ c.loop-tree-test.true c.tree-item.is c.effect.ensures c.loop-tree.invariant

pub returns : goal.returns
returns g c =
    finish effect_act c.args.trees.now c.loop-tree.tree-index _ _ _ _ _ _ _ c.loop-tree-test.false (all_effects c.args.trees.now) c.loop-tree.invariant
