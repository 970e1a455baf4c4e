use denote.Param.Weighed.{at_most}
use Rattle.std.proofs.Common.{ap, arith, rules}
use Rattle.mc_typed.specs.declared.initializers.Initializer.{size-Initializer}
use Rattle.mc_probe.specs.BitMaps.{map_of}
use Rattle.mc_instrument.proofs.Lists.{begin, next}
use Rattle.mc_instrument.proofs.Done.{initializers_copied, initializers_counted, initializers_fit}
use Rattle.mc_instrument.proofs.copies.initializers.+initializer.Goals as goal

pub initializers-loop-tree-init : goal.initializers-loop-tree-init
initializers-loop-tree-init t c = begin _ _ _ _ _ _ _ (search rules)

pub initializers-initializer-requires : goal.initializers-initializer-requires
initializers-initializer-requires t c =
    let low = at_most size-Initializer c.args.trees.now c.loop-tree.tree-index c.tree-item.result c.loop-tree-test.true in
    let same = ap size-Initializer c.tree-item.is in (
      omega (arith, low, same, c.decreases),
      initializers_fit (map_of c.args.walk.now.map.now) c.args.walk.now.first _ _ _ _ _ _ c.loop-tree-test.true c.tree-item.is c.loop-tree.invariant c.requires,
    )

pub initializers-loop-tree-preserved : goal.initializers-loop-tree-preserved
initializers-loop-tree-preserved t c =
    next _ _ _ _ _ _ _ _ _ _ _ _ _ c.loop-tree-test.true c.tree-item.is c.in_ok-push.ensures.items c.in_ok-copy.ensures.copy c.in_ok-copy.ensures.next c.loop-tree.invariant

pub initializers-returns-clause-copy : goal.initializers-returns-clause-copy
initializers-returns-clause-copy t c = initializers_copied (map_of c.args.walk.now.map.now) c.args.walk.now.first _ _ _ _ _ (omega (arith, c.loop-tree-test.false)) c.loop-tree.invariant

pub initializers-returns-clause-next : goal.initializers-returns-clause-next
initializers-returns-clause-next t c = initializers_counted (map_of c.args.walk.now.map.now) c.args.walk.now.first _ _ _ _ _ (omega (arith, c.loop-tree-test.false)) c.loop-tree.invariant
