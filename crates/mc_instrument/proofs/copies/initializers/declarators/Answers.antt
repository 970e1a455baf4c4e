use Rattle.std.proofs.Common.{arith, rules}
use Rattle.mc_probe.specs.BitMaps.{map_of}
use Rattle.mc_instrument.proofs.Lists.{begin, next}
use Rattle.mc_instrument.proofs.Done.{declarators_copied, declarators_counted, declarators_fit}
use Rattle.mc_instrument.proofs.copies.initializers.declarators.Goals as goal

pub loop-tree-init : goal.loop-tree-init
loop-tree-init c = begin _ _ _ _ _ _ _ (search rules)

pub declarator-requires : goal.declarator-requires
declarator-requires c =
    declarators_fit (map_of c.args.walk.now.map.now) c.args.walk.now.first _ _ _ _ _ _ c.loop-tree-test.true c.tree-item.is c.loop-tree.invariant c.requires

pub loop-tree-preserved : goal.loop-tree-preserved
loop-tree-preserved c =
    next _ _ _ _ _ _ _ _ _ _ _ _ _ c.loop-tree-test.true c.tree-item.is c.in_ok-push.ensures.items c.in_ok-copy.ensures.copy c.in_ok-copy.ensures.next c.loop-tree.invariant

pub returns-clause-copy : goal.returns-clause-copy
returns-clause-copy c = declarators_copied (map_of c.args.walk.now.map.now) c.args.walk.now.first _ _ _ _ _ (omega (arith, c.loop-tree-test.false)) c.loop-tree.invariant

pub returns-clause-next : goal.returns-clause-next
returns-clause-next c = declarators_counted (map_of c.args.walk.now.map.now) c.args.walk.now.first _ _ _ _ _ (omega (arith, c.loop-tree-test.false)) c.loop-tree.invariant
