use denote.Param.Weighed.{at_most}
use Rattle.std.proofs.Common.{ap, arith, rules}
use Rattle.mc_typed.specs.declared.statements.Statement.{size-Statement}
use Rattle.mc_probe.specs.BitMaps.{map_of}
use Rattle.mc_probe.specs.Table.{At}
use Rattle.mc_instrument.proofs.Lists.{begin, next}
use Rattle.mc_instrument.proofs.Puts.{same_at}
use Rattle.mc_instrument.proofs.Done.{statements_copied, statements_counted, statements_fit}
use Rattle.mc_instrument.proofs.copies.statements.+statement.Goals as goal

pub statements-loop-tree-init : goal.statements-loop-tree-init
statements-loop-tree-init t c = begin _ _ _ _ _ _ _ (search rules)

pub statements-statement-requires : goal.statements-statement-requires
statements-statement-requires t c =
    let low = at_most size-Statement c.args.trees.now c.loop-tree.tree-index c.tree-item.result c.loop-tree-test.true in
    let same = ap size-Statement c.tree-item.is in (
      omega (arith, low, same, c.decreases),
      statements_fit (map_of c.args.walk.now.map.now) c.args.walk.now.first _ _ _ _ _ _ _ c.loop-tree-test.true c.tree-item.is c.loop-tree.invariant c.requires,
    )

pub statements-loop-tree-preserved : goal.statements-loop-tree-preserved
statements-loop-tree-preserved t c =
    let e = c.in_ok-copy.ensures in
    next _ _ _ _ _ _ _ _ _ _ _ _ _ c.loop-tree-test.true c.tree-item.is c.in_ok-push.ensures.items e.copy (same_at (map_of c.args.walk.now.map.now) c.args.walk.now.first _ _ e.exit e.statement e.label e.decision e.switch) c.loop-tree.invariant

pub statements-returns-clause-copy : goal.statements-returns-clause-copy
statements-returns-clause-copy t c = statements_copied (map_of c.args.walk.now.map.now) c.args.walk.now.first _ _ _ _ _ _ (omega (arith, c.loop-tree-test.false)) c.loop-tree.invariant

pub statements-returns-clause-exit : goal.statements-returns-clause-exit
statements-returns-clause-exit t c =
    ap (λ (a : At (map_of c.args.walk.now.map.now) c.args.walk.now.first). a.exit) (statements_counted (map_of c.args.walk.now.map.now) c.args.walk.now.first _ _ _ _ _ _ (omega (arith, c.loop-tree-test.false)) c.loop-tree.invariant)

pub statements-returns-clause-statement : goal.statements-returns-clause-statement
statements-returns-clause-statement t c =
    ap (λ (a : At (map_of c.args.walk.now.map.now) c.args.walk.now.first). a.statement) (statements_counted (map_of c.args.walk.now.map.now) c.args.walk.now.first _ _ _ _ _ _ (omega (arith, c.loop-tree-test.false)) c.loop-tree.invariant)

pub statements-returns-clause-label : goal.statements-returns-clause-label
statements-returns-clause-label t c =
    ap (λ (a : At (map_of c.args.walk.now.map.now) c.args.walk.now.first). a.label) (statements_counted (map_of c.args.walk.now.map.now) c.args.walk.now.first _ _ _ _ _ _ (omega (arith, c.loop-tree-test.false)) c.loop-tree.invariant)

pub statements-returns-clause-decision : goal.statements-returns-clause-decision
statements-returns-clause-decision t c =
    ap (λ (a : At (map_of c.args.walk.now.map.now) c.args.walk.now.first). a.decision) (statements_counted (map_of c.args.walk.now.map.now) c.args.walk.now.first _ _ _ _ _ _ (omega (arith, c.loop-tree-test.false)) c.loop-tree.invariant)

pub statements-returns-clause-switch : goal.statements-returns-clause-switch
statements-returns-clause-switch t c =
    ap (λ (a : At (map_of c.args.walk.now.map.now) c.args.walk.now.first). a.switch) (statements_counted (map_of c.args.walk.now.map.now) c.args.walk.now.first _ _ _ _ _ _ (omega (arith, c.loop-tree-test.false)) c.loop-tree.invariant)
