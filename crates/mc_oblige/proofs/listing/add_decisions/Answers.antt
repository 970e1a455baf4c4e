use Rattle.mc_oblige.proofs.Listed.{decisions_step}
use Rattle.mc_oblige.proofs.listing.add_decisions.Goals as goal

pub loop-d-preserved : goal.loop-d-preserved
loop-d-preserved c =
    decisions_step c.args.decisions.now c.loop-d.d c.index-decisions-d.result c.loop-d-test.true c.index-decisions-d.is c.args.all.now.items c.loop-d.all.items c.add_decision.new.all.items
    c.loop-d.invariant c.in_ok-add_decision.ensures
