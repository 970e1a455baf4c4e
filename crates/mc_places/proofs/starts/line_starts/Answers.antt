use Rattle.mc_places.proofs.Halving.{one_more}
use Rattle.mc_places.proofs.starts.line_starts.Goals as goal

pub loop-at-preserved : goal.loop-at-preserved
loop-at-preserved c =
    rw c.in_ok-pass.ensures
    (one_more c.args.source.now c.loop-at.at c.loop-at.starts.items c.loop-at-test.true c.loop-at.invariant)
