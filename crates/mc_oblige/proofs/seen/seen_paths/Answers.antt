use Rattle.std.proofs.Common.{refl}
use Rattle.mc_oblige.proofs.Least.{seen_next}
use Rattle.mc_oblige.proofs.seen.seen_paths.Goals as goal

pub loop-path-preserved : goal.loop-path-preserved
loop-path-preserved c =
    rw c.in_ok-see.ensures (seen_next c.args.tests.now c.loop-path.path c.loop-path.seen.items _ refl c.loop-path.invariant)
