use Rattle.std.proofs.Common.{true}
use Rattle.mc_needs.specs.steps.Among.{IsAny}
use Rattle.mc_needs.proofs.Rising.{paths_next}
use Rattle.mc_needs.proofs.among.all_paths.Goals as goal

pub loop-path-preserved : goal.loop-path-preserved
loop-path-preserved c =
    rw c.in_ok-push_if.ensures (paths_next IsAny c.loop-path.path c.loop-path.paths.items c.loop-path.invariant true (λ e. tt) (λ e. cc))
