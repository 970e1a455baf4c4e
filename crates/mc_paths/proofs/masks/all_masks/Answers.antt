use Rattle.mc_cond.specs.Tree.{tree_of}
use Rattle.mc_paths.proofs.Masking.{one_masked}
use Rattle.mc_paths.proofs.masks.all_masks.Goals as goal

pub loop-path-preserved : goal.loop-path-preserved
loop-path-preserved c =
    rw c.in_ok-push.ensures.items
    (one_masked (tree_of c.args.tree.now) c.loop-path.path c.loop-path.masks.items c.masks_at.result c.masks_at.ensures c.loop-path.invariant)
