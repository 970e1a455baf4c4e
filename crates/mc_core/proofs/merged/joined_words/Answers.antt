use Rattle.mc_core.proofs.Merging.{one_joined}
use Rattle.mc_core.proofs.merged.joined_words.Goals as goal

pub loop-place-preserved : goal.loop-place-preserved
loop-place-preserved c =
    rw c.in_ok-push.ensures.items
    (one_joined c.args.left.now c.args.right.now c.rows-rows.result c.loop-place.place c.loop-place.list.items c.joined_word.result c.joined_word.ensures c.loop-place.invariant)
