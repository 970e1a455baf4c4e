-- What is copied, with what is still to come, is the whole.
use Rattle.mc_typed.specs.Views as plain
use Rattle.mc_probe.specs.BitMaps.{map_of}
use Rattle.mc_probe.specs.Table.{put_initializer}
use Rattle.mc_probe.specs.Views as probed
use Rattle.mc_instrument.proofs.Lists.{Left}
use Rattle.mc_instrument.proofs.Puts.{past_initializer}
use Rattle.mc_instrument.proofs.copies.initializers.+initializer.Given as goal

abbrev pub invariant-initializers-loop-tree : goal.invariant-initializers-loop-tree
invariant-initializers-loop-tree l =
    Left (put_initializer (map_of l.walk.map.now) l.walk.first) past_initializer plain.initializer_of probed.initializer_of l.copies.items l.next l.trees l.tree-index l.fn.next
