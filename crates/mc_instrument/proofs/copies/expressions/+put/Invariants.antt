-- What is copied, with what is still to come, is the whole.
use Rattle.mc_typed.specs.Views as plain
use Rattle.mc_probe.specs.BitMaps.{map_of}
use Rattle.mc_probe.specs.Table.{put_argument}
use Rattle.mc_probe.specs.Views as probed
use Rattle.mc_instrument.proofs.Lists.{Left}
use Rattle.mc_instrument.proofs.Puts.{past_argument}
use Rattle.mc_instrument.proofs.copies.expressions.+put.Given as goal

abbrev pub invariant-arguments-loop-tree : goal.invariant-arguments-loop-tree
invariant-arguments-loop-tree l =
    Left (put_argument (map_of l.walk.map.now) l.walk.first) past_argument plain.argument_of probed.argument_of l.copies.items l.next l.trees l.tree-index l.fn.next
