-- What is copied, with what is still to come, is the whole.
use Rattle.mc_typed.specs.Views as plain
use Rattle.mc_probe.specs.BitMaps.{map_of}
use Rattle.mc_probe.specs.Views as probed
use Rattle.mc_instrument.proofs.Lists.{Left}
use Rattle.mc_instrument.proofs.Puts.{past_declarator, put_declarator}
use Rattle.mc_instrument.proofs.copies.initializers.declarators.Given as goal

abbrev pub invariant-loop-tree : goal.invariant-loop-tree
invariant-loop-tree l =
    Left (put_declarator (map_of l.walk.map.now) l.walk.first) past_declarator plain.declarator_of probed.declarator_of l.copies.items l.next l.trees l.tree-index l.fn.next
