-- What is copied, with what is still to come, is the whole.
use Rattle.mc_typed.specs.Views as plain
use Rattle.mc_probe.specs.BitMaps.{map_of}
use Rattle.mc_probe.specs.Table.{past, put_statement}
use Rattle.mc_probe.specs.Views as probed
use Rattle.mc_instrument.specs.steps.Counters.{at_of}
use Rattle.mc_instrument.proofs.Lists.{Left}
use Rattle.mc_instrument.proofs.copies.statements.+statement.Given as goal

abbrev pub invariant-statements-loop-tree : goal.invariant-statements-loop-tree
invariant-statements-loop-tree l =
    Left (put_statement (map_of l.walk.map.now) l.walk.first l.register) (past (map_of l.walk.map.now) l.walk.first) plain.statement_of probed.statement_of l.copies.items (at_of (map_of l.walk.map.now) l.walk.first l.at) l.trees l.tree-index (at_of (map_of l.walk.map.now) l.walk.first l.fn.at)
