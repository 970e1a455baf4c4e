-- What is left tells the same as all.
use Rattle.std.proofs.Common.{◌≡◌, drop, map}
use Rattle.mc_typed.specs.Views.{statement_of, statements_from}
use Rattle.mc_steps.specs.Points.{some_breaks}
use Rattle.instrument_bits.proofs.completes.+breaks.Given as goal

abbrev pub invariant-some_breaks-loop-tree : goal.invariant-some_breaks-loop-tree
invariant-some_breaks-loop-tree l =
    some_breaks (statements_from (map statement_of (drop l.tree-index l.trees))) ≡ some_breaks (statements_from (map statement_of l.trees))
