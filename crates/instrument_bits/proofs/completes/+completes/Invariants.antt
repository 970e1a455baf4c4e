-- What is left tells the same as all.
use Rattle.std.proofs.Common.{◌≡◌, drop, map}
use Rattle.mc_typed.specs.Views.{statement_of, statements_from}
use Rattle.mc_steps.specs.Points.{all_complete}
use Rattle.instrument_bits.proofs.completes.+completes.Given as goal

abbrev pub invariant-all_complete-loop-tree : goal.invariant-all_complete-loop-tree
invariant-all_complete-loop-tree l =
    all_complete (statements_from (map statement_of (drop l.tree-index l.trees))) ≡ all_complete (statements_from (map statement_of l.trees))
