-- What is listed, with what is still to come, is the whole.
use Rattle.std.proofs.Common.{◌≡◌, ◌++◌, drop, map}
use Rattle.mc_typed.specs.Views.{statement_of, statements_from}
use Rattle.mc_probe.specs.Obligations.{labels_all}
use Rattle.instrument_bits.proofs.places.+labels.Given as goal

abbrev pub invariant-add_all_labels-loop-tree : goal.invariant-add_all_labels-loop-tree
invariant-add_all_labels-loop-tree l =
    l.list.items ++ labels_all (statements_from (map statement_of (drop l.tree-index l.trees))) ≡ l.fn.list.items ++ labels_all (statements_from (map statement_of l.trees))
