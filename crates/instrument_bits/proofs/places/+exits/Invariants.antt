-- What is listed, with what is still to come, is the whole.
use Rattle.std.proofs.Common.{◌≡◌, ◌++◌, drop, map}
use Rattle.mc_typed.specs.Views.{statement_of, statements_from}
use Rattle.mc_probe.specs.Obligations.{returns_all}
use Rattle.instrument_bits.proofs.places.+exits.Given as goal

abbrev pub invariant-add_exits-loop-tree : goal.invariant-add_exits-loop-tree
invariant-add_exits-loop-tree l =
    l.list.items ++ returns_all (statements_from (map statement_of (drop l.tree-index l.trees))) ≡ l.fn.list.items ++ returns_all (statements_from (map statement_of l.trees))
