-- The values so far, with those still to come, are those of all items after those before.
use Rattle.std.proofs.Common.{◌≡◌, ◌++◌, drop, map}
use Rattle.mc_typed.specs.Views.{initializer_of, initializers_from}
use Rattle.types_rules.specs.Initializers.{values_of_items}
use Rattle.types_scopes.proofs.initial.+values.Given as goal

abbrev pub invariant-add_all-loop-tree : goal.invariant-add_all-loop-tree
invariant-add_all-loop-tree l = l.values.items ++ values_of_items (initializers_from (map initializer_of (drop l.tree-index l.trees))) ≡ l.fn.values.items ++ values_of_items (initializers_from (map initializer_of l.trees))
