-- What is made, with what is still to come, is the whole, and so is where the search comes to.
use Rattle.std.proofs.Common.{◌≡◌, ◌++◌, drop, map}
use Rattle.mc_typed.specs.Views.{initializer_of, initializers_from}
use Rattle.mc_probe.specs.Views as probed
use Rattle.decide_rules.specs.Nodes as n
use Rattle.mc_mutate.specs.steps.Search.{inside_parts}
use Rattle.mc_mutate.proofs.Lists.{all_initializers}
use Rattle.mc_mutate.proofs.copies.initializers.+change.Given as goal

abbrev pub invariant-initializers-loop-tree : goal.invariant-initializers-loop-tree
invariant-initializers-loop-tree l = record {
  tree : map probed.initializer_of l.copies.items ++ all_initializers (map initializer_of (drop l.tree-index l.trees)) l.sought ≡ all_initializers (map initializer_of l.trees) l.fn.sought;
  sought : inside_parts (n.initializers (initializers_from (map initializer_of (drop l.tree-index l.trees)))) l.sought ≡ inside_parts (n.initializers (initializers_from (map initializer_of l.trees))) l.fn.sought;
}
