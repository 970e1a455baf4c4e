-- What the search has come to, and then what is still to come, is what it comes to in all.
use Rattle.std.proofs.Common.{◌≡◌, drop, map}
use Rattle.mc_typed.specs.Views.{initializer_of, initializers_from}
use Rattle.decide_rules.specs.Nodes as n
use Rattle.mc_mutate.specs.steps.Search.{inside_parts}
use Rattle.mc_mutate.proofs.search.initializers.+initializer.Given as goal

abbrev pub invariant-initializers-loop-tree : goal.invariant-initializers-loop-tree
invariant-initializers-loop-tree l = inside_parts (n.initializers (initializers_from (map initializer_of (drop l.tree-index l.trees)))) l.state ≡ inside_parts (n.initializers (initializers_from (map initializer_of l.trees))) l.fn.sought
