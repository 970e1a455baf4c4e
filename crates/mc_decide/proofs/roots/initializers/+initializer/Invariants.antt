-- What is found so far, and then what is still to come, is what is found in all.
use Rattle.std.proofs.Common.{◌≡◌, drop, map}
use Rattle.mc_typed.specs.Views.{initializer_of, initializers_from}
use Rattle.decide_rules.specs.Nodes as n
use Rattle.decide_walk.specs.steps.Gathering.{gathered_of, inside_parts}
use Rattle.mc_decide.proofs.roots.initializers.+initializer.Given as goal

abbrev pub invariant-initializers-loop-tree : goal.invariant-initializers-loop-tree
invariant-initializers-loop-tree l = inside_parts (n.initializers (initializers_from (map initializer_of (drop l.tree-index l.trees)))) (gathered_of l.found) ≡ inside_parts (n.initializers (initializers_from (map initializer_of l.trees))) (gathered_of l.fn.found)
