-- What is found so far, and then what is still to come, is what is found in all.
use Rattle.std.proofs.Common.{◌≡◌, drop, map}
use Rattle.mc_typed.specs.Views.{argument_of, arguments_from}
use Rattle.decide_rules.specs.Nodes as n
use Rattle.decide_walk.specs.steps.Gathering.{gathered_of, inside_parts}
use Rattle.mc_decide.proofs.roots.expressions.+walk.Given as goal

abbrev pub invariant-arguments-loop-tree : goal.invariant-arguments-loop-tree
invariant-arguments-loop-tree l = inside_parts (n.arguments (arguments_from (map argument_of (drop l.tree-index l.trees)))) (gathered_of l.found) ≡ inside_parts (n.arguments (arguments_from (map argument_of l.trees))) (gathered_of l.fn.found)
