-- What the search has come to, and then what is still to come, is what it comes to in all.
use Rattle.std.proofs.Common.{◌≡◌, drop, map}
use Rattle.mc_typed.specs.Views.{argument_of, arguments_from}
use Rattle.decide_rules.specs.Nodes as n
use Rattle.mc_mutate.specs.steps.Search.{inside_parts}
use Rattle.mc_mutate.proofs.search.expressions.+search.Given as goal

abbrev pub invariant-arguments-loop-tree : goal.invariant-arguments-loop-tree
invariant-arguments-loop-tree l = inside_parts (n.arguments (arguments_from (map argument_of (drop l.tree-index l.trees)))) l.state ≡ inside_parts (n.arguments (arguments_from (map argument_of l.trees))) l.fn.sought
