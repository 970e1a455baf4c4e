-- What the search has come to, and then what is still to come, is what it comes to in all.
use Rattle.std.proofs.Common.{◌≡◌, drop, map}
use Rattle.mc_typed.specs.Views.{function_of}
use Rattle.decide_rules.specs.Nodes as n
use Rattle.mc_mutate.specs.steps.Search.{inside_parts}
use Rattle.mc_mutate.proofs.search.in_functions.Given as goal

abbrev pub invariant-loop-tree : goal.invariant-loop-tree
invariant-loop-tree l = inside_parts (n.functions (map function_of (drop l.tree-index l.trees))) l.state ≡ inside_parts (n.functions (map function_of l.trees)) l.fn.sought
