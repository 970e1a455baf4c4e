-- What is made, with what is still to come, is the whole, and so is where the search comes to.
use Rattle.std.proofs.Common.{◌≡◌, ◌++◌, drop, map}
use Rattle.mc_typed.specs.Views.{function_of}
use Rattle.mc_probe.specs.Views as probed
use Rattle.mc_probe.specs.Bare.{bare_function}
use Rattle.decide_rules.specs.Nodes as n
use Rattle.mc_mutate.specs.steps.Search.{inside_parts}
use Rattle.mc_mutate.specs.steps.Changed.{functions_changed}
use Rattle.mc_mutate.proofs.copies.all_functions.Given as goal

abbrev pub invariant-loop-tree : goal.invariant-loop-tree
invariant-loop-tree l = record {
  tree : map probed.function_of l.copies.items ++ map bare_function (functions_changed (map function_of (drop l.tree-index l.trees)) l.sought) ≡ map bare_function (functions_changed (map function_of l.trees) l.fn.sought);
  sought : inside_parts (n.functions (map function_of (drop l.tree-index l.trees))) l.sought ≡ inside_parts (n.functions (map function_of l.trees)) l.fn.sought;
}
