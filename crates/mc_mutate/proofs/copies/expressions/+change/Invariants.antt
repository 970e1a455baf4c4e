-- What is made, with what is still to come, is the whole, and so is where the search comes to.
use Rattle.std.proofs.Common.{◌≡◌, ◌++◌, drop, map}
use Rattle.mc_typed.specs.Views.{argument_of, arguments_from}
use Rattle.mc_probe.specs.Views as probed
use Rattle.decide_rules.specs.Nodes as n
use Rattle.mc_mutate.specs.steps.Search.{inside_parts}
use Rattle.mc_mutate.proofs.Lists.{all_arguments}
use Rattle.mc_mutate.proofs.copies.expressions.+change.Given as goal

abbrev pub invariant-arguments-loop-tree : goal.invariant-arguments-loop-tree
invariant-arguments-loop-tree l = record {
  tree : map probed.argument_of l.copies.items ++ all_arguments (map argument_of (drop l.tree-index l.trees)) l.sought ≡ all_arguments (map argument_of l.trees) l.fn.sought;
  sought : inside_parts (n.arguments (arguments_from (map argument_of (drop l.tree-index l.trees)))) l.sought ≡ inside_parts (n.arguments (arguments_from (map argument_of l.trees))) l.fn.sought;
}
