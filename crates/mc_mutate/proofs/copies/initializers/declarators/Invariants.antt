-- What is made, with what is still to come, is the whole, and so is where the search comes to.
use Rattle.std.proofs.Common.{◌≡◌, ◌++◌, drop, map}
use Rattle.mc_typed.specs.Views.{declarator_of}
use Rattle.mc_probe.specs.Views as probed
use Rattle.mc_probe.specs.Bare.{bare_declarator}
use Rattle.decide_rules.specs.Nodes as n
use Rattle.mc_mutate.specs.steps.Search.{inside_parts}
use Rattle.mc_mutate.specs.steps.Changed.{declarators_changed}
use Rattle.mc_mutate.proofs.copies.initializers.declarators.Given as goal

abbrev pub invariant-loop-tree : goal.invariant-loop-tree
invariant-loop-tree l = record {
  tree : map probed.declarator_of l.copies.items ++ map bare_declarator (declarators_changed (map declarator_of (drop l.tree-index l.trees)) l.sought) ≡ map bare_declarator (declarators_changed (map declarator_of l.trees) l.fn.sought);
  sought : inside_parts (n.declarators (map declarator_of (drop l.tree-index l.trees))) l.sought ≡ inside_parts (n.declarators (map declarator_of l.trees)) l.fn.sought;
}
