-- What is made, with what is still to come, is the whole, and so is where the search comes to.
use Rattle.std.proofs.Common.{◌≡◌, ◌++◌, drop, map}
use Rattle.mc_typed.specs.Views.{effect_of}
use Rattle.mc_probe.specs.Views as probed
use Rattle.mc_probe.specs.Bare.{bare_effect}
use Rattle.decide_rules.specs.Nodes as n
use Rattle.mc_mutate.specs.steps.Search.{inside_parts}
use Rattle.mc_mutate.specs.steps.Changed.{effects_changed}
use Rattle.mc_mutate.proofs.copies.effects.effects.Given as goal

abbrev pub invariant-loop-tree : goal.invariant-loop-tree
invariant-loop-tree l = record {
  tree : map probed.effect_of l.copies.items ++ map bare_effect (effects_changed (map effect_of (drop l.tree-index l.trees)) l.sought) ≡ map bare_effect (effects_changed (map effect_of l.trees) l.fn.sought);
  sought : inside_parts (n.effects (map effect_of (drop l.tree-index l.trees))) l.sought ≡ inside_parts (n.effects (map effect_of l.trees)) l.fn.sought;
}
