-- What is found so far, and then what is still to come, is what is found in all.
use Rattle.std.proofs.Common.{◌≡◌, drop, map}
use Rattle.mc_typed.specs.Views.{effect_of}
use Rattle.decide_rules.specs.Nodes as n
use Rattle.decide_walk.specs.steps.Gathering.{gathered_of, inside_parts}
use Rattle.mc_decide.proofs.roots.effects.effects.Given as goal

abbrev pub invariant-loop-tree : goal.invariant-loop-tree
invariant-loop-tree l = inside_parts (n.effects (map effect_of (drop l.tree-index l.trees))) (gathered_of l.found) ≡ inside_parts (n.effects (map effect_of l.trees)) (gathered_of l.fn.found)
