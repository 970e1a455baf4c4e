use Rattle.mc_cond.specs.Tree.{tree_of}
use Rattle.mc_oblige.specs.steps.Table.{HasTest, IsLeastBelow}
use Rattle.mc_oblige.proofs.outcomes.least_with.Given as goal

abbrev pub invariant-loop-path : goal.invariant-loop-path
invariant-loop-path l = IsLeastBelow (HasTest (tree_of l.numbering) l.tests l.outcome) l.path l.least
