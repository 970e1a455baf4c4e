use Rattle.mc_cond.specs.Tree.{tree_of}
use Rattle.mc_oblige.specs.steps.Found.{AreFoundBelow}
use Rattle.mc_oblige.proofs.conditions.condition_evidence.Given as goal

abbrev pub invariant-loop-k : goal.invariant-loop-k
invariant-loop-k l = AreFoundBelow l.mode (tree_of l.mapped.decision.tree) l.tests l.k l.found.items
