use Rattle.mc_cond.specs.Tree.{tree_of}
use Rattle.mc_needs.specs.steps.Among.{AreAmong, IsMember}
use Rattle.mc_needs.proofs.among.with_influence.Given as goal

abbrev pub invariant-loop-path : goal.invariant-loop-path
invariant-loop-path l = AreAmong (IsMember (tree_of l.mapped.decision.tree) l.marks l.mapped.base l.k l.value) l.path l.paths.items
