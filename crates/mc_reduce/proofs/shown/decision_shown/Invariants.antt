use Rattle.mc_cond.specs.Tree.{tree_of}
use Rattle.mc_reduce.specs.steps.Bits.{ShowAt}
use Rattle.mc_reduce.specs.steps.Loss.{IsCounted, along, AreKnown}
use Rattle.mc_reduce.proofs.shown.decision_shown.Given as goal

abbrev pub invariant-loop-at : goal.invariant-loop-at
invariant-loop-at l = AreKnown (ShowAt (along (IsCounted l.counts) l.mapped.base) l.mode (tree_of l.mapped.decision.tree)) l.at l.shown.items
