use Rattle.std.proofs.Common.{Contains}
use Rattle.mc_cond.specs.Tree.{tree_of}
use Rattle.mc_reduce.specs.steps.Bits.{ShowAt}
use Rattle.mc_reduce.specs.steps.Loss.{AreTrueFrom, NoneOf}
use Rattle.mc_reduce.proofs.loss.first_missed.Given as goal

abbrev pub invariant-loop-at : goal.invariant-loop-at
invariant-loop-at l = NoneOf (AreTrueFrom l.shown l.position) (ShowAt (Contains l.left) l.mode (tree_of l.mapped.decision.tree)) l.at
