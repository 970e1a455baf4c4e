use Rattle.std.proofs.Common.{◌≡◌, max, length}
use Rattle.mc_list.specs.Marks.{rank_of}
use Rattle.mc_list.specs.steps.Ranks.{worst_rank}
use Rattle.mc_list.proofs.table.worst_of.Given as goal

abbrev pub invariant-loop-left : goal.invariant-loop-left
invariant-loop-left l = max (rank_of l.worst) (worst_rank l.left) ≡ worst_rank l.fn.marks

abbrev pub decreases-loop-left : goal.decreases-loop-left
decreases-loop-left l = length l.left
