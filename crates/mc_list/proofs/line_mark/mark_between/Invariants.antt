use Rattle.std.proofs.Common.{◌≡◌, max, length}
use Rattle.mc_list.specs.Marks.{rank_of, mark_within}
use Rattle.mc_list.proofs.line_mark.mark_between.Given as goal

abbrev pub invariant-loop-obligations_left : goal.invariant-loop-obligations_left
invariant-loop-obligations_left l = record {
  same : length l.obligations_left ≡ length l.verdicts_left;
  found : max (rank_of l.worst) (rank_of (mark_within l.from l.to l.obligations_left l.verdicts_left)) ≡ rank_of (mark_within l.from l.to l.fn.obligations l.fn.verdicts);
}

abbrev pub decreases-loop-obligations_left : goal.decreases-loop-obligations_left
decreases-loop-obligations_left l = length l.obligations_left
