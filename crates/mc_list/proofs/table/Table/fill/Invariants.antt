use Rattle.std.proofs.Common.{◌≡◌, ◌+◌, ◌<◌, ℕ, max, length, get_or}
use Rattle.mc_list.specs.declared.mark.Mark.TheVariants.{Clear}
use Rattle.mc_list.specs.Marks.{rank_of, mark_within}
use Rattle.mc_list.proofs.table.Table.fill.Given as goal

abbrev pub invariant-loop-obligations_left : goal.invariant-loop-obligations_left
invariant-loop-obligations_left l = record {
  from : l.self.from ≡ l.fn.from;
  whole : length l.self.marks ≡ 4096;
  same : length l.obligations_left ≡ length l.verdicts_left;
  each : (k : ℕ) → k < 4096 → max (rank_of (get_or l.self.marks k Clear)) (rank_of (mark_within (l.fn.from + k) (l.fn.from + k + 1) l.obligations_left l.verdicts_left))
      ≡ rank_of (mark_within (l.fn.from + k) (l.fn.from + k + 1) l.fn.obligations l.fn.verdicts);
}

abbrev pub decreases-loop-obligations_left : goal.decreases-loop-obligations_left
decreases-loop-obligations_left l = length l.obligations_left
