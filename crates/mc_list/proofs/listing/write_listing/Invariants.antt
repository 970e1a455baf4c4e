use Rattle.std.proofs.Common.{length}
use Rattle.mc_list.specs.Seen.{lines_left}
use Rattle.mc_list.specs.steps.Ranks.{AreMarks}
use Rattle.mc_list.proofs.Putting.{IsAt}
use Rattle.mc_list.proofs.listing.write_listing.Given as goal

abbrev pub invariant-loop-line : goal.invariant-loop-line
invariant-loop-line g l = record {
  at : IsAt l.fn.source l.fn.obligations l.fn.verdicts (g.K.Sink.written l.fn.out) (g.K.Sink.faults l.fn.out) (g.K.Sink.written l.out) (g.K.Sink.faults l.out) (lines_left l.left);
  marks : AreMarks l.table.from l.fn.obligations l.fn.verdicts l.table.marks;
}

abbrev pub decreases-loop-line : goal.decreases-loop-line
decreases-loop-line g l = length (lines_left l.left)
