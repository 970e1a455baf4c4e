use Rattle.std.proofs.Common.{◌≡◌, length}
use Rattle.reread_pieces.specs.steps.Views.{marks_of}
use Rattle.reread_probes.specs.Probes.{next_start}
use Rattle.reread_probes.proofs.probe.next_start.Given as goal

abbrev pub invariant-loop-left : goal.invariant-loop-left
invariant-loop-left l = next_start (marks_of l.pieces) ≡ next_start (marks_of l.left)

abbrev pub decreases-loop-left : goal.decreases-loop-left
decreases-loop-left l = length l.left
