use Rattle.std.proofs.Common.{◌≡◌, ◌++◌, length}
use Rattle.reread_pieces.specs.steps.Views.{marks_of}
use Rattle.reread_probes.specs.Probes.{probes, probes_from}
use Rattle.reread_probes.proofs.probe.probes.Given as goal

abbrev pub invariant-loop-left : goal.invariant-loop-left
invariant-loop-left l = probes (marks_of l.pieces) ≡ l.found.items ++ probes_from l.last (marks_of l.left)

abbrev pub decreases-loop-left : goal.decreases-loop-left
decreases-loop-left l = length l.left
