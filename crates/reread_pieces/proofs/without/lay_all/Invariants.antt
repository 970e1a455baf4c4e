use Rattle.std.proofs.Common.{◌≡◌, ◌++◌, length, map}
use Rattle.reread_pieces.specs.Plain.{laid}
use Rattle.reread_pieces.specs.steps.Views.{laid_of, marks_of}
use Rattle.reread_pieces.proofs.without.lay_all.Given as goal

abbrev pub invariant-loop-left : goal.invariant-loop-left
invariant-loop-left l = laid 0 (marks_of l.pieces) ≡ map laid_of l.all.items ++ laid l.end (marks_of l.left)

abbrev pub decreases-loop-left : goal.decreases-loop-left
decreases-loop-left l = length l.left
