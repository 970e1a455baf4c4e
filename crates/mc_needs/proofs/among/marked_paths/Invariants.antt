use Rattle.mc_needs.specs.steps.Marks.{IsMarked}
use Rattle.mc_needs.specs.steps.Among.{AreAmong}
use Rattle.mc_needs.proofs.among.marked_paths.Given as goal

abbrev pub invariant-loop-path : goal.invariant-loop-path
invariant-loop-path l = AreAmong (IsMarked l.marks l.mapped.base) l.path l.paths.items
