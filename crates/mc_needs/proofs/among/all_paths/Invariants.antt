use Rattle.mc_needs.specs.steps.Among.{AreAmong, IsAny}
use Rattle.mc_needs.proofs.among.all_paths.Given as goal

abbrev pub invariant-loop-path : goal.invariant-loop-path
invariant-loop-path l = AreAmong IsAny l.path l.paths.items
