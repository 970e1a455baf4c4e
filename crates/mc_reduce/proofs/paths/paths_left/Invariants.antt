use Rattle.mc_reduce.specs.steps.Loss.{IsLeft, along, ArePathsOn}
use Rattle.mc_reduce.proofs.paths.paths_left.Given as goal

abbrev pub invariant-loop-path : goal.invariant-loop-path
invariant-loop-path l = ArePathsOn (along (IsLeft l.test l.counts l.words) l.base) l.path l.seen.items
