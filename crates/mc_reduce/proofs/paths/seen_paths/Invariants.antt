use Rattle.mc_reduce.specs.steps.Loss.{IsCounted, along, ArePathsOn}
use Rattle.mc_reduce.proofs.paths.seen_paths.Given as goal

abbrev pub invariant-loop-path : goal.invariant-loop-path
invariant-loop-path l = ArePathsOn (along (IsCounted l.counts) l.base) l.path l.seen.items
