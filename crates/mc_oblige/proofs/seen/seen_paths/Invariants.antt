use Rattle.mc_oblige.specs.steps.Table.{AreSeenBelow}
use Rattle.mc_oblige.proofs.seen.seen_paths.Given as goal

abbrev pub invariant-loop-path : goal.invariant-loop-path
invariant-loop-path l = AreSeenBelow l.tests l.path l.seen.items
