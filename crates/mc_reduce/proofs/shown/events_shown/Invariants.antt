use Rattle.mc_reduce.specs.steps.Loss.{IsCounted, AreKnown}
use Rattle.mc_reduce.proofs.shown.events_shown.Given as goal

abbrev pub invariant-loop-bit : goal.invariant-loop-bit
invariant-loop-bit l = AreKnown (IsCounted l.counts) l.bit l.shown.items
