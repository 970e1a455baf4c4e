-- The decisions that are left are numbered after those before.
use Rattle.std.proofs.Common.{vec_len}
use Rattle.instrument_bits.proofs.Numbering.{Numbered}
use Rattle.instrument_bits.proofs.mapped.number_decisions.Given as goal

abbrev pub invariant-loop-decision : goal.invariant-loop-decision
invariant-loop-decision l = Numbered l.fn.first l.bits l.mapped.items l.decisions.items l.fn.decisions.items

abbrev pub decreases-loop-decision : goal.decreases-loop-decision
decreases-loop-decision l = vec_len l.decisions
