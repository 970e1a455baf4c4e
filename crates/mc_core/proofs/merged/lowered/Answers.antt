use Rattle.std.proofs.Common.{◌+◌, ◌∙◌, arith}
use Rattle.std.proofs.lemmas.Nat.Bits.{bit_at_above}
use Rattle.mc_core.proofs.Merging.{lowered_at}
use Rattle.mc_core.proofs.merged.lowered.Goals as goal

pub returns-clause-low : goal.returns-clause-low
returns-clause-low c = λ j. lowered_at c.args.word c.args.shift j

pub returns-clause-high : goal.returns-clause-high
returns-clause-high c = λ j beyond.
    let fits = c.ranges.word in
    lowered_at c.args.word c.args.shift j ∙ bit_at_above c.args.word 64 (j + c.args.shift) (omega arith) beyond
