use Rattle.std.proofs.Common.{◌≡◌, length}
use Rattle.mc_lex.specs.Tokens.{toks_of}
use Rattle.needs_lines.specs.Parts.{are_same}
use Rattle.needs_lines.proofs.parts.are_same.Given as goal

abbrev pub invariant-loop-ones : goal.invariant-loop-ones
invariant-loop-ones l = are_same (toks_of l.ones) (toks_of l.others) ≡ are_same (toks_of l.one) (toks_of l.other)

abbrev pub decreases-loop-ones : goal.decreases-loop-ones
decreases-loop-ones l = length l.ones
