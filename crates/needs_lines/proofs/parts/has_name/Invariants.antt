use Rattle.std.proofs.Common.{◌≡◌, length}
use Rattle.mc_lex.specs.Tokens.{toks_of}
use Rattle.needs_lines.specs.Parts.{has_name}
use Rattle.needs_lines.proofs.parts.has_name.Given as goal

abbrev pub invariant-loop-left : goal.invariant-loop-left
invariant-loop-left l = has_name (toks_of l.left) ≡ has_name (toks_of l.tokens)

abbrev pub decreases-loop-left : goal.decreases-loop-left
decreases-loop-left l = length l.left
