use Rattle.std.proofs.Common.{◌≡◌, length}
use Rattle.mc_lex.specs.Tokens.{toks_of}
use Rattle.reread_pieces.specs.Shapes.{number_at}
use Rattle.reread_pieces.proofs.shapes.number_at.Given as goal

abbrev pub invariant-loop-left : goal.invariant-loop-left
invariant-loop-left l = number_at l.at (toks_of l.tokens) ≡ number_at l.count (toks_of l.left)

abbrev pub decreases-loop-left : goal.decreases-loop-left
decreases-loop-left l = length l.left
