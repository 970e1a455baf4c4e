use Rattle.std.proofs.Common.{◌≡◌, length}
use Rattle.mc_lex.specs.Tokens.{toks_of}
use Rattle.reread_pieces.specs.Rows.{after_tokens}
use Rattle.reread_pieces.proofs.rows.after.Given as goal

abbrev pub invariant-loop-left : goal.invariant-loop-left
invariant-loop-left l = after_tokens l.count (toks_of l.tokens) ≡ after_tokens l.more (toks_of l.left)

abbrev pub decreases-loop-left : goal.decreases-loop-left
decreases-loop-left l = length l.left
