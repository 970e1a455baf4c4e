use Rattle.std.proofs.Common.{◌≡◌, length}
use Rattle.mc_lex.specs.Tokens.{tok_of}
use Rattle.reread_pieces.specs.Words.{is_one_of, texts}
use Rattle.reread_pieces.proofs.word.is_one_of.Given as goal

abbrev pub invariant-loop-left : goal.invariant-loop-left
invariant-loop-left l = is_one_of (texts l.table) (tok_of l.token) ≡ is_one_of (texts l.left) (tok_of l.token)

abbrev pub decreases-loop-left : goal.decreases-loop-left
decreases-loop-left l = length l.left
