use Rattle.std.proofs.Common.{◌≡◌, ◌++◌, length}
use Rattle.mc_lex.specs.Tokens.{toks_of}
use Rattle.reread_pieces.specs.Words.{texts}
use Rattle.reread_pieces.specs.Pieces.{type_words}
use Rattle.reread_pieces.proofs.here.type_words.Given as goal

abbrev pub invariant-loop-left : goal.invariant-loop-left
invariant-loop-left l = type_words (toks_of l.item) ≡ texts l.words.items ++ type_words (toks_of l.left)

abbrev pub decreases-loop-left : goal.decreases-loop-left
decreases-loop-left l = length l.left
