use Rattle.std.proofs.Common.{◌≡◌, length}
use Rattle.mc_lex.specs.Tokens.{toks_of}
use Rattle.reread_pieces.specs.Words.{texts}
use Rattle.reread_pieces.specs.Shapes.{begins}
use Rattle.reread_pieces.proofs.shapes.begins.Given as goal

abbrev pub invariant-loop-slots : goal.invariant-loop-slots
invariant-loop-slots l = begins (texts l.shape) (toks_of l.tokens) ≡ begins (texts l.slots) (toks_of l.left)

abbrev pub decreases-loop-slots : goal.decreases-loop-slots
decreases-loop-slots l = length l.slots
