use Rattle.std.proofs.Common.{◌≡◌, ◌++◌, length, map}
use Rattle.mc_lex.specs.Tokens.{toks_of}
use Rattle.reread_pieces.specs.Plain.{moved_back}
use Rattle.reread_pieces.specs.steps.Views.{laid_of}
use Rattle.reread_pieces.proofs.without.moved_back.Given as goal

abbrev pub invariant-loop-left : goal.invariant-loop-left
invariant-loop-left l =
    moved_back 0 (map laid_of l.laid) ≡ toks_of l.all.items ++ moved_back l.next (map laid_of l.left)

abbrev pub decreases-loop-left : goal.decreases-loop-left
decreases-loop-left l = length l.left
