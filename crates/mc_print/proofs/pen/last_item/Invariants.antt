use Rattle.std.proofs.Common.{◌≡◌, length}
use Rattle.mc_lex.specs.Tokens.{toks_of}
use Rattle.mc_print.specs.Pens as spec
use Rattle.mc_print.proofs.pen.last_item.Given as goal

abbrev pub invariant-loop-left : goal.invariant-loop-left
invariant-loop-left l =
    spec.since (toks_of l.found) (toks_of l.left) ≡ spec.last_item (toks_of l.tokens)

abbrev pub decreases-loop-left : goal.decreases-loop-left
decreases-loop-left l = length l.left
