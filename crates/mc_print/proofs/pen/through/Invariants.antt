use Rattle.std.proofs.Common.{◌≡◌, ◌+◌, length}
use Rattle.mc_lex.specs.Tokens.{toks_of}
use Rattle.mc_print.specs.Pens as spec
use Rattle.mc_print.proofs.pen.through.Given as goal

abbrev pub invariant-loop-left : goal.invariant-loop-left
invariant-loop-left l = record {
  count : l.count + spec.through (toks_of l.left) ≡ spec.through (toks_of l.tokens);
  within : l.count + length l.left ≡ length l.tokens;
}

abbrev pub decreases-loop-left : goal.decreases-loop-left
decreases-loop-left l = length l.left
