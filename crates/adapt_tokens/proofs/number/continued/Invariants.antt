use Rattle.std.proofs.Common.{◌≡◌, ◌+◌, length}
use Rattle.mc_lex.specs.steps.Scanner.{continued}
use Rattle.adapt_tokens.proofs.number.continued.Given as goal

abbrev pub invariant-loop-left : goal.invariant-loop-left
invariant-loop-left l = record {
  same : continued l.first l.bytes ≡ l.n + continued l.last l.left;
  count : l.n + length l.left ≡ length l.bytes;
}

abbrev pub decreases-loop-left : goal.decreases-loop-left
decreases-loop-left l = length l.left
