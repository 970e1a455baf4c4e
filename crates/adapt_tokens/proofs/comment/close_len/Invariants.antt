use Rattle.std.proofs.Common.{◌≡◌, ◌+◌, length}
use Rattle.mc_lex.specs.steps.Scanner.{close_len, close_from}
use Rattle.adapt_tokens.proofs.comment.close_len.Given as goal

abbrev pub invariant-loop-rest : goal.invariant-loop-rest
invariant-loop-rest l = record {
  same : close_len l.bytes ≡ close_from l.n l.rest;
  count : l.n + length l.rest ≡ length l.bytes;
}

abbrev pub decreases-loop-rest : goal.decreases-loop-rest
decreases-loop-rest l = length l.rest
