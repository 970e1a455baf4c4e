use Rattle.std.proofs.Common.{◌≡◌, length}
use Rattle.mc_lex.specs.steps.Scanner.{still_first}
use Rattle.adapt_tokens.proofs.byte.still_first.Given as goal

abbrev pub invariant-loop-left : goal.invariant-loop-left
invariant-loop-left l = still_first l.is_first l.bytes ≡ still_first l.first l.left

abbrev pub decreases-loop-left : goal.decreases-loop-left
decreases-loop-left l = length l.left
