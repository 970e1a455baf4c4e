use Rattle.std.proofs.Common.{◌≡◌, ◌+◌, ◌++◌, length}
use Rattle.std.specs.List.{concat}
use Rattle.mc_lex.specs.Tokens.{toks_of}
use Rattle.needs_lines.specs.Remarks.{constants}
use Rattle.needs_lines.proofs.remarks.push_constants.Given as goal

abbrev pub invariant-loop-left : goal.invariant-loop-left
invariant-loop-left l = record {
  same : l.text.items ++ concat (constants (toks_of l.tokens) (l.k + 1) l.left) ≡ l.fn.text.items ++ concat (constants (toks_of l.tokens) 1 l.spans);
  count : l.k + length l.left ≡ length l.spans;
}

abbrev pub decreases-loop-left : goal.decreases-loop-left
decreases-loop-left l = length l.left
