use Rattle.std.proofs.Common.{◌≡◌, ◌+◌, length}
use Rattle.mc_lex.specs.Tokens.{toks_of}
use Rattle.needs_lines.specs.Parts.{tokens_in}
use Rattle.needs_lines.specs.Remarks.{first_same}
use Rattle.needs_lines.proofs.remarks.first_same.Given as goal

abbrev pub invariant-loop-left : goal.invariant-loop-left
invariant-loop-left l = record {
  same : first_same (toks_of l.tokens) l.k l.left l.fn.span ≡ first_same (toks_of l.tokens) 1 l.earlier l.fn.span;
  own : toks_of l.own ≡ tokens_in (toks_of l.tokens) l.fn.span;
  count : l.k + length l.left ≡ 1 + length l.earlier;
}

abbrev pub decreases-loop-left : goal.decreases-loop-left
decreases-loop-left l = length l.left
