use Rattle.std.proofs.Common.{◌≡◌, ◌+◌, ◌++◌, [], length, take, drop}
use Rattle.std.specs.List.{concat}
use Rattle.mc_lex.specs.Tokens.{toks_of}
use Rattle.needs_lines.specs.Remarks.{one_texts}
use Rattle.needs_lines.proofs.remarks.push_one_texts.Given as goal

abbrev pub invariant-loop-left : goal.invariant-loop-left
invariant-loop-left l = record {
  same : l.text.items ++ concat (one_texts (toks_of l.tokens) (take l.k l.spans) (l.k + 1) l.left) ≡ l.fn.text.items ++ concat (one_texts (toks_of l.tokens) [] 1 l.spans);
  later : l.left ≡ drop l.k l.spans;
  count : l.k + length l.left ≡ length l.spans;
}

abbrev pub decreases-loop-left : goal.decreases-loop-left
decreases-loop-left l = length l.left
