use Rattle.std.proofs.Common.{◌≡◌, ◌+◌, List, [], ◌++◌, length, take, drop}
use Rattle.mc_lex.specs.Lines.{is_first_on_line}
use Rattle.adapt_tokens.specs.Cuts.{Part, Cuts}
use Rattle.adapt_tokens.specs.Seen.{parts_of}
use Rattle.adapt_tokens.proofs.pieces.cut.Given as goal

abbrev pub invariant-loop-rest : goal.invariant-loop-rest
invariant-loop-rest l = record {
  whole : (ps : List Part) → Cuts (take l.at l.source) l.rest ps → Cuts [] l.source (parts_of l.pieces.items ++ ps);
  within : l.at + length l.rest ≡ length l.source;
  rest : l.rest ≡ drop l.at l.source;
  first : l.is_first ≡ is_first_on_line (take l.at l.source);
}

abbrev pub decreases-loop-rest : goal.decreases-loop-rest
decreases-loop-rest l = length l.rest
