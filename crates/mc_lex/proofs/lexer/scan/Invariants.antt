use Rattle.std.proofs.Common.{◌≡◌, ◌+◌, ◌-◌, length, take, drop, []}
use Rattle.mc_lex.specs.Tokens.{toks_of}
use Rattle.mc_lex.specs.Lines.{is_first_on_line}
use Rattle.mc_lex.specs.steps.Scanner.{scan}
use Rattle.mc_lex.proofs.Lexing.{with_tokens}
use Rattle.mc_lex.proofs.lexer.scan.Given as goal

abbrev pub invariant-loop-turn : goal.invariant-loop-turn
invariant-loop-turn l = record {
  same : scan l.dialect (length l.source + 1) [] l.source ≡ with_tokens (toks_of l.tokens.items) (scan l.dialect (l._turn-end - l._turn) (take l.at l.source) l.rest);
  within : l.at + length l.rest ≡ length l.source;
  rest : l.rest ≡ drop l.at l.source;
  first : l.is_first ≡ is_first_on_line (take l.at l.source);
}
