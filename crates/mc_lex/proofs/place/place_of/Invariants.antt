use Rattle.std.proofs.Common.{◌≡◌, ◌≤◌, ◌+◌}
use Rattle.mc_lex.specs.Lines.{line_of, column_of}
use Rattle.mc_lex.proofs.place.place_of.Given as goal

abbrev pub invariant-loop-byte : goal.invariant-loop-byte
invariant-loop-byte l = record {
  line : l.place.line ≡ line_of l.source l.byte-index;
  column : l.place.column ≡ column_of l.source l.byte-index;
  few_lines : l.place.line ≤ l.byte-index + 1;
  few_columns : l.place.column ≤ l.byte-index + 1;
}
