use Rattle.std.proofs.Common.{◌≤◌}
use Rattle.std.specs.Prelude.{map}
use Rattle.std.specs.List.{concat, range_with_len}
use Rattle.std.specs.Io.KnownBytes.{Appends}
use Rattle.mc_record.specs.Lines.{bit_line, row_of}
use Rattle.mc_record.proofs.writing.put_bits.Given as goal

abbrev pub invariant-loop-bit : goal.invariant-loop-bit
invariant-loop-bit g l = record {
  put : Appends (g.K.Sink.written l.fn.out) (g.K.Sink.written l.out) (concat (map (λ b. bit_line b (row_of l.fn.matrix b)) (range_with_len 0 l.bit)));
  later : g.K.Sink.faults l.fn.out ≤ g.K.Sink.faults l.out;
}
