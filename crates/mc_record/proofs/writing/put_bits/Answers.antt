use Rattle.std.proofs.Common.{◌∙◌, ◌+◌, ◌-◌, ◌<◌, ℕ, arith, ap, sym, subst}
use Rattle.std.specs.Prelude.{map}
use Rattle.std.specs.List.{concat, range_with_len}
use Rattle.std.specs.Io.KnownBytes.{Appends}
use Rattle.mc_core.specs.declared.shape.Shape.{Shape}
use Rattle.mc_record.specs.Lines.{bit_line, row_of}
use Rattle.mc_record.proofs.Putting.{line_put, line_stopped, lines_more, lines_whole, row_is}
use Rattle.mc_record.proofs.writing.put_bits.Goals as goal

pub loop-bit-preserved : goal.loop-bit-preserved
loop-bit-preserved g c =
    let m = c.args.matrix.now in
    let b = c.loop-bit.bit in
    let line = λ (n : ℕ). bit_line n (row_of m n) in
    let row = row_is m c.shape-shape.result b c.place-first.result c.rows-rows.result c.as_words-words.result.now c.shape-shape.ensures c.place-first.ensures c.rows-rows.ensures.value c.as_words-words.ensures.words in
    let told = g.K.Sink.written in
    record {
      put = subst (Appends (told c.args.out.now) (told c.put.new.self)) (sym (lines_more line b))
          (line_put (told c.args.out.now) (told c.loop-bit.out) (told c.put.new.self) (concat (map line (range_with_len 0 b))) (line b) c.as_slice.result.now (c.as_slice.ensures.value ∙ c.bit_line.ensures ∙ row) c.loop-bit.invariant.put c.in-Ok.ensures.bytes);
      later = omega (arith, c.loop-bit.invariant.later, c.put.ensures.later);
    }

pub returns-in-Err-clause-bytes : goal.returns-in-Err-clause-bytes
returns-in-Err-clause-bytes g c =
    let m = c.args.matrix.now in
    let b = c.loop-bit.bit in
    let line = λ (n : ℕ). bit_line n (row_of m n) in
    let row = row_is m c.shape-shape.result b c.place-first.result c.rows-rows.result c.as_words-words.result.now c.shape-shape.ensures c.place-first.ensures c.rows-rows.ensures.value c.as_words-words.ensures.words in
    let less : b < m.shape.bits = omega (arith, c.loop-bit-test.true, ap (λ (s : Shape). s.bits) c.shape-shape.ensures) in
    let told = g.K.Sink.written in
    let faults = g.K.Sink.faults in
    line_stopped (told c.args.out.now) (told c.loop-bit.out) (told c.put.new.self) (faults c.args.out.now) (faults c.loop-bit.out) (faults c.put.new.self)
    (concat (map line (range_with_len 0 b))) (line b) c.as_slice.result.now (concat (map line (range_with_len (b + 1) (m.shape.bits - (b + 1))))) (concat (map line (range_with_len 0 m.shape.bits)))
    c.in-Err.fault (c.as_slice.ensures.value ∙ c.bit_line.ensures ∙ row) (lines_whole line m.shape.bits b less) c.loop-bit.invariant.put c.loop-bit.invariant.later c.in-Err.ensures.bytes
