use Rattle.std.proofs.Common.{◌++◌, refl, ap}
use Rattle.mc_record.specs.Lines.{bits_line, header_line, source_line, tests_line}
use Rattle.mc_core.specs.declared.shape.Shape.{Shape}
use Rattle.mc_record.proofs.Putting.{both_put, one_stopped}
use Rattle.mc_record.proofs.writing.put_head.Goals as goal

pub returns-in-Ok-clause-bytes : goal.returns-in-Ok-clause-bytes
returns-in-Ok-clause-bytes g c =
    let told = g.K.Sink.written in
    let faults = g.K.Sink.faults in
    both_put (told c.args.out.now) (told c.put_source.new.out) (told c.put_shape.new.out) (faults c.args.out.now) (faults c.put_source.new.out) (faults c.put_shape.new.out)
    (header_line ++ source_line c.args.kept.now.digest) (bits_line c.args.kept.now.matrix.shape.bits ++ tests_line c.args.kept.now.matrix.shape.tests) (header_line ++ source_line c.args.kept.now.digest) (bits_line c.shape.result.bits ++ tests_line c.shape.result.tests) c.in-Ok.field-0 c.put_shape.result
    (refl) (ap (λ (s : Shape). bits_line s.bits ++ tests_line s.tests) c.shape.ensures)
    c.in-Ok.ensures.bytes c.put_shape.ensures.bytes c.put_source.ensures.later c.put_shape.ensures.later

pub returns-in-Err-clause-bytes : goal.returns-in-Err-clause-bytes
returns-in-Err-clause-bytes g c =
    one_stopped (g.K.Sink.written c.args.out.now) (g.K.Sink.written c.put_source.new.out) (g.K.Sink.faults c.args.out.now) (g.K.Sink.faults c.put_source.new.out)
    (header_line ++ source_line c.args.kept.now.digest) (bits_line c.args.kept.now.matrix.shape.bits ++ tests_line c.args.kept.now.matrix.shape.tests) (header_line ++ source_line c.args.kept.now.digest) c.in-Err.fault (refl) c.in-Err.ensures.bytes
