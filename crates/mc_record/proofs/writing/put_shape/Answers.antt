use Rattle.std.proofs.Common.{◌∙◌}
use Rattle.mc_record.specs.Lines.{bits_line, tests_line}
use Rattle.mc_record.proofs.Putting.{both_put, one_stopped}
use Rattle.mc_record.proofs.writing.put_shape.Goals as goal

pub returns-in-Ok-clause-bytes : goal.returns-in-Ok-clause-bytes
returns-in-Ok-clause-bytes g c =
    let told = g.K.Sink.written in
    let faults = g.K.Sink.faults in
    both_put (told c.args.out.now) (told c.put.new.self) (told c.put-in-Ok.new.self) (faults c.args.out.now) (faults c.put.new.self) (faults c.put-in-Ok.new.self)
    (bits_line c.args.shape.bits) (tests_line c.args.shape.tests) (c.as_slice.result.now) (c.as_slice-in-Ok.result.now) c.in-Ok.field-0 c.put-in-Ok.result
    (c.as_slice.ensures.value ∙ c.bits_line.ensures) (c.as_slice-in-Ok.ensures.value ∙ c.tests_line.ensures)
    c.in-Ok.ensures.bytes c.put-in-Ok.ensures.bytes c.put.ensures.later c.put-in-Ok.ensures.later

pub returns-in-Err-clause-bytes : goal.returns-in-Err-clause-bytes
returns-in-Err-clause-bytes g c =
    one_stopped (g.K.Sink.written c.args.out.now) (g.K.Sink.written c.put.new.self) (g.K.Sink.faults c.args.out.now) (g.K.Sink.faults c.put.new.self)
    (bits_line c.args.shape.bits) (tests_line c.args.shape.tests) (c.as_slice.result.now) c.in-Err.fault (c.as_slice.ensures.value ∙ c.bits_line.ensures) c.in-Err.ensures.bytes
