use Rattle.std.proofs.Common.{◌∙◌, refl}
use Rattle.mc_record.specs.Lines.{header_line, source_line}
use Rattle.mc_record.proofs.Putting.{both_put, one_stopped}
use Rattle.mc_record.proofs.writing.put_source.Goals as goal

pub returns-in-Ok-clause-bytes : goal.returns-in-Ok-clause-bytes
returns-in-Ok-clause-bytes g c =
    let told = g.K.Sink.written in
    let faults = g.K.Sink.faults in
    both_put (told c.args.out.now) (told c.put.new.self) (told c.put-in-Ok.new.self) (faults c.args.out.now) (faults c.put.new.self) (faults c.put-in-Ok.new.self)
    (header_line) (source_line c.args.digest.now) (header_line) (c.as_slice.result.now) c.in-Ok.field-0 c.put-in-Ok.result
    (refl) (c.as_slice.ensures.value ∙ c.source_line.ensures)
    c.in-Ok.ensures.bytes c.put-in-Ok.ensures.bytes c.put.ensures.later c.put-in-Ok.ensures.later

pub returns-in-Err-clause-bytes : goal.returns-in-Err-clause-bytes
returns-in-Err-clause-bytes g c =
    one_stopped (g.K.Sink.written c.args.out.now) (g.K.Sink.written c.put.new.self) (g.K.Sink.faults c.args.out.now) (g.K.Sink.faults c.put.new.self)
    (header_line) (source_line c.args.digest.now) (header_line) c.in-Err.fault (refl) c.in-Err.ensures.bytes
