use Rattle.std.proofs.Common.{◌++◌, refl}
use Rattle.std.specs.List.{concat}
use Rattle.mc_record.specs.Lines.{bit_lines, end_line, test_lines}
use Rattle.mc_record.proofs.Putting.{both_put, one_stopped}
use Rattle.mc_record.proofs.writing.put_body.Goals as goal

pub returns-in-Ok-clause-bytes : goal.returns-in-Ok-clause-bytes
returns-in-Ok-clause-bytes g c =
    let told = g.K.Sink.written in
    let faults = g.K.Sink.faults in
    both_put (told c.args.out.now) (told c.put_results.new.out) (told c.put.new.self) (faults c.args.out.now) (faults c.put_results.new.out) (faults c.put.new.self)
    (concat (test_lines c.args.kept.now.names.items c.args.kept.now.states.items) ++ concat (bit_lines c.args.kept.now.matrix)) (end_line) (concat (test_lines c.args.kept.now.names.items c.args.kept.now.states.items) ++ concat (bit_lines c.args.kept.now.matrix)) (end_line) c.in-Ok.field-0 c.put.result
    (refl) (refl)
    c.in-Ok.ensures.bytes c.put.ensures.bytes c.put_results.ensures.later c.put.ensures.later

pub returns-in-Err-clause-bytes : goal.returns-in-Err-clause-bytes
returns-in-Err-clause-bytes g c =
    one_stopped (g.K.Sink.written c.args.out.now) (g.K.Sink.written c.put_results.new.out) (g.K.Sink.faults c.args.out.now) (g.K.Sink.faults c.put_results.new.out)
    (concat (test_lines c.args.kept.now.names.items c.args.kept.now.states.items) ++ concat (bit_lines c.args.kept.now.matrix)) (end_line) (concat (test_lines c.args.kept.now.names.items c.args.kept.now.states.items) ++ concat (bit_lines c.args.kept.now.matrix)) c.in-Err.fault (refl) c.in-Err.ensures.bytes
