use Rattle.std.proofs.Common.{refl}
use Rattle.std.specs.List.{concat}
use Rattle.mc_record.specs.Lines.{bit_lines, test_lines}
use Rattle.mc_record.proofs.Putting.{both_put, one_stopped}
use Rattle.mc_record.proofs.writing.put_results.Goals as goal

pub returns-in-Ok-clause-bytes : goal.returns-in-Ok-clause-bytes
returns-in-Ok-clause-bytes g c =
    let told = g.K.Sink.written in
    let faults = g.K.Sink.faults in
    both_put (told c.args.out.now) (told c.put_tests.new.out) (told c.put_bits.new.out) (faults c.args.out.now) (faults c.put_tests.new.out) (faults c.put_bits.new.out)
    (concat (test_lines c.args.kept.now.names.items c.args.kept.now.states.items)) (concat (bit_lines c.args.kept.now.matrix)) (concat (test_lines c.deref.result.now c.deref-2.result.now)) (concat (bit_lines c.args.kept.now.matrix)) c.in-Ok.field-0 c.put_bits.result
    (cc (c.deref.ensures.value, c.deref-2.ensures.value)) refl
    c.in-Ok.ensures.bytes c.put_bits.ensures.bytes c.put_tests.ensures.later c.put_bits.ensures.later

pub returns-in-Err-clause-bytes : goal.returns-in-Err-clause-bytes
returns-in-Err-clause-bytes g c =
    one_stopped (g.K.Sink.written c.args.out.now) (g.K.Sink.written c.put_tests.new.out) (g.K.Sink.faults c.args.out.now) (g.K.Sink.faults c.put_tests.new.out)
    (concat (test_lines c.args.kept.now.names.items c.args.kept.now.states.items)) (concat (bit_lines c.args.kept.now.matrix)) (concat (test_lines c.deref.result.now c.deref-2.result.now)) c.in-Err.fault (cc (c.deref.ensures.value, c.deref-2.ensures.value)) c.in-Err.ensures.bytes
