use Rattle.std.proofs.Common.{◌++◌, ℕ, List, refl, subst}
use Rattle.std.specs.Prelude.{Err}
use Rattle.std.specs.List.{concat}
use Rattle.mc_port.specs.Sink.{Puts}
use Rattle.mc_record.specs.Lines.{bit_lines, bits_line, end_line, header_line, source_line, test_lines, tests_line}
use Rattle.mc_record.specs.Seen.{kept_of}
use Rattle.mc_record.proofs.Putting.{both_put, one_stopped, whole_text}
use Rattle.mc_record.proofs.writing.write_record.Goals as goal

pub returns-in-Ok-clause-bytes : goal.returns-in-Ok-clause-bytes
returns-in-Ok-clause-bytes g c =
    let told = g.K.Sink.written in
    let faults = g.K.Sink.faults in
    let head : List ℕ = (header_line ++ source_line c.args.kept.now.digest) ++ (bits_line c.args.kept.now.matrix.shape.bits ++ tests_line c.args.kept.now.matrix.shape.tests) in
    let body : List ℕ = (concat (test_lines c.args.kept.now.names.items c.args.kept.now.states.items) ++ concat (bit_lines c.args.kept.now.matrix)) ++ end_line in
    subst (λ (l : List ℕ). Puts (told c.args.out.now) (told c.put_body.new.out) (faults c.args.out.now) (faults c.put_body.new.out) l c.put_body.result) (whole_text (kept_of c.args.kept.now))
    (both_put (told c.args.out.now) (told c.put_head.new.out) (told c.put_body.new.out) (faults c.args.out.now) (faults c.put_head.new.out) (faults c.put_body.new.out)
    head body head body c.in-Ok.field-0 c.put_body.result refl refl c.in-Ok.ensures.bytes c.put_body.ensures.bytes c.put_head.ensures.later c.put_body.ensures.later)

pub returns-in-Err-clause-bytes : goal.returns-in-Err-clause-bytes
returns-in-Err-clause-bytes g c =
    let told = g.K.Sink.written in
    let faults = g.K.Sink.faults in
    let head : List ℕ = (header_line ++ source_line c.args.kept.now.digest) ++ (bits_line c.args.kept.now.matrix.shape.bits ++ tests_line c.args.kept.now.matrix.shape.tests) in
    let body : List ℕ = (concat (test_lines c.args.kept.now.names.items c.args.kept.now.states.items) ++ concat (bit_lines c.args.kept.now.matrix)) ++ end_line in
    subst (λ (l : List ℕ). Puts (told c.args.out.now) (told c.put_head.new.out) (faults c.args.out.now) (faults c.put_head.new.out) l (Err c.in-Err.fault)) (whole_text (kept_of c.args.kept.now))
    (one_stopped (told c.args.out.now) (told c.put_head.new.out) (faults c.args.out.now) (faults c.put_head.new.out) head body head c.in-Err.fault refl c.in-Err.ensures.bytes)
