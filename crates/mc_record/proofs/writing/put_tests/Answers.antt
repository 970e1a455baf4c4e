use Rattle.std.proofs.Common.{◌∙◌, ◌++◌, ℕ, List, append_assoc, arith, ap, get_or, sym}
use Rattle.mc_typed.specs.declared.plans.TestState.TheVariants.{Pass}
use Rattle.mc_record.specs.Lines.{test_line}
use Rattle.mc_record.proofs.Putting.{as_many_left, first_named, first_test, line_put, line_stopped}
use Rattle.mc_record.proofs.writing.put_tests.Goals as goal

pub loop-names_left-preserved : goal.loop-names_left-preserved
loop-names_left-preserved g c =
    let (done, whole, put, later, count, named) = c.loop-names_left.invariant in
    let names = c.loop-names_left.names_left.now in
    let states = c.loop-names_left.states_left.now in
    let name = c.name-item.result in
    let line : List ℕ = test_line name (get_or states 0 Pass) in
    let split = first_test names states name c.in-len1-up.len_at_least c.in-len1-up-states_left.len_at_least c.name-item.is in
    let rest = first_named names name c.in-len1-up.len_at_least c.name-item.is named in (
      done ++ line,
      append_assoc done line _ ∙ ap (λ (l : List ℕ). done ++ l) (sym split) ∙ whole,
      line_put (g.K.Sink.written c.args.out.now) (g.K.Sink.written c.loop-names_left.out) (g.K.Sink.written c.put.new.self) done line c.as_slice.result.now (c.as_slice.ensures.value ∙ c.test_line.ensures) put c.in-Ok.ensures.bytes,
      omega (arith, later, c.put.ensures.later),
      as_many_left names states count,
      rest.1,
    )

pub returns-in-Err-clause-bytes : goal.returns-in-Err-clause-bytes
returns-in-Err-clause-bytes g c =
    let (done, whole, put, later, count, named) = c.loop-names_left.invariant in
    let names = c.loop-names_left.names_left.now in
    let states = c.loop-names_left.states_left.now in
    let name = c.name-item.result in
    let line : List ℕ = test_line name (get_or states 0 Pass) in
    let split = first_test names states name c.in-len1-up.len_at_least c.in-len1-up-states_left.len_at_least c.name-item.is in
    line_stopped (g.K.Sink.written c.args.out.now) (g.K.Sink.written c.loop-names_left.out) (g.K.Sink.written c.put.new.self)
    (g.K.Sink.faults c.args.out.now) (g.K.Sink.faults c.loop-names_left.out) (g.K.Sink.faults c.put.new.self)
    done line c.as_slice.result.now _ _ c.in-Err.fault (c.as_slice.ensures.value ∙ c.test_line.ensures)
    (ap (λ (l : List ℕ). done ++ l) (sym split) ∙ whole) put later c.in-Err.ensures.bytes
