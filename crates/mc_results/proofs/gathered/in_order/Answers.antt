use Rattle.std.proofs.Common.{◌∙◌, ◌<◌, ap, arith, length, map}
use Rattle.std.proofs.lemmas.List.{take_all}
use Rattle.interp_trail.specs.Seen.{trace_of}
use Rattle.mc_results.specs.Seen.{traced_in}
use Rattle.mc_results.proofs.Numbered.{length_in, one_more}
use Rattle.mc_results.proofs.Right.{right_length}
use Rattle.mc_results.proofs.gathered.in_order.Goals as goal

pub taken-slot-requires : goal.taken-slot-requires
taken-slot-requires c =
    let slots = right_length (traced_in c.args.task.now) c.loop-test.left.items c.loop-test.invariant.right in
    let long = length_in c.args.task.now in
    omega arith

pub trace_in-requires-clause-right : goal.trace_in-requires-clause-right
trace_in-requires-clause-right c = λ t. c.taken-slot.ensures.taken (traced_in c.args.task.now) t c.loop-test.invariant.right

pub loop-test-preserved : goal.loop-test-preserved
loop-test-preserved c =
    let all = traced_in c.args.task.now in
    let long = length_in c.args.task.now in
    let less : c.loop-test.test < length all = omega arith in
    record {
      right = c.taken-slot.ensures.right all c.loop-test.invariant.right;
      traces = ap (map trace_of) c.in_ok-push.ensures.items
          ∙ one_more all c.loop-test.traces.items c.loop-test.test c.in_ok-trace_in.field-0 less c.loop-test.invariant.traces c.in_ok-trace_in.ensures;
    }

pub returns : goal.returns
returns c =
    let all = traced_in c.args.task.now in
    let long = length_in c.args.task.now in
    c.loop-test.invariant.traces ∙ take_all c.loop-test.test all (omega arith)
