use Rattle.std.proofs.Common.{◌∙◌, ℕ}
use Rattle.interp_trail.specs.declared.test_trace.TestTrace.{TestTrace}
use Rattle.mc_results.specs.Seen.{IsAt, traced_in}
use Rattle.mc_results.proofs.Numbered.{claimed_at, one_more_at}
use Rattle.mc_results.proofs.runs.run_claimed.Goals as goal

pub loop-turn-preserved : goal.loop-turn-preserved
loop-turn-preserved g c =
    let task = c.args.task.now in
    let inv = c.loop-turn.invariant in
    let test : ℕ = c.fetch_add-test.result in
    let trace : TestTrace = c.in_ok-trace.trace in
    let P = IsAt (traced_in task) in
    let is : P (test, trace) =
    claimed_at task test c.index-plans-test.result trace c.loop-turn.trail.layout c.loop-turn.machine.program c.if-test-plans.false c.index-plans-test.is inv.layout inv.program c.in_ok-trace.ensures.told in
    record {
      program = c.run_test.ensures.program ∙ inv.program;
      layout = c.run_test.ensures.layout ∙ inv.layout;
      traces = one_more_at (traced_in task) c.loop-turn.traces.items c.push.new.self.items (test, trace) c.in_ok-push.ensures.items inv.traces is;
    }
