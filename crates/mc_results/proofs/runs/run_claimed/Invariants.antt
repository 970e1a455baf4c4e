use Rattle.std.proofs.Common.{◌≡◌, All}
use Rattle.mc_results.specs.Seen.{IsAt, traced_in}
use Rattle.mc_results.proofs.runs.run_claimed.Given as goal

abbrev pub invariant-loop-turn : goal.invariant-loop-turn
invariant-loop-turn g l = record {
  program : l.machine.program ≡ l.task.program.now;
  layout : l.trail.layout ≡ l.task.layout;
  traces : All (IsAt (traced_in l.task)) l.traces.items;
}
