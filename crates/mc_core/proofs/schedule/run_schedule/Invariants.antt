use Rattle.std.proofs.Common.{◌≡◌, ◌≤◌, drop}
use Rattle.mc_core.specs.Schedule.{core_of, run, start, scripts_of}
use Rattle.mc_core.proofs.Kept.{IsKept}
use Rattle.mc_core.proofs.schedule.run_schedule.Given as goal

abbrev pub invariant-loop-number : goal.invariant-loop-number
invariant-loop-number l = record {
  same : run (scripts_of l.scripts) (core_of l.state) (drop l.number-index l.schedule) ≡ run (scripts_of l.scripts) (start l.fn.shape l.fn.workers) l.schedule;
  few : l.state.draws ≤ l.number-index;
  kept : IsKept (scripts_of l.scripts) l.fn.shape (core_of l.state);
}
