use Rattle.std.proofs.Common.{◌≡◌, ◌≤◌, replicate, vec_capacity}
use Rattle.mc_results.proofs.workers.hire.Given as goal

abbrev pub invariant-loop-worker : goal.invariant-loop-worker
invariant-loop-worker l = record {
  jobs : l.jobs.items ≡ replicate l._worker l.task;
  room : l.workers ≤ vec_capacity l.jobs;
}
