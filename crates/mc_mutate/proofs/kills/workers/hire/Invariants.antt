use Rattle.std.proofs.Common.{◌≡◌, ◌≤◌, All, vec_len, vec_capacity}
use Rattle.mc_cover.specs.Views.{opener}
use Rattle.mc_mutate.specs.Runs.{IsHired}
use Rattle.mc_mutate.proofs.kills.workers.hire.Given as goal

abbrev pub invariant-loop-worker : goal.invariant-loop-worker
invariant-loop-worker l = record {
  own : l.pass.cover ≡ l.initial.pass.cover;
  view : l.pass.view ≡ record (opener l.cover.shape) { forks = l._worker };
  count : vec_len l.jobs ≡ l._worker;
  room : l.workers ≤ vec_capacity l.jobs;
  hired : All (IsHired l.cover l.task) l.jobs.items;
}
