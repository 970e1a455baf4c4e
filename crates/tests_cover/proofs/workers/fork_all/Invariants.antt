use Rattle.std.proofs.Common.{◌≡◌, ◌≤◌, vec_len, vec_capacity}
use Rattle.mc_cover.specs.Views.{opener}
use Rattle.tests_cover.specs.Workers.{AllRunning}
use Rattle.tests_cover.proofs.workers.fork_all.Given as goal

abbrev pub invariant-loop-worker : goal.invariant-loop-worker
invariant-loop-worker l = record {
  own : l.pass.cover ≡ l.initial.pass.cover;
  view : l.pass.view ≡ record (opener l.cover.shape) { forks = l._worker };
  count : vec_len l.passes ≡ l._worker;
  room : l.workers ≤ vec_capacity l.passes;
  running : AllRunning l.cover l.passes.items;
}
