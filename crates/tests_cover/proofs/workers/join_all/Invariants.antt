use Rattle.std.proofs.Common.{◌≡◌, ◌+◌, vec_len}
use Rattle.mc_cover.specs.declared.view.Role.TheVariants.{Opener}
use Rattle.tests_cover.specs.Workers.{AllDone}
use Rattle.tests_cover.proofs.workers.join_all.Given as goal

abbrev pub invariant-loop-other : goal.invariant-loop-other
invariant-loop-other l = record {
  own : l.pass.cover ≡ l.initial.pass.cover;
  opener : l.pass.view.role ≡ Opener;
  left : l.pass.view.joined + vec_len l.passes ≡ l.pass.view.forks;
  done : AllDone l.cover l.passes.items;
}

abbrev pub decreases-loop-other : goal.decreases-loop-other
decreases-loop-other l = vec_len l.passes
