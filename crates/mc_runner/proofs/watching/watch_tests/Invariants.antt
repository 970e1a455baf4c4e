use Rattle.std.proofs.Common.{◌≡◌, ◌+◌, [], All, length, map, vec_len}
use Rattle.std.specs.Prelude.{IfOk}
use Rattle.cover_recorder.specs.Crew.{IsGathered}
use Rattle.mc_probe.specs.Trees.{tree_of}
use Rattle.mc_typed.specs.Plans.{plan_of}
use Rattle.mc_runner.specs.Jobs.{AreFilled, HasDone, does_of, told_all}
use Rattle.mc_runner.proofs.watching.watch_tests.Given as goal

abbrev pub invariant-loop-one : goal.invariant-loop-one
invariant-loop-one g l = record {
  gathered : IsGathered (does_of (tree_of l.program) (map plan_of l.plans)) l.cover [] (l.workers + 1) l.pass.view.joined l.pass;
  left : l.pass.view.joined + vec_len l.done ≡ l.workers;
  done : All (λ r. IfOk r (HasDone (tree_of l.program) (map plan_of l.plans) l.cover)) l.done.items;
  whole : vec_len l.results ≡ length l.plans;
  filled : AreFilled (told_all (tree_of l.program) (map plan_of l.plans)) l.pass.view.claims l.results.items;
}

abbrev pub decreases-loop-one : goal.decreases-loop-one
decreases-loop-one g l = vec_len l.done
