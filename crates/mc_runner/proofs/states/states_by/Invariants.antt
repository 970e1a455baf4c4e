use Rattle.std.proofs.Common.{◌≡◌, map, take}
use Rattle.mc_probe.specs.Trees.{tree_of}
use Rattle.mc_typed.specs.Plans.{plan_of}
use Rattle.mc_runner.specs.Recorded.{told_by}
use Rattle.mc_runner.proofs.states.states_by.Given as goal

abbrev pub invariant-loop-plan : goal.invariant-loop-plan
invariant-loop-plan l = record {
  program : l.machine.program ≡ l.initial.machine.program;
  states : l.states.items ≡ map (λ plan. (told_by (tree_of l.initial.machine.program) plan).state) (map plan_of (take l.plan-index l.plans));
}
