use Rattle.std.proofs.Common.{◌≡◌, map, take}
use Rattle.mc_typed.specs.Plans.{plan_of}
use Rattle.mc_typed.specs.Views.{program_of}
use Rattle.mc_mutate.specs.Kills.{shown}
use Rattle.mc_mutate.specs.Runs.{kept_of}
use Rattle.mc_mutate.proofs.kills.original.keep_all.Given as goal

abbrev pub invariant-loop-plan : goal.invariant-loop-plan
invariant-loop-plan l = record {
  program : l.machine.program ≡ l.initial.machine.program;
  kept : map kept_of l.kept.items ≡ map (shown (program_of l.program)) (map plan_of (take l.plan-index l.plans));
}
