-- The run of a test.
use Rattle.std.specs.Prelude.{ℕ, ℤ, [], map, flat_map, slice_get, Option, Some, None, option_map}
use Rattle.mc_limits.specs.Limits.{most_levels}
use Rattle.mc_typed.specs.Sound.{result_at}
use Rattle.mc_typed.specs.Plans.{Call, Plan}
use Rattle.mc_steps.specs.Runs.{◌>>=◌}
use Rattle.mc_steps.specs.Calls.{PassedNumber}
use Rattle.mc_steps.specs.Tests.{TestRun, value_given, calls_do}
use Rattle.mc_probe.specs.Tree.{Program, Tree}
use Rattle.mc_probe.specs.Erase.{erase_function}
use Rattle.mc_probe.specs.Flat.{Flat, Does}
use Rattle.mc_probe.specs.Calls.{calls}

-- the static objects with their initial values (C17 6.7.9p10), and no activation
abbrev pub first_memory : Program → Flat
first_memory program = record {
  cells = map Some (flat_map (λ o. o.initial) program.statics);
  registers = [];
}

abbrev pub test_call : Tree → Call → Does (Option ℤ)
test_call tree c = do
  v ← calls tree most_levels 0 c.function None (map PassedNumber c.arguments)
  value_given (result_at (option_map erase_function
      (slice_get tree.program.functions c.function))) v

-- the calls in their order on one row; what is listed are the bits that were hit, in order
abbrev pub run_of : Tree → Plan → TestRun Flat ℕ
run_of tree plan = calls_do (map (test_call tree) plan.calls) (record {
  memory = first_memory tree.program;
  fuel = plan.fuel;
  inputs = plan.inputs;
  output = [];
})
