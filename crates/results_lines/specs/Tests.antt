-- The line of a test, as in a report, and how many tests passed.
use Rattle.std.specs.Prelude.{List, map}
use Rattle.mc_typed.specs.declared.plans.TestState.{TestState}
use Rattle.interp_trail.specs.Traced.{Traced}
pub use Rattle.told_lines.specs.Passes.{passed, passed_line}
pub use Rattle.told_lines.specs.Tests.{result_text, run_line}

abbrev pub states_of : List Traced → List TestState
states_of traces = map (λ t. t.state) traces
