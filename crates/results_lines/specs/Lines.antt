-- The lines of tests: each with its calls, in order.
use Rattle.std.specs.Prelude.{ℕ, ◌+◌, List, [], ◌∷◌, ◌++◌, map, take, drop, Option, Some, None}
use Rattle.interp_trail.specs.declared.stop.Stop.{Stop}
use Rattle.interp_trail.specs.Traced.{Traced, plainly_traced, told_of}
use Rattle.mc_probe.specs.Maps.{Map}
use Rattle.mc_steps.specs.Tests.{CallDone}
use Rattle.mc_typed.specs.Plans.{Call, Plan}
use Rattle.mc_typed.specs.Tree.{Program}
use Rattle.results_lines.specs.Calls.{returned_line}
use Rattle.results_lines.specs.Sources.{Source}
use Rattle.results_lines.specs.Stops.{stopped_lines}
use Rattle.results_lines.specs.Tests.{passed_line, run_line, states_of}

-- the call that did not return, where the run stopped in one; its output begins after so many
-- numbers
abbrev pub last_lines : Source → (number : ℕ) → Call → (begin : ℕ) → Traced → Option Stop
    → List (List ℕ)
last_lines s number call begin t None = []
last_lines s number call begin t (Some stop) =
    stopped_lines s number call (drop begin t.output) t.ending stop

-- The calls from one on, by those of them that returned; a call that was not made has no line.
abbrev pub call_lines : Source → (number : ℕ) → List Call → (begin : ℕ) → List CallDone → Traced
    → List (List ℕ)
call_lines s number [] begin done t = []
call_lines s number (c ∷ calls) begin [] t = last_lines s number c begin t t.stop
call_lines s number (c ∷ calls) begin (d ∷ done) t =
    returned_line s number c d.value (drop begin (take d.output_end t.output))
    ∷ call_lines s (number + 1) calls d.output_end done t

-- the line of the test as in a report, and then its calls
abbrev pub test_block : Source → Plan → Traced → List (List ℕ)
test_block s plan t =
    run_line plan.name t.state (told_of t) ∷ call_lines s 1 plan.calls 0 t.done t

abbrev pub test_blocks : Source → List Plan → List Traced → List (List ℕ)
test_blocks s (plan ∷ plans) (t ∷ traces) = test_block s plan t ++ test_blocks s plans traces
test_blocks s _ _ = []

-- all tests, and how many of them passed
abbrev pub lines_of : Source → List Plan → List Traced → List (List ℕ)
lines_of s plans traces = test_blocks s plans traces ++ passed_line (states_of traces) ∷ []

abbrev pub results_lines : (source : List ℕ) → Map → List Plan → List Traced → List (List ℕ)
results_lines source m plans traces =
    lines_of (record { text = source; map = m }) plans traces

-- what is to be written of the plain runs of tests
abbrev pub results_of : (source : List ℕ) → Map → Program → List Plan → List (List ℕ)
results_of source m p plans = results_lines source m plans (map (plainly_traced p) plans)
