use Rattle.std.proofs.Common.{◌≡◌, ◌++◌, length, map}
use Rattle.interp_trail.specs.Seen.{trace_of}
use Rattle.mc_port.specs.Lines.{bytes_of}
use Rattle.mc_typed.specs.Plans.{plan_of}
use Rattle.results_lines.specs.Lines.{test_blocks}
use Rattle.results_lines.specs.Seen.{source_of}
use Rattle.results_lines.proofs.lines.push_blocks.Given as goal

abbrev pub invariant-loop-plans_left : goal.invariant-loop-plans_left
invariant-loop-plans_left l =
    bytes_of l.lines.items ++ test_blocks (source_of l.source) (map plan_of l.plans_left) (map trace_of l.traces_left)
    ≡ bytes_of l.initial.lines.items ++ test_blocks (source_of l.source) (map plan_of l.fn.plans) (map trace_of l.fn.traces)

abbrev pub decreases-loop-plans_left : goal.decreases-loop-plans_left
decreases-loop-plans_left l = length l.plans_left
