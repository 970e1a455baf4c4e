use Rattle.std.proofs.Common.{◌≡◌, ◌+◌, ◌++◌, length, map}
use Rattle.interp_trail.specs.Seen.{returned_of, trace_of}
use Rattle.mc_port.specs.Lines.{bytes_of}
use Rattle.mc_typed.specs.Plans.{plan_call_of}
use Rattle.results_lines.specs.Lines.{call_lines}
use Rattle.results_lines.specs.Seen.{source_of}
use Rattle.results_lines.proofs.blocks.push_calls.Given as goal

abbrev pub invariant-loop-calls_left : goal.invariant-loop-calls_left
invariant-loop-calls_left l = record {
  text : bytes_of l.lines.items ++ call_lines (source_of l.source) l.number (map plan_call_of l.calls_left) l.begin (map returned_of l.done_left) (trace_of l.trace)
      ≡ bytes_of l.initial.lines.items ++ call_lines (source_of l.source) 1 (map plan_call_of l.fn.calls) 0 (trace_of l.trace).done (trace_of l.trace);
  number : l.number + length l.calls_left ≡ 1 + length l.fn.calls;
}

abbrev pub decreases-loop-calls_left : goal.decreases-loop-calls_left
decreases-loop-calls_left l = length l.calls_left
