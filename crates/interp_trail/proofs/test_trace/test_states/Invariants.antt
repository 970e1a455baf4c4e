use Rattle.std.proofs.Common.{◌≡◌, ◌++◌, length, map}
use Rattle.interp_trail.specs.Seen.{trace_of}
use Rattle.interp_trail.proofs.test_trace.test_states.Given as goal

abbrev pub invariant-loop-left : goal.invariant-loop-left
invariant-loop-left l = l.states.items ++ map (λ t. t.state) (map trace_of l.left) ≡ map (λ t. t.state) (map trace_of l.fn.traces)

abbrev pub decreases-loop-left : goal.decreases-loop-left
decreases-loop-left l = length l.left
