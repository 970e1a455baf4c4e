use Rattle.std.proofs.Common.{◌≡◌, ◌++◌, length, map}
use Rattle.std.specs.Prelude.{flat_map}
use Rattle.interp_trail.specs.Seen.{returned_of}
use Rattle.results_lines.specs.Words.{value_text}
use Rattle.results_lines.proofs.tests.push_values.Given as goal

abbrev pub invariant-loop-left : goal.invariant-loop-left
invariant-loop-left l =
    l.line.items ++ flat_map value_text (map (λ d. d.value) (map returned_of l.left)) ≡ l.initial.line.items ++ flat_map value_text (map (λ d. d.value) (map returned_of l.fn.done))

abbrev pub decreases-loop-left : goal.decreases-loop-left
decreases-loop-left l = length l.left
