use Rattle.std.proofs.Common.{◌≡◌, ◌++◌, length}
use Rattle.mc_adapt.specs.Outside.{refusals_of}
use Rattle.adapt_lines.specs.Lines.{refusal_lines}
use Rattle.adapt_lines.proofs.lines.push_lines.Given as goal

abbrev pub invariant-loop-left : goal.invariant-loop-left
invariant-loop-left l =
    l.lines.items ++ refusal_lines l.places.text.now (refusals_of l.left)
    ≡ l.initial.lines.items ++ refusal_lines l.places.text.now (refusals_of l.fn.faults)

abbrev pub decreases-loop-left : goal.decreases-loop-left
decreases-loop-left l = length l.left
