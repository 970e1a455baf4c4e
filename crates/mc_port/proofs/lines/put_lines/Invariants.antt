use Rattle.std.proofs.Common.{◌≡◌, ◌≤◌, ◌++◌, ℕ, List, length}
use Rattle.std.specs.List.{concat}
use Rattle.std.specs.Io.KnownBytes.{Appends}
use Rattle.mc_port.specs.Lines.{bytes_of}
use Rattle.mc_port.proofs.lines.put_lines.Given as goal

abbrev pub invariant-loop-left : goal.invariant-loop-left
invariant-loop-left g l = (done : List ℕ) × (done ++ concat (bytes_of l.left) ≡ concat (bytes_of l.fn.lines))
    × Appends (g.K.Sink.written l.fn.out) (g.K.Sink.written l.out) done × (g.K.Sink.faults l.fn.out ≤ g.K.Sink.faults l.out)

abbrev pub decreases-loop-left : goal.decreases-loop-left
decreases-loop-left g l = length l.left
