use Rattle.std.proofs.Common.{◌≡◌, ◌++◌, ℕ, List, length}
use Rattle.std.specs.Io.KnownBytes.{Appends}
use Rattle.mc_port.proofs.host_sink.write_whole.Given as goal

abbrev pub invariant-loop-left : goal.invariant-loop-left
invariant-loop-left g l = (done : List ℕ) × (done ++ l.left ≡ l.fn.piece) × Appends (g.W.Write.contents l.fn.writer) (g.W.Write.contents l.writer) done

abbrev pub decreases-loop-left : goal.decreases-loop-left
decreases-loop-left g l = length l.left
