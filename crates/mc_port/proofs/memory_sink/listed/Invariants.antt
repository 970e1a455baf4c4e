use Rattle.std.proofs.Common.{◌≡◌, length}
use Rattle.mc_port.specs.MemorySink.{listed_at}
use Rattle.mc_port.proofs.memory_sink.listed.Given as goal

abbrev pub invariant-loop-left : goal.invariant-loop-left
invariant-loop-left l = listed_at l.left l.number ≡ listed_at l.fn.failing l.number

abbrev pub decreases-loop-left : goal.decreases-loop-left
decreases-loop-left l = length l.left
