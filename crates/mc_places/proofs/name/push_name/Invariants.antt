use Rattle.std.proofs.Common.{◌≡◌, ◌++◌, length}
use Rattle.mc_places.specs.Names.{decoded}
use Rattle.mc_places.proofs.name.push_name.Given as goal

abbrev pub invariant-loop-left : goal.invariant-loop-left
invariant-loop-left l = l.line.items ++ decoded l.left ≡ l.fn.line.items ++ decoded l.written

abbrev pub decreases-loop-left : goal.decreases-loop-left
decreases-loop-left l = length l.left
