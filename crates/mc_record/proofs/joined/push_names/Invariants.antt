use Rattle.std.proofs.Common.{◌≡◌, ◌++◌, length}
use Rattle.mc_record.proofs.joined.push_names.Given as goal

abbrev pub invariant-loop-left : goal.invariant-loop-left
invariant-loop-left l = l.all.items ++ l.left ≡ l.fn.all.items ++ l.fn.names

abbrev pub decreases-loop-left : goal.decreases-loop-left
decreases-loop-left l = length l.left
