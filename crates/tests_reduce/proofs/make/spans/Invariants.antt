use Rattle.std.proofs.Common.{◌≡◌, length}
use Rattle.tests_reduce.proofs.make.spans.Given as goal

abbrev pub invariant-loop-at : goal.invariant-loop-at
invariant-loop-at l = length l.all.items ≡ l.at
