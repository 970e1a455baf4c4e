use Rattle.std.proofs.Common.{◌≡◌, length}
use Rattle.tests_cells.proofs.cells.six.Given as goal

abbrev pub invariant-loop-k : goal.invariant-loop-k
invariant-loop-k l = length l.cells.cells ≡ 6
