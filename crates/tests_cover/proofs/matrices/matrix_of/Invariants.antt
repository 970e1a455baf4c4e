use Rattle.std.proofs.Common.{◌≡◌}
use Rattle.tests_cover.proofs.matrices.matrix_of.Given as goal

abbrev pub invariant-loop-bit : goal.invariant-loop-bit
invariant-loop-bit g l = l.matrix.shape ≡ l.shape
