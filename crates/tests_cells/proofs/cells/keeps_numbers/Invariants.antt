use Rattle.std.proofs.Common.{◌≡◌, length}
use Rattle.tests_cells.proofs.cells.keeps_numbers.Given as goal

abbrev pub invariant-loop-number : goal.invariant-loop-number
invariant-loop-number g l = length l.cells.cells ≡ 6

abbrev pub invariant-loop-number-2 : goal.invariant-loop-number-2
invariant-loop-number-2 g l = length l.cells.cells ≡ 6

abbrev pub invariant-loop-number-3 : goal.invariant-loop-number-3
invariant-loop-number-3 g l = length l.cells.cells ≡ 6
