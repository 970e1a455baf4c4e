use Rattle.std.proofs.Common.{◌≡◌}
use Rattle.mc_cells.specs.Rows.{filled}
use Rattle.mc_cells.proofs.cells.fill.Given as goal

abbrev pub invariant-loop-done : goal.invariant-loop-done
invariant-loop-done l = l.cells ≡ filled l.at l.done l.cell l.fn.cells
