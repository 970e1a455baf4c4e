use Rattle.std.proofs.Common.{◌+◌, ap, ◌∙◌, set, arith}
use Rattle.mc_cells.proofs.Lists.{filled_more}
use Rattle.mc_cells.specs.declared.cell.Cell.{Cell}
use Rattle.std.proofs.Common.{List}
use Rattle.mc_cells.proofs.cells.fill.Goals as goal

pub loop-done-preserved : goal.loop-done-preserved
loop-done-preserved c =
    ap (λ (xs : List Cell). set xs (c.args.at + c.loop-done.done) c.args.cell) c.loop-done.invariant
    ∙ filled_more c.args.cells.now c.args.at c.loop-done.done c.args.cell (omega (arith, c.requires))
