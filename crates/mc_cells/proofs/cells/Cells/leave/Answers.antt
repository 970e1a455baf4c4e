use Rattle.std.proofs.Common.{subst, ◌≤◌, ℕ}
use Rattle.mc_cells.proofs.Views.{leave_row}
use Rattle.mc_cells.proofs.cells.Cells.leave.Goals as goal

pub returns : goal.returns
returns c =
    leave_row c.self.inside.cells.items c.self.inside.used c.self.inside.limit c.args.base
    c.args.self.now
    (subst (λ (n : ℕ). c.self.inside.used ≤ n) c.self.inside.cells.ok.0 c.self.invariant.0)
    c.self.view_is c.requires
