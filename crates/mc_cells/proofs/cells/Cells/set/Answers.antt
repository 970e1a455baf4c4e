use Rattle.std.proofs.Common.{subst, ◌≤◌, ℕ}
use Rattle.mc_cells.proofs.Views.{set_row}
use Rattle.mc_cells.proofs.cells.Cells.set.Goals as goal

pub returns : goal.returns
returns c =
    set_row c.self.inside.cells.items c.self.inside.used c.self.inside.limit c.args.at
    c.of.result c.args.value c.args.self.now
    (subst (λ (n : ℕ). c.self.inside.used ≤ n) c.self.inside.cells.ok.0 c.self.invariant.0)
    c.self.view_is c.of.ensures c.requires
