use Rattle.std.proofs.Common.{Some, ◌∙◌, ap, subst, ◌≤◌, ℕ}
use Rattle.std.proofs.lemmas.Int.{to_z-of_z}
use mir.Syntax.{w64}
use Rattle.mc_cells.proofs.Views.{set_row}
use Rattle.mc_cells.proofs.cells.Cells.set_signed.Goals as goal

pub returns : goal.returns
returns c =
    set_row c.self.inside.cells.items c.self.inside.used c.self.inside.limit c.args.at
    c.of_signed.result (Some c.args.value) c.args.self.now
    (subst (λ (n : ℕ). c.self.inside.used ≤ n) c.self.inside.cells.ok.0 c.self.invariant.0)
    c.self.view_is (c.of_signed.ensures ∙ ap Some (to_z-of_z w64 c.args.value c.ranges.value)) c.requires
