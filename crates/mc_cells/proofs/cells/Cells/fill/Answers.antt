use Rattle.std.proofs.Common.{◌+◌, ◌≤◌, ℕ, List, length, subst, ap, ◌∙◌}
use Rattle.mc_cells.specs.Rows.{filled}
use Rattle.mc_cells.specs.declared.cell.Cell.{Cell}
use Rattle.mc_cells.proofs.Lists.{put_back, length_filled}
use Rattle.mc_cells.proofs.Views.{fill_row, in_row}
use Rattle.mc_cells.proofs.cells.Cells.fill.Goals as goal

pub returns : goal.returns
returns c =
    let items : List Cell = c.self.inside.cells.items in
    let n = c.self.inside.cells.len in
    let inside : c.self.inside.used ≤ length items = subst (λ (n : ℕ). c.self.inside.used ≤ n) c.self.inside.cells.ok.0 c.self.invariant.0 in
    let fit : c.args.at + c.args.count ≤ length items = in_row items c.self.inside.used c.self.inside.limit c.args.self.now (c.args.at + c.args.count) inside c.self.view_is c.requires in
    fill_row items _ c.self.inside.used c.self.inside.limit c.args.at c.args.count c.of.result c.args.value c.args.self.now
    inside c.self.view_is c.of.ensures c.requires
    (put_back items c.fill.new.cells (filled c.args.at c.args.count c.of.result items) n c.self.inside.cells.ok.0
    (c.fill.ensures ∙ ap (filled c.args.at c.args.count c.of.result) c.deref_mut.ensures.value)
    (length_filled items c.args.at c.args.count c.of.result fit))
