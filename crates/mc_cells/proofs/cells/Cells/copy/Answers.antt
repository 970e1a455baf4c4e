use Rattle.std.proofs.Common.{◌+◌, ◌≤◌, ℕ, List, length, subst, ap, ◌∙◌}
use Rattle.mc_cells.specs.Rows.{moved}
use Rattle.mc_cells.specs.declared.cell.Cell.{Cell}
use Rattle.mc_cells.proofs.Lists.{put_back, length_moved}
use Rattle.mc_cells.proofs.Views.{copy_row, in_row}
use Rattle.mc_cells.proofs.cells.Cells.copy.Goals as goal

pub returns : goal.returns
returns c =
    let items : List Cell = c.self.inside.cells.items in
    let n = c.self.inside.cells.len in
    let inside : c.self.inside.used ≤ length items = subst (λ (n : ℕ). c.self.inside.used ≤ n) c.self.inside.cells.ok.0 c.self.invariant.0 in
    let source : c.args.from + c.args.count ≤ length items = in_row items c.self.inside.used c.self.inside.limit c.args.self.now (c.args.from + c.args.count) inside c.self.view_is c.requires.source in
    let target : c.args.to + c.args.count ≤ length items = in_row items c.self.inside.used c.self.inside.limit c.args.self.now (c.args.to + c.args.count) inside c.self.view_is c.requires.target in
    copy_row items _ c.self.inside.used c.self.inside.limit c.args.from c.args.to c.args.count c.args.self.now
    inside c.self.view_is c.requires.source c.requires.target
    (put_back items c.copy.new.cells (moved c.args.from c.args.to c.args.count items) n c.self.inside.cells.ok.0
    (c.copy.ensures ∙ ap (moved c.args.from c.args.to c.args.count) c.deref_mut.ensures.value)
    (length_moved items c.args.from c.args.to c.args.count source target))
