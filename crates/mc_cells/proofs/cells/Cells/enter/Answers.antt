use Rattle.std.proofs.Common.{◌≡◌, ◌+◌, ◌-◌, ◌≤◌, ℕ, List, length, subst, ap, ◌∙◌, refl, rules, arith}
use Rattle.mc_cells.specs.Rows.{filled}
use Rattle.mc_cells.specs.declared.cell.Cell.{Cell}
use Rattle.mc_cells.proofs.Lists.{put_back, length_filled, length_more}
use Rattle.mc_cells.proofs.Views.{enter_row}
use Rattle.mc_cells.proofs.cells.Cells.enter.Goals as goal

pub returns-clause-cells : goal.returns-clause-cells
returns-clause-cells c =
    let items : List Cell = c.self.inside.cells.items in
    let used = c.self.inside.used in
    let end = used + c.args.count in
    let more = end - c.self.inside.cells.len in
    let kept : List Cell = c.reach.new.cells.items in
    let n = c.reach.new.cells.len in
    let whole : c.self.inside.cells.len ≡ length items = c.self.inside.cells.ok.0 in
    let inside : used ≤ length items = subst (λ (n : ℕ). used ≤ n) whole c.self.invariant.0 in
    let fit : end ≤ c.self.inside.limit = search rules in
    let long : end ≤ length items + more = omega (arith, whole) in
    let all : n ≡ length kept = c.reach.new.cells.ok.0 in
    let grown = ap (λ (xs : List Cell). length xs) c.reach.ensures.cells ∙ length_more items _ more in
    let enough : end ≤ length kept = omega (arith, long, grown) in
    enter_row items _ used c.self.inside.limit c.args.count more _ c.args.self.now inside fit long c.self.view_is refl
    (put_back kept c.fill.new.cells (filled used c.args.count _ kept) n all
    (c.fill.ensures ∙ ap (filled used c.args.count _) c.deref_mut.ensures.value)
    (length_filled kept used c.args.count _ enough)
    ∙ ap (filled used c.args.count _) c.reach.ensures.cells)
