use Rattle.std.proofs.Common.{◌+◌, ◌||◌, Some, drop, sym, ap, ◌∙◌}
use Rattle.interp_words.specs.Words.{number_of}
use Rattle.mc_interp.proofs.Lists.{has, case_end, case_step}
use Rattle.mc_interp.proofs.labels.has_case.Goals as goal

pub returns-then-is_case_item : goal.returns-then-is_case_item
returns-then-is_case_item c =
    let L = Some (number_of c.args.of c.args.word) in
    ap (λ b. b || has L (drop (c.loop-tree.tree-index + 1) c.args.items.now)) (sym c.if-is_case_item.true)
    ∙ case_step L c.args.items.now c.loop-tree.tree-index c.tree-item.result c.is_case_item.result c.loop-tree-test.true c.tree-item.is c.is_case_item.ensures
    ∙ c.loop-tree.invariant

pub loop-tree-preserved : goal.loop-tree-preserved
loop-tree-preserved c =
    let L = Some (number_of c.args.of c.args.word) in
    ap (λ b. b || has L (drop (c.loop-tree.tree-index + 1) c.args.items.now)) (sym c.if-is_case_item.false)
    ∙ case_step L c.args.items.now c.loop-tree.tree-index c.tree-item.result c.is_case_item.result c.loop-tree-test.true c.tree-item.is c.is_case_item.ensures
    ∙ c.loop-tree.invariant

pub returns : goal.returns
returns c =
    case_end (Some (number_of c.args.of c.args.word)) c.args.items.now c.loop-tree.tree-index c.loop-tree-test.false ∙ c.loop-tree.invariant
