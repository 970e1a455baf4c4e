use Rattle.std.proofs.Common.{arith, ◌≡◌, ◌∙◌, ap, map}
use Rattle.std.proofs.lemmas.Grind.{common_steps}
use Rattle.mc_typed.specs.Views.{argument_of, expression_of}
use Rattle.decide_rules.specs.Nodes as n
use Rattle.mc_mutate.specs.Changes.{of_decision}
use Rattle.mc_mutate.specs.steps.Search.{in_decision, inside}
use Rattle.mc_mutate.specs.steps.Changed.{at_number, inside_changed, settled}
use Rattle.mc_mutate.proofs.Copied.{made_as}
use Rattle.mc_probe.specs.Views as probed
use Rattle.mc_mutate.proofs.Lists.{all_arguments, arguments_are}
use Rattle.mc_mutate.proofs.Operands.{binary_inside}
use Rattle.mc_mutate.proofs.Roots.{always, seen_as, over_tree, over_sought, here_tree, here_sought, later_tree}
use Rattle.mc_mutate.proofs.copies.expressions.+change.Goals as goal

pub arguments-returns-clause-tree : goal.arguments-returns-clause-tree
arguments-returns-clause-tree t c =
    let xs = map argument_of c.args.trees.now in
    let all : map probed.argument_of c.loop-tree.copies.items ≡ all_arguments xs c.args.sought.now = grind (arith, common_steps) in
    ap probed.arguments_from all ∙ arguments_are xs c.args.sought.now

pub root-returns-in-Found-clause-tree : goal.root-returns-in-Found-clause-tree
root-returns-in-Found-clause-tree t c =
    let e = expression_of c.args.tree.now in
    let s = c.args.sought.now in
    made_as c.operands.result (inside_changed e s) (settled (of_decision e) s (inside_changed e))
    (over_tree e s c.in-Found.field-0 c.in-Found.is) c.operands.ensures.tree

pub root-returns-in-Found-clause-sought : goal.root-returns-in-Found-clause-sought
root-returns-in-Found-clause-sought t c =
    let e = expression_of c.args.tree.now in
    let s = c.args.sought.now in
    seen_as c.operands.result c.operands.new.sought (inside (n.expression e) s) (inside (n.expression e) (in_decision (n.expression e) s))
    (over_sought e s c.in-Found.field-0 c.in-Found.is) c.operands.ensures.sought

pub root_left-returns-in-Found-clause-tree : goal.root_left-returns-in-Found-clause-tree
root_left-returns-in-Found-clause-tree t c =
    let e = expression_of c.args.tree.now in
    let s = c.args.sought.now in
    made_as c.replaced.result (at_number (of_decision e) e c.args.number) (settled (of_decision e) s (inside_changed e))
    (here_tree e s c.in_decision.result c.args.number c.in-Found.field-0 c.requires c.in_decision.ensures c.in-Found.is) c.replaced.ensures

pub root_left-returns-in-Found-clause-sought : goal.root_left-returns-in-Found-clause-sought
root_left-returns-in-Found-clause-sought t c =
    let e = expression_of c.args.tree.now in
    let s = c.args.sought.now in
    always c.replaced.result c.in_decision.result (inside (n.expression e) (in_decision (n.expression e) s))
    (here_sought e s c.in_decision.result c.in-Found.field-0 c.in_decision.ensures c.in-Found.is)

pub root_left-returns-in-Left-clause-tree : goal.root_left-returns-in-Left-clause-tree
root_left-returns-in-Left-clause-tree t c =
    let e = expression_of c.args.tree.now in
    let s = c.args.sought.now in
    made_as c.operands.result (inside_changed e c.in_decision.result) (settled (of_decision e) s (inside_changed e))
    (later_tree e s c.in_decision.result c.args.number c.in-Left.field-0 c.requires c.in_decision.ensures c.in-Left.is) c.operands.ensures.tree

pub operands-returns-in_ok-right-in-Binary-clause-sought : goal.operands-returns-in_ok-right-in-Binary-clause-sought
operands-returns-in_ok-right-in-Binary-clause-sought t c =
    binary_inside c.args.tree.now c.deref-in-Binary.result.now c.deref-in-Binary-2.result.now c.deref-in-Binary-3.result.now c.deref-in-Binary-4.result.now c.in-Binary.operator c.in-Binary.of c.in-Binary.left c.in-Binary.right c.in-Binary.span
    c.full_operator.result c.under-role.result c.args.sought.now c.boxed-in-Binary.new.sought c.boxed-in-Binary-2.new.sought
    c.in-Binary.is c.deref-in-Binary.ensures c.deref-in-Binary-2.ensures c.deref-in-Binary-3.ensures c.deref-in-Binary-4.ensures
    c.full_operator.ensures c.under-role.ensures c.in_ok-left-in-Binary.ensures.sought c.in_ok-right-in-Binary.ensures.sought
