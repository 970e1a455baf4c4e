use Rattle.std.proofs.Common.{◌≡◌, ◌∙◌, ap, sym, subst, ◌+◌, ◌++◌, length, IfOk, arith}
use Rattle.mc_cond.specs.Tree.{tree_of}
use Rattle.mc_typed.specs.Views.{expression_of}
use Rattle.decide_rules.specs.declared.operators.Junction.TheVariants.{Short}
use Rattle.decide_rules.specs.Nodes.{Node}
use Rattle.decide_rules.specs.Conditions.{tree_from, width}
use Rattle.decide_rules.specs.steps.Walk.{spans}
use Rattle.decide_rules.proofs.Trees.{same_span}
use Rattle.decide_walk.proofs.Shapes.{node}
use Rattle.decide_walk.proofs.Leaves.{leaf}
use Rattle.decide_walk.proofs.Builds.{is_not, is_logic, is_probe, if_any, condition_tree, condition_count, condition_spans, not_tree, logic_tree, logic_count, logic_spans}
use Rattle.decide_walk.proofs.tree.+build.Goals as goal

pub condition-requires : goal.condition-requires
condition-requires t c = omega (arith, c.requires)

pub returns-in-Constant-clause-tree : goal.returns-in-Constant-clause-tree
returns-in-Constant-clause-tree t c =
    condition_tree c.condition-in-Constant.result (length c.args.before.now.items) (node c.args.tree.now)
    (leaf c.args.tree.now c.in-Constant.is) c.condition-in-Constant.ensures.tree

pub returns-in-Constant-clause-count : goal.returns-in-Constant-clause-count
returns-in-Constant-clause-count t c =
    condition_count c.condition-in-Constant.result (length c.args.before.now.items) (length c.condition-in-Constant.new.before.items)
    (node c.args.tree.now) (leaf c.args.tree.now c.in-Constant.is) c.condition-in-Constant.ensures.count

pub returns-in-Constant-clause-spans : goal.returns-in-Constant-clause-spans
returns-in-Constant-clause-spans t c =
    condition_spans c.condition-in-Constant.result c.span.result c.args.before.now.items c.condition-in-Constant.new.before.items
    (node c.args.tree.now) (leaf c.args.tree.now c.in-Constant.is)
    (c.span.ensures ∙ same_span (expression_of c.args.tree.now)) c.condition-in-Constant.ensures.spans

pub returns-in_ok-operand-in-Not-clause-tree : goal.returns-in_ok-operand-in-Not-clause-tree
returns-in_ok-operand-in-Not-clause-tree t c =
    not_tree c.negate.result c.in_ok-operand-in-Not.operand (length c.args.before.now.items) (node c.args.tree.now)
    (node c.deref.result.now) c.in-Not.span
    (is_not c.args.tree.now c.deref.result.now c.in-Not.operand c.in-Not.span c.in-Not.is c.deref.ensures)
    c.in_ok-operand-in-Not.ensures.tree c.negate.ensures

pub returns-in_ok-operand-in-Not-clause-count : goal.returns-in_ok-operand-in-Not-clause-count
returns-in_ok-operand-in-Not-clause-count t c =
    let e = is_not c.args.tree.now c.deref.result.now c.in-Not.operand c.in-Not.span c.in-Not.is c.deref.ensures in
    if_any c.negate.result
    (c.in_ok-operand-in-Not.ensures.count ∙ ap (λ (a : Node). length c.args.before.now.items + width a) (sym e))

pub returns-in_ok-operand-in-Not-clause-spans : goal.returns-in_ok-operand-in-Not-clause-spans
returns-in_ok-operand-in-Not-clause-spans t c =
    let e = is_not c.args.tree.now c.deref.result.now c.in-Not.operand c.in-Not.span c.in-Not.is c.deref.ensures in
    if_any c.negate.result
    (c.in_ok-operand-in-Not.ensures.spans ∙ ap (λ (a : Node). c.args.before.now.items ++ spans a) (sym e))

pub returns-in_ok-right-in-Logic-clause-tree : goal.returns-in_ok-right-in-Logic-clause-tree
returns-in_ok-right-in-Logic-clause-tree t c =
    logic_tree c.join.result (Short c.in-Logic.operator) c.in_ok-left-in-Logic.left c.in_ok-right-in-Logic.right
    (length c.args.before.now.items) (length c.build-in-Logic.new.before.items) (node c.args.tree.now)
    (node c.deref-in-Logic.result.now) (node c.deref-in-Logic-2.result.now) c.in-Logic.span
    (is_logic c.args.tree.now c.deref-in-Logic.result.now c.deref-in-Logic-2.result.now c.in-Logic.operator c.in-Logic.left c.in-Logic.right c.in-Logic.span c.in-Logic.is c.deref-in-Logic.ensures c.deref-in-Logic-2.ensures)
    c.in_ok-left-in-Logic.ensures.tree c.in_ok-right-in-Logic.ensures.tree c.in_ok-left-in-Logic.ensures.count c.join.ensures

pub returns-in_ok-right-in-Logic-clause-count : goal.returns-in_ok-right-in-Logic-clause-count
returns-in_ok-right-in-Logic-clause-count t c =
    if_any c.join.result
    (logic_count (length c.args.before.now.items) (length c.build-in-Logic.new.before.items) (length c.build-in-Logic-2.new.before.items) (Short c.in-Logic.operator)
    (node c.args.tree.now) (node c.deref-in-Logic.result.now) (node c.deref-in-Logic-2.result.now) c.in-Logic.span
    (is_logic c.args.tree.now c.deref-in-Logic.result.now c.deref-in-Logic-2.result.now c.in-Logic.operator c.in-Logic.left c.in-Logic.right c.in-Logic.span c.in-Logic.is c.deref-in-Logic.ensures c.deref-in-Logic-2.ensures)
    c.in_ok-left-in-Logic.ensures.count c.in_ok-right-in-Logic.ensures.count)

pub returns-in_ok-right-in-Logic-clause-spans : goal.returns-in_ok-right-in-Logic-clause-spans
returns-in_ok-right-in-Logic-clause-spans t c =
    if_any c.join.result
    (logic_spans c.args.before.now.items c.build-in-Logic.new.before.items c.build-in-Logic-2.new.before.items (Short c.in-Logic.operator)
    (node c.args.tree.now) (node c.deref-in-Logic.result.now) (node c.deref-in-Logic-2.result.now) c.in-Logic.span
    (is_logic c.args.tree.now c.deref-in-Logic.result.now c.deref-in-Logic-2.result.now c.in-Logic.operator c.in-Logic.left c.in-Logic.right c.in-Logic.span c.in-Logic.is c.deref-in-Logic.ensures c.deref-in-Logic-2.ensures)
    c.in_ok-left-in-Logic.ensures.spans c.in_ok-right-in-Logic.ensures.spans)

pub returns-in-Probe-clause-tree : goal.returns-in-Probe-clause-tree
returns-in-Probe-clause-tree t c =
    let e = is_probe c.args.tree.now c.deref-in-Probe.result.now c.in-Probe.probe c.in-Probe.operand c.in-Probe.is c.deref-in-Probe.ensures in
    subst (λ (a : Node). IfOk c.build-in-Probe.result (λ x. tree_of x ≡ tree_from (length c.args.before.now.items) a)) (sym e) c.build-in-Probe.ensures.tree

pub returns-in-Probe-clause-count : goal.returns-in-Probe-clause-count
returns-in-Probe-clause-count t c =
    let e = is_probe c.args.tree.now c.deref-in-Probe.result.now c.in-Probe.probe c.in-Probe.operand c.in-Probe.is c.deref-in-Probe.ensures in
    subst (λ (a : Node). IfOk c.build-in-Probe.result (λ _. length c.build-in-Probe.new.before.items ≡ length c.args.before.now.items + width a)) (sym e) c.build-in-Probe.ensures.count

pub returns-in-Probe-clause-spans : goal.returns-in-Probe-clause-spans
returns-in-Probe-clause-spans t c =
    let e = is_probe c.args.tree.now c.deref-in-Probe.result.now c.in-Probe.probe c.in-Probe.operand c.in-Probe.is c.deref-in-Probe.ensures in
    subst (λ (a : Node). IfOk c.build-in-Probe.result (λ _. c.build-in-Probe.new.before.items ≡ c.args.before.now.items ++ spans a)) (sym e) c.build-in-Probe.ensures.spans
