-- Each exit of a statement, and each turn of the loop over a block.
use Rattle.std.proofs.Common.{◌∙◌, ◌+◌, drop, map, refl, sym, ap, rules}
use Rattle.mc_tree.specs.Units.{block_from, block_item_of, declaration_of, option_of, start_of, statement_of}
use Rattle.mc_tree.specs.Views.{expression_of, name_of}
use Rattle.mc_typed.specs.Tree.{Statements}
use Rattle.types_rules.specs.Scopes.{block}
use Rattle.types_rules.specs.Values.{Judged}
use Rattle.types_rules.specs.Statements.{compound_scope, followed_judged, in_switch, inside, switch_scope}
use Rattle.types_rules.specs.Bodies.{judge_block, judge_statement}
use Rattle.types_scopes.specs.Blocks.{Around, left_by}
use Rattle.types_scopes.specs.Views.{scope_of}
use Rattle.types_scopes.specs.Found.{found_of, judged_of}
use Rattle.types_scopes.specs.Statements.{around_of, declarators_of, statements_of}
use Rattle.types_scopes.specs.steps.Squeezed.{squeezed_part}
use Rattle.std.proofs.lemmas.Result.{IfOk-weaker}
use Rattle.mc_types.proofs.Exits.{at_ok, found_as, found_with}
use Rattle.mc_types.proofs.Bodies.{block_item_of-Local, block_item_of-Statement, statement_of-Break, statement_of-Case, statement_of-Compound, statement_of-Continue, statement_of-Default, statement_of-DoWhile, statement_of-Expression, statement_of-For, statement_of-Goto, statement_of-If, statement_of-IfElse, statement_of-Label, statement_of-Null, statement_of-Return, statement_of-Switch, statement_of-While}
use Rattle.mc_types.proofs.Falls.{case_body, default_body, do_body, for_body, if_chosen, if_else_chosen, if_else_other, label_body, switch_body, to_any_statement, to_inner, to_same, to_statement, while_body}
use Rattle.mc_types.proofs.StatementArms.{closes, in_case, in_default, in_item, in_label, in_local}
use Rattle.mc_types.proofs.Turns.{last_turn, next_turn}
use Rattle.mc_types.proofs.Parts.{followed_first, followed_last, squeezed_judged}
use Rattle.mc_types.proofs.statements.+statements.Goals as goal

pub statement-returns-in-Null : goal.statement-returns-in-Null
statement-returns-in-Null t c =
    let w = c.in-Null in
    rw (w.is, statement_of-Null w.span)
    (found_with c.null_statement.result (λ z v. judged_of statements_of z v) (scope_of c.args.scope.now) _ _ c.null_statement.ensures refl)

pub statement-returns-in-Expression : goal.statement-returns-in-Expression
statement-returns-in-Expression t c =
    let w = c.in-Expression in
    rw (w.is, statement_of-Expression w.value w.span)
    (rw c.deref.ensures at (c.expression_statement.ensures (around_of c.args.around)))

pub any_statement-returns-in_ok-outer-in-Compound : goal.any_statement-returns-in_ok-outer-in-Compound
any_statement-returns-in_ok-outer-in-Compound t c =
    let w = c.in-Compound in
    let a = around_of c.args.around in
    let s = scope_of c.args.scope.now in
    let r = scope_of c.block-found.new.scope in
    let u = scope_of c.leave.new.self in
    let items = block_from (map block_item_of w.items.items) in
    rw (w.is, statement_of-Compound w.items w.span)
    (c.compound.ensures a items s u (IfOk-weaker c.block-found.result _ _ (λ z h. closes s u (judged_of statements_of z r) (judge_block (inside a) items (compound_scope a s)) (rw (c.deref.ensures.value, c.inside.ensures, c.in_ok-outer-in-Compound.ensures.entered) at h) (c.leave.ensures ∙ ap (λ (b : Around). left_by b r) c.in_ok-outer-in-Compound.ensures.block)) c.block-found.ensures))

pub any_statement-returns-in-Expression : goal.any_statement-returns-in-Expression
any_statement-returns-in-Expression t c =
    let w = c.in-Expression in
    rw (w.is, statement_of-Expression w.value w.span)
    (rw c.deref-in-Expression.ensures at (c.expression_statement.ensures (around_of c.args.around)))

pub any_statement-returns-in_ok-test-in-If : goal.any_statement-returns-in_ok-test-in-If
any_statement-returns-in_ok-test-in-If t c =
    let w = c.in-If in
    rw (w.is, statement_of-If w.test w.chosen w.span)
    (c.if_then.ensures (around_of c.args.around) (expression_of w.test.value) (statement_of w.chosen.value) (scope_of c.args.scope.now) (scope_of c.expression.new.scope) (scope_of c.inner-chosen.new.scope) (rw c.deref-in-If.ensures at c.in_ok-test-in-If.ensures) (rw (c.deref-in-If-2.ensures, c.inside-in-If.ensures) at c.inner-chosen.ensures))

pub any_statement-returns-in_ok-tested-in-IfElse : goal.any_statement-returns-in_ok-tested-in-IfElse
any_statement-returns-in_ok-tested-in-IfElse t c =
    let w = c.in-IfElse in
    let o = c.in_ok-tested-in-IfElse in
    rw (w.is, statement_of-IfElse w.test w.chosen w.other w.span)
    (c.if_else.ensures (around_of c.args.around) (expression_of w.test.value) (statement_of w.chosen.value) (statement_of w.other.value) (scope_of c.args.scope.now) (scope_of c.expression-in-IfElse.new.scope) (scope_of c.inner-chosen-in-IfElse.new.scope) (scope_of c.inner-other.new.scope) (rw o.ensures.test (rw c.deref-in-IfElse.ensures at c.in_ok-test-in-IfElse.ensures)) (rw (c.deref-in-IfElse-2.ensures, c.inside-in-IfElse.ensures) at (at_ok c.inner-chosen-in-IfElse.result o.tested.chosen _ o.ensures.chosen c.inner-chosen-in-IfElse.ensures)) (rw (c.deref-in-IfElse-3.ensures, c.inside-in-IfElse-2.ensures) at c.inner-other.ensures))

pub any_statement-returns-in_ok-value-in-Switch : goal.any_statement-returns-in_ok-value-in-Switch
any_statement-returns-in_ok-value-in-Switch t c =
    let w = c.in-Switch in
    let a = around_of c.args.around in
    let q = scope_of c.expression-in-Switch.new.scope in
    let r = scope_of c.statement-found.new.scope in
    let u = scope_of c.leave-in-Switch.new.self in
    rw (w.is, statement_of-Switch w.value w.body w.span)
    (rw c.deref-in-Switch-3.ensures at (c.switch_on.ensures a (expression_of w.value.value) (scope_of c.args.scope.now) q u (rw c.deref-in-Switch.ensures at c.in_ok-value-in-Switch.ensures) (rw c.deref-in-Switch-3.ensures (IfOk-weaker c.statement-found.result _ _ (λ z h. closes q u (judged_of statements_of z r) (judge_statement (in_switch a) (statement_of w.body.value) (switch_scope (found_of c.in_ok-value-in-Switch.value q))) (rw (c.deref-in-Switch-2.ensures, c.in_switch.ensures, c.enter_switch-outer.ensures.entered) at h) (c.leave-in-Switch.ensures ∙ ap (λ (b : Around). left_by b r) c.enter_switch-outer.ensures.block)) c.statement-found.ensures))))

pub any_statement-returns-in_ok-test-in-While : goal.any_statement-returns-in_ok-test-in-While
any_statement-returns-in_ok-test-in-While t c =
    let w = c.in-While in
    rw (w.is, statement_of-While w.test w.body w.span)
    (c.while_loop.ensures (around_of c.args.around) (expression_of w.test.value) (statement_of w.body.value) (scope_of c.args.scope.now) (scope_of c.expression-in-While.new.scope) (scope_of c.inner-body.new.scope) (rw c.deref-in-While.ensures at c.in_ok-test-in-While.ensures) (rw (c.deref-in-While-2.ensures, c.in_loop.ensures) at c.inner-body.ensures))

pub any_statement-returns-in_ok-body-in-DoWhile : goal.any_statement-returns-in_ok-body-in-DoWhile
any_statement-returns-in_ok-body-in-DoWhile t c =
    let w = c.in-DoWhile in
    rw (w.is, statement_of-DoWhile w.body w.test w.span)
    (c.do_loop.ensures (around_of c.args.around) (expression_of w.test.value) (statement_of w.body.value) (scope_of c.args.scope.now) (scope_of c.inner.new.scope) (scope_of c.expression-test.new.scope) (rw (c.deref-in-DoWhile.ensures, c.in_loop-in-DoWhile.ensures) at c.in_ok-body-in-DoWhile.ensures) (rw c.deref-in-DoWhile-2.ensures at c.expression-test.ensures))

pub any_statement-returns-in_ok-heading-in-For : goal.any_statement-returns-in_ok-heading-in-For
any_statement-returns-in_ok-heading-in-For t c =
    let w = c.in-For in
    let o = c.in_ok-heading-in-For in
    rw (w.is, statement_of-For w.start w.test w.step w.body w.span)
    (c.for_loop.ensures (around_of c.args.around) (start_of w.start.value) (option_of w.test) (option_of w.step) (statement_of w.body.value) (scope_of c.args.scope.now) (scope_of c.for_heading.new.scope) o.ensures.outer (rw c.deref-in-For.ensures at o.ensures.parts) (rw (c.deref-in-For-2.ensures, c.in_loop-in-For.ensures) at c.inner-body-in-For.ensures))

pub any_statement-returns-in_ok-first-in-Case : goal.any_statement-returns-in_ok-first-in-Case
any_statement-returns-in_ok-first-in-Case t c =
    let w = c.in-Case in
    let a = around_of c.args.around in
    let r = scope_of c.case_label.new.scope in
    let u = scope_of c.statement-rest.new.scope in
    let rest = squeezed_part (judge_statement (inside a) (statement_of w.body.value) r) in
    rw (w.is, statement_of-Case w.value w.label w.body w.span)
    (found_as c.followed.result (λ z. judged_of statements_of z u) _ _ (c.followed.ensures rest u (rw (c.deref-in-Case-2.ensures, c.inside-in-Case.ensures) at c.statement-rest.ensures))
    (in_case a (expression_of w.value.value) w.label (statement_of w.body.value) w.span (scope_of c.args.scope.now) (judged_of statements_of c.in_ok-first-in-Case.first r) rest (rw c.deref-in-Case.ensures at c.in_ok-first-in-Case.ensures) refl))

pub any_statement-returns-in_ok-first-in-Default : goal.any_statement-returns-in_ok-first-in-Default
any_statement-returns-in_ok-first-in-Default t c =
    let w = c.in-Default in
    let a = around_of c.args.around in
    let s = scope_of c.args.scope.now in
    let r = scope_of c.default_label.new.scope in
    let u = scope_of c.statement-rest-in-Default.new.scope in
    let rest = squeezed_part (judge_statement (inside a) (statement_of w.body.value) r) in
    rw (w.is, statement_of-Default w.label w.body w.span)
    (found_as c.followed-in-Default.result (λ z. judged_of statements_of z u) _ _ (c.followed-in-Default.ensures rest u (rw (c.deref-in-Default.ensures, c.inside-in-Default.ensures) at c.statement-rest-in-Default.ensures))
    (in_default a w.label (statement_of w.body.value) w.span s (judged_of statements_of c.in_ok-first-in-Default.first r) rest c.in_ok-first-in-Default.ensures refl))

pub any_statement-returns-in-Ok : goal.any_statement-returns-in-Ok
any_statement-returns-in-Ok t c =
    let w = c.in-Label in
    let u = scope_of c.statement.new.scope in
    rw (w.is, statement_of-Label w.name w.body w.span)
    (c.named_label.ensures u ∙ in_label (around_of c.args.around) (name_of w.name) (statement_of w.body.value) w.span (scope_of c.args.scope.now) (judged_of statements_of c.in-Ok.found u) (rw (c.deref-in-Label.ensures, c.inside-in-Label.ensures) at c.in-Ok.ensures))

pub any_statement-returns-in-Goto : goal.any_statement-returns-in-Goto
any_statement-returns-in-Goto t c =
    let w = c.in-Goto in
    rw (w.is, statement_of-Goto w.name w.span) (c.goto_statement.ensures (scope_of c.args.scope.now))

pub any_statement-returns-in-Null : goal.any_statement-returns-in-Null
any_statement-returns-in-Null t c =
    let w = c.in-Null in
    rw (w.is, statement_of-Null w.span)
    (found_with c.null_statement.result (λ z v. judged_of statements_of z v) (scope_of c.args.scope.now) _ _ c.null_statement.ensures refl)

pub any_statement-returns-in-Break : goal.any_statement-returns-in-Break
any_statement-returns-in-Break t c =
    let w = c.in-Break in
    rw (w.is, statement_of-Break w.span)
    (found_with c.break_statement.result (λ z v. judged_of statements_of z v) (scope_of c.args.scope.now) _ _ c.break_statement.ensures refl)

pub any_statement-returns-in-Continue : goal.any_statement-returns-in-Continue
any_statement-returns-in-Continue t c =
    let w = c.in-Continue in
    rw (w.is, statement_of-Continue w.span)
    (found_with c.continue_statement.result (λ z v. judged_of statements_of z v) (scope_of c.args.scope.now) _ _ c.continue_statement.ensures refl)

pub any_statement-returns-in-Return : goal.any_statement-returns-in-Return
any_statement-returns-in-Return t c =
    let w = c.in-Return in
    rw (w.is, statement_of-Return w.value w.span) c.return_statement.ensures

pub inner-returns : goal.inner-returns
inner-returns t c =
    let s = scope_of c.args.scope.now in
    let r = scope_of c.statement-found.new.scope in
    let u = scope_of c.leave.new.self in
    IfOk-weaker c.statement-found.result _ _ (λ z h. closes s u (judged_of statements_of z r) (judge_statement (around_of c.args.around) (statement_of c.args.tree.now) (block s)) (rw c.enter-outer.ensures.entered at h) (c.leave.ensures ∙ ap (λ (b : Around). left_by b r) c.enter-outer.ensures.block)) c.statement-found.ensures

pub block-loop-tree-init : goal.block-loop-tree-init
block-loop-tree-init t c =
    let s = scope_of c.args.scope.now in
    let all = judge_block (around_of c.args.around) (block_from (map block_item_of c.args.trees.now)) s in
    ap (λ (x : Judged Statements). squeezed_part (followed_judged x all)) (c.no_statements-list.ensures s)
    ∙ followed_first s all

pub block-loop-tree-preserved : goal.block-loop-tree-preserved
block-loop-tree-preserved t c =
    let s = scope_of c.loop-tree.scope in
    let u = scope_of c.block_item-one.new.scope in
    let a = around_of c.args.around in
    next_turn c.args.trees.now c.loop-tree.tree-index c.tree-item.result (λ ts. squeezed_part (followed_judged (judged_of statements_of c.loop-tree.list (scope_of c.loop-tree.scope)) (judge_block (around_of c.args.around) (block_from (map block_item_of ts)) (scope_of c.loop-tree.scope)))) _ _ (search rules) c.tree-item.is
    (c.in_ok-list.ensures a (block_item_of c.tree-item.result) s u c.block_item-one.ensures (block_from (map block_item_of (drop (c.loop-tree.tree-index + 1) c.args.trees.now)))) c.loop-tree.invariant

pub block-returns : goal.block-returns
block-returns t c =
    sym (squeezed_judged statements_of c.loop-tree.list (scope_of c.loop-tree.scope))
    ∙ sym (followed_last (judged_of statements_of c.loop-tree.list (scope_of c.loop-tree.scope))) ∙ last_turn c.args.trees.now c.loop-tree.tree-index (λ ts. squeezed_part (followed_judged (judged_of statements_of c.loop-tree.list (scope_of c.loop-tree.scope)) (judge_block (around_of c.args.around) (block_from (map block_item_of ts)) (scope_of c.loop-tree.scope)))) _ (search rules) c.loop-tree.invariant

pub block_item-returns-in-Ok : goal.block_item-returns-in-Ok
block_item-returns-in-Ok t c =
    let w = c.in-Local in
    let s = scope_of c.args.scope.now in
    let u = scope_of c.declaration.new.scope in
    rw (w.is, block_item_of-Local w.local)
    (IfOk-weaker c.declaration_statement.result _ _ (λ z h. in_local (around_of c.args.around) (declaration_of w.local) s (judged_of declarators_of c.in-Ok.found u) (judged_of statements_of z u) c.in-Ok.ensures (h u)) c.declaration_statement.ensures)

pub block_item-returns-in-Statement : goal.block_item-returns-in-Statement
block_item-returns-in-Statement t c =
    let w = c.in-Statement in
    let s = scope_of c.args.scope.now in
    let u = scope_of c.statement.new.scope in
    rw (w.is, block_item_of-Statement w.one)
    (IfOk-weaker c.statement.result _ _ (λ z h. in_item (around_of c.args.around) (statement_of w.one.value) s (judged_of statements_of z u) (rw c.deref.ensures at h)) c.statement.ensures)

-- ---- each part is smaller

pub statement-any_statement-requires : goal.statement-any_statement-requires
statement-any_statement-requires t c = (to_any_statement c.args.tree.now t c.decreases, tt)

pub any_statement-inner-chosen-requires : goal.any_statement-inner-chosen-requires
any_statement-inner-chosen-requires t c =
    let w = c.in-If in
    (to_inner _ _ _ _ t c.deref-in-If-2.ensures w.is (if_chosen w.test w.chosen w.span) c.decreases, tt)

pub any_statement-inner-chosen-requires-in-IfElse : goal.any_statement-inner-chosen-requires-in-IfElse
any_statement-inner-chosen-requires-in-IfElse t c =
    let w = c.in-IfElse in
    (to_inner _ _ _ _ t c.deref-in-IfElse-2.ensures w.is (if_else_chosen w.test w.chosen w.other w.span) c.decreases, tt)

pub any_statement-inner-other-requires : goal.any_statement-inner-other-requires
any_statement-inner-other-requires t c =
    let w = c.in-IfElse in
    (to_inner _ _ _ _ t c.deref-in-IfElse-3.ensures w.is (if_else_other w.test w.chosen w.other w.span) c.decreases, tt)

pub any_statement-statement-found-requires : goal.any_statement-statement-found-requires
any_statement-statement-found-requires t c =
    let w = c.in-Switch in
    (to_statement _ _ _ _ t c.deref-in-Switch-2.ensures w.is (switch_body w.value w.body w.span) c.decreases, tt)

pub any_statement-inner-body-requires : goal.any_statement-inner-body-requires
any_statement-inner-body-requires t c =
    let w = c.in-While in
    (to_inner _ _ _ _ t c.deref-in-While-2.ensures w.is (while_body w.test w.body w.span) c.decreases, tt)

pub any_statement-inner-requires : goal.any_statement-inner-requires
any_statement-inner-requires t c =
    let w = c.in-DoWhile in
    (to_inner _ _ _ _ t c.deref-in-DoWhile.ensures w.is (do_body w.body w.test w.span) c.decreases, tt)

pub any_statement-inner-body-requires-in-For : goal.any_statement-inner-body-requires-in-For
any_statement-inner-body-requires-in-For t c =
    let w = c.in-For in
    (to_inner _ _ _ _ t c.deref-in-For-2.ensures w.is (for_body w.start w.test w.step w.body w.span) c.decreases, tt)

pub any_statement-statement-rest-requires : goal.any_statement-statement-rest-requires
any_statement-statement-rest-requires t c =
    let w = c.in-Case in
    (to_statement _ _ _ _ t c.deref-in-Case-2.ensures w.is (case_body w.value w.label w.body w.span) c.decreases, tt)

pub any_statement-statement-rest-requires-in-Default : goal.any_statement-statement-rest-requires-in-Default
any_statement-statement-rest-requires-in-Default t c =
    let w = c.in-Default in
    (to_statement _ _ _ _ t c.deref-in-Default.ensures w.is (default_body w.label w.body w.span) c.decreases, tt)

pub any_statement-statement-requires : goal.any_statement-statement-requires
any_statement-statement-requires t c =
    let w = c.in-Label in
    (to_statement _ _ _ _ t c.deref-in-Label.ensures w.is (label_body w.name w.body w.span) c.decreases, tt)

pub inner-statement-found-requires : goal.inner-statement-found-requires
inner-statement-found-requires t c = (to_same c.args.tree.now t c.decreases, tt)
