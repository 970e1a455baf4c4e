use Rattle.std.proofs.Common.{◌+◌, map, drop, Some, None, option_map, refl, sym, subst, ◌∙◌, arith, rules}
use Rattle.mc_typed.specs.Sound.{type_of, AreDeclarators, IsExpression, IsReturn}
use Rattle.mc_typed.specs.Views as plain
use Rattle.mc_steps.specs.Runs.{gives}
use Rattle.mc_steps.specs.Statements.{Completed}
use Rattle.mc_steps.specs.Expressions.{as_does, is_true}
use Rattle.interp_words.specs.Words.{number_of}
use Rattle.mc_probe.specs.Expressions.{evaluate}
use Rattle.mc_probe.specs.Probes.{mark_does}
use Rattle.mc_probe.specs.Statements as does
use Rattle.mc_probe.specs.Views as view
use Rattle.mc_probe.proofs.Erased.{expression_erases}
use Rattle.mc_interp.specs.Bodies.{flow_of, labels_in, seek_of, IsAnyStart}
use Rattle.mc_interp.specs.Stores.{state_of}
use Rattle.mc_interp.specs.Views as prepared
use Rattle.mc_interp.specs.Frames.{activation_of, scope_in}
use Rattle.mc_interp.proofs.Runs.{did_then, did_gives}
use Rattle.mc_interp.proofs.Rests.{if_none}
use Rattle.mc_interp.proofs.Kept.{kept_same, kept_then, if_kept, ready_kept}
use Rattle.mc_interp.proofs.BodyShapes.{view_declaration, view_do, view_for, view_if, view_if_else, view_return, view_switch}
use Rattle.mc_interp.proofs.Erasings.{declarators_erase, return_erases, start_erases}
use Rattle.mc_interp.proofs.Fronts.{did_effect, did_effect_end}
use Rattle.mc_interp.proofs.Equations.{absent_fits, end_typed, label_fits, next_is, next_typed}
use Rattle.mc_interp.proofs.Bodies.{did_if_else, did_if_end, did_if_then, did_do, did_do_out, did_item, did_label, did_passed, did_statement, did_statement_end, did_switch, did_switch_end, did_switch_stop, did_turn_body_end, did_turn_end, did_turn_on, did_turn_out, did_turn_over, did_turn_step_end}
use Rattle.mc_interp.proofs.Turnings.{only_fits, only_one, only_ran, only_sound, running_done, running_end, running_here, running_last, running_out, running_start, running_step, turning_end, turning_out, turning_start, turning_step}
use Rattle.mc_interp.proofs.statements.+statements.Goals as goal

-- ---- items

pub item-at_label-requires-clause-fits : goal.item-at_label-requires-clause-fits
item-at_label-requires-clause-fits g t c =
    label_fits c.args.frame.now.function.now.registers (prepared.statement_of c.args.tree.now) c.in-Some.label c.requires.fits (sym c.label_of.ensures ∙ c.in-Some.is)

pub item-returns-in-Some-clause-did : goal.item-returns-in-Some-clause-did
item-returns-in-Some-clause-did g t c =
    let M = g.P.Probe.leads in let N = g.met.P.Probe.stays in let J = g.met.P.Probe.joins in
    did_label M N J (activation_of c.args.frame.now) (prepared.statement_of c.args.tree.now) (state_of c.args.store.now) (seek_of c.args.seek) c.in-Some.label
    (seek_of c.at_label.result) c.at_label.new.store c.args.probe.now c.at_label.new.probe (sym c.label_of.ensures ∙ c.in-Some.is) c.at_label.ensures.did

pub item-returns-in-Some-clause-kept : goal.item-returns-in-Some-clause-kept
item-returns-in-Some-clause-kept g t c = c.at_label.ensures.kept

pub item-returns-then-not-is_running-clause-did : goal.item-returns-then-not-is_running-clause-did
item-returns-then-not-is_running-clause-did g t c =
    let M = g.P.Probe.leads in let N = g.met.P.Probe.stays in let J = g.met.P.Probe.joins in
    did_passed M N J (activation_of c.args.frame.now) (prepared.statement_of c.args.tree.now) (seek_of c.args.seek) c.args.store.now c.args.probe.now
    (sym c.label_of.ensures ∙ c.in_default.is) (sym c.is_running.ensures ∙ c.if-not-is_running.true)

pub item-returns-then-not-is_running-clause-kept : goal.item-returns-then-not-is_running-clause-kept
item-returns-then-not-is_running-clause-kept g t c = kept_same (scope_in c.args.frame.now) (activation_of c.args.frame.now) c.args.store.now

pub item-returns-in_err-flow-clause-did : goal.item-returns-in_err-flow-clause-did
item-returns-in_err-flow-clause-did g t c =
    let M = g.P.Probe.leads in let N = g.met.P.Probe.stays in let J = g.met.P.Probe.joins in
    rw c.from_residual.ensures
    (did_item M N J (activation_of c.args.frame.now) (prepared.statement_of c.args.tree.now) (state_of c.args.store.now) (seek_of c.args.seek) None
    c.statement.new.store c.args.probe.now c.statement.new.probe (sym c.label_of.ensures ∙ c.in_default.is) (sym c.is_running.ensures ∙ c.if-not-is_running.false)
    c.in_err-flow.ensures.did)

pub item-returns-clause-did : goal.item-returns-clause-did
item-returns-clause-did g t c =
    let M = g.P.Probe.leads in let N = g.met.P.Probe.stays in let J = g.met.P.Probe.joins in
    rw (c.next_after.ensures, next_is c.in_ok-flow.flow c.statement.new.store)
    (did_item M N J (activation_of c.args.frame.now) (prepared.statement_of c.args.tree.now) (state_of c.args.store.now) (seek_of c.args.seek)
    (Some (flow_of c.in_ok-flow.flow c.statement.new.store)) c.statement.new.store c.args.probe.now c.statement.new.probe
    (sym c.label_of.ensures ∙ c.in_default.is) (sym c.is_running.ensures ∙ c.if-not-is_running.false) c.in_ok-flow.ensures.did)

pub item-returns-clause-typed : goal.item-returns-clause-typed
item-returns-clause-typed g t c =
    rw c.next_after.ensures (next_typed (scope_in c.args.frame.now) (activation_of c.args.frame.now) c.in_ok-flow.flow c.statement.new.store c.in_ok-flow.ensures.typed)

-- ---- statements

pub other-returns-in_err-counted-clause-did : goal.other-returns-in_err-counted-clause-did
other-returns-in_err-counted-clause-did g t c =
    let M = g.P.Probe.leads in let N = g.met.P.Probe.stays in let J = g.met.P.Probe.joins in
    let h = rw c.count_of.ensures at c.in_err-counted.ensures.did in
    rw c.from_residual.ensures
    (did_statement_end M N J (activation_of c.args.frame.now) (prepared.statement_of c.args.tree.now) (state_of c.args.store.now) c.counted.new.store c.args.probe.now c.counted.new.probe h)

pub other-act-requires : goal.other-act-requires
other-act-requires g t c κs h =
    let k = c.counted.ensures.kept (scope_in c.args.frame.now) (activation_of c.args.frame.now) in
    let r = ready_kept c.args.frame.now c.args.store.now c.counted.new.store _ _ c.requires.ready k c.counted.ensures.bits in
    (search rules, (search rules, (search rules, (c.requires.sound, (c.requires.fits, (r, c.requires.invokes))))))

pub other-returns-clause-did : goal.other-returns-clause-did
other-returns-clause-did g t c =
    let M = g.P.Probe.leads in let N = g.met.P.Probe.stays in let J = g.met.P.Probe.joins in
    let h = rw c.count_of.ensures at c.in_ok-counted.ensures.did in
    did_statement M N J (activation_of c.args.frame.now) (prepared.statement_of c.args.tree.now) (state_of c.args.store.now) c.counted.new.store _ _ c.args.probe.now c.counted.new.probe _ h
    c.act.ensures.did

pub other-returns-clause-kept : goal.other-returns-clause-kept
other-returns-clause-kept g t c =
    if_kept _ _ _ _ _ c.act.result (c.counted.ensures.kept (scope_in c.args.frame.now) (activation_of c.args.frame.now)) c.act.ensures.kept

-- ---- statements that run without a further call

pub simple-returns-in_err-counted-in-Effect-clause-did : goal.simple-returns-in_err-counted-in-Effect-clause-did
simple-returns-in_err-counted-in-Effect-clause-did g t c =
    let M = g.P.Probe.leads in let N = g.met.P.Probe.stays in let J = g.met.P.Probe.joins in
    rw c.from_residual.ensures
    (did_effect_end M N J (activation_of c.args.frame.now) c.args.tree.now c.in-Effect.is (state_of c.args.store.now) c.counted.new.store c.args.probe.now c.counted.new.probe
    c.in_err-counted-in-Effect.ensures.did)

pub simple-effect_statement-requires-clause-ready : goal.simple-effect_statement-requires-clause-ready
simple-effect_statement-requires-clause-ready g t c =
    ready_kept c.args.frame.now c.args.store.now c.counted.new.store _ _ c.requires.ready (c.counted.ensures.kept (scope_in c.args.frame.now) (activation_of c.args.frame.now)) c.counted.ensures.bits

pub simple-returns-in_ok-counted-in-Effect-clause-did : goal.simple-returns-in_ok-counted-in-Effect-clause-did
simple-returns-in_ok-counted-in-Effect-clause-did g t c =
    let M = g.P.Probe.leads in let N = g.met.P.Probe.stays in let J = g.met.P.Probe.joins in
    did_effect M N J (activation_of c.args.frame.now) c.args.tree.now c.in-Effect.is (state_of c.args.store.now) c.counted.new.store _ _ c.args.probe.now c.counted.new.probe _
    c.in_ok-counted-in-Effect.ensures.did c.effect_statement.ensures.did

pub simple-returns-in_ok-counted-in-Effect-clause-kept : goal.simple-returns-in_ok-counted-in-Effect-clause-kept
simple-returns-in_ok-counted-in-Effect-clause-kept g t c =
    if_kept _ _ _ _ _ c.effect_statement.result (c.counted.ensures.kept (scope_in c.args.frame.now) (activation_of c.args.frame.now)) c.effect_statement.ensures.kept

pub simple-returns-in_err-counted-in-Effect-clause-typed : goal.simple-returns-in_err-counted-in-Effect-clause-typed
simple-returns-in_err-counted-in-Effect-clause-typed g t c = if_none _ _ c.from_residual.ensures

pub simple-returns-in_err-counted-in-Effect-clause-kept : goal.simple-returns-in_err-counted-in-Effect-clause-kept
simple-returns-in_err-counted-in-Effect-clause-kept g t c = if_none _ _ c.from_residual.ensures

pub simple-returns-in_err-counted-in-Effect-clause-bits : goal.simple-returns-in_err-counted-in-Effect-clause-bits
simple-returns-in_err-counted-in-Effect-clause-bits g t c = c.in_err-counted-in-Effect.ensures.bits

pub simple-returns-in_err-counted-in-Effect-clause-limits : goal.simple-returns-in_err-counted-in-Effect-clause-limits
simple-returns-in_err-counted-in-Effect-clause-limits g t c = c.in_err-counted-in-Effect.ensures.limits

pub simple-returns-in_ok-counted-in-Effect-clause-typed : goal.simple-returns-in_ok-counted-in-Effect-clause-typed
simple-returns-in_ok-counted-in-Effect-clause-typed g t c = c.effect_statement.ensures.typed

pub simple-returns-in_ok-counted-in-Effect-clause-bits : goal.simple-returns-in_ok-counted-in-Effect-clause-bits
simple-returns-in_ok-counted-in-Effect-clause-bits g t c = c.effect_statement.ensures.bits ∙ c.in_ok-counted-in-Effect.ensures.bits

pub simple-returns-in_ok-counted-in-Effect-clause-limits : goal.simple-returns-in_ok-counted-in-Effect-clause-limits
simple-returns-in_ok-counted-in-Effect-clause-limits g t c = c.effect_statement.ensures.limits ∙ c.in_ok-counted-in-Effect.ensures.limits

-- ---- the items of a compound statement

pub block-simple-requires : goal.block-simple-requires
block-simple-requires g t c κs h =
    let one = only_one c.args.trees.now c.only-item.result (omega (arith, c.in-len1.len_at_least)) (omega (arith, c.in-len1.len_below)) c.only-item.is in
    let sound = only_sound c.args.frame.now c.args.trees.now c.only-item.result one c.requires.sound in
    let fits = only_fits c.args.frame.now c.args.trees.now c.only-item.result one c.requires.fits in
    (search rules, (search rules, (search rules, (sound, (fits, (c.requires.ready, c.requires.invokes))))))

pub block-returns-then-not-is_label-clause-did : goal.block-returns-then-not-is_label-clause-did
block-returns-then-not-is_label-clause-did g t c =
    let M = g.P.Probe.leads in let N = g.met.P.Probe.stays in let J = g.met.P.Probe.joins in
    only_ran c.args.frame.now c.args.trees.now c.only-item.result
    (only_one c.args.trees.now c.only-item.result (omega (arith, c.in-len1.len_at_least)) (omega (arith, c.in-len1.len_below)) c.only-item.is)
    M N J c.args.store.now c.simple.new.store _ c.args.probe.now c.simple.new.probe (sym c.is_label.ensures ∙ c.if-not-is_label.true) c.simple.ensures.did

-- ---- what the program's own parts need

pub act-value-requires-clause-sound : goal.act-value-requires-clause-sound
act-value-requires-clause-sound g t c =
    let h = rw (c.in-Switch.is, view_switch) at c.requires.sound in
    subst (λ e. IsExpression e (scope_in c.args.frame.now)) (expression_erases c.in-Switch.controlling.now) h.0

pub act-declaration-requires-clause-sound : goal.act-declaration-requires-clause-sound
act-declaration-requires-clause-sound g t c =
    let h = rw (c.in-Declaration.is, view_declaration) at c.requires.sound in
    subst (λ l. AreDeclarators l (scope_in c.args.frame.now)) (declarators_erase c.in-Declaration.declarators.now) h

pub act-for_start-requires-clause-sound : goal.act-for_start-requires-clause-sound
act-for_start-requires-clause-sound g t c =
    let h = rw (c.in-For.is, view_for) at c.requires.sound in
    subst (λ s. IsAnyStart s (scope_in c.args.frame.now)) (start_erases c.in-For.start.now) h.0

pub act-return_statement-requires-clause-sound : goal.act-return_statement-requires-clause-sound
act-return_statement-requires-clause-sound g t c =
    let h = rw (c.in-Return.is, view_return) at c.requires.sound in
    subst (λ r. IsReturn r (scope_in c.args.frame.now).result (scope_in c.args.frame.now)) (return_erases c.in-Return.value.now) h

-- ---- the items of a body

pub statements-loop-tree-init : goal.statements-loop-tree-init
statements-loop-tree-init g t c =
    running_start g.P.Probe.bits g.P.Probe.leads g.met.P.Probe.stays g.met.P.Probe.joins c.args.frame.now c.args.trees.now c.args.seek c.args.store.now c.args.probe.now
    c.requires.ready c.requires.sound c.requires.fits

pub statements-returns-in_err-next-clause-did : goal.statements-returns-in_err-next-clause-did
statements-returns-in_err-next-clause-did g t c =
    let i = running_here g.P.Probe.bits g.P.Probe.leads g.met.P.Probe.stays g.met.P.Probe.joins c.args.frame.now c.args.trees.now c.args.seek c.loop-tree.tree-index c.tree-item.result c.loop-tree.sought
    c.args.store.now c.loop-tree.store c.args.probe.now c.loop-tree.probe c.loop-tree-test.true c.tree-item.is c.loop-tree.invariant in
    rw c.from_residual.ensures
    (running_end g.P.Probe.bits g.P.Probe.leads g.met.P.Probe.stays g.met.P.Probe.joins c.args.frame.now c.args.trees.now c.args.seek (drop (c.loop-tree.tree-index + 1) c.args.trees.now) c.tree-item.result
    c.loop-tree.sought c.args.store.now c.loop-tree.store c.item.new.store c.args.probe.now c.loop-tree.probe c.item.new.probe i c.in_err-next.ensures.did)

pub statements-returns-in_err-next-clause-bits : goal.statements-returns-in_err-next-clause-bits
statements-returns-in_err-next-clause-bits g t c = c.in_err-next.ensures.bits ∙ c.loop-tree.invariant.bits_same

pub statements-returns-in_err-next-clause-limits : goal.statements-returns-in_err-next-clause-limits
statements-returns-in_err-next-clause-limits g t c = c.in_err-next.ensures.limits ∙ c.loop-tree.invariant.limits_same

pub statements-returns-in-End-clause-did : goal.statements-returns-in-End-clause-did
statements-returns-in-End-clause-did g t c =
    let i = running_here g.P.Probe.bits g.P.Probe.leads g.met.P.Probe.stays g.met.P.Probe.joins c.args.frame.now c.args.trees.now c.args.seek c.loop-tree.tree-index c.tree-item.result c.loop-tree.sought
    c.args.store.now c.loop-tree.store c.args.probe.now c.loop-tree.probe c.loop-tree-test.true c.tree-item.is c.loop-tree.invariant in
    let d = rw c.in-End.is at c.in_ok-next.ensures.did in
    running_out g.P.Probe.bits g.P.Probe.leads g.met.P.Probe.stays g.met.P.Probe.joins c.args.frame.now c.args.trees.now c.args.seek (drop (c.loop-tree.tree-index + 1) c.args.trees.now) c.tree-item.result
    c.loop-tree.sought c.args.store.now c.loop-tree.store c.item.new.store c.args.probe.now c.loop-tree.probe c.item.new.probe i (flow_of c.in-End.flow c.item.new.store) d

pub statements-returns-in-End-clause-typed : goal.statements-returns-in-End-clause-typed
statements-returns-in-End-clause-typed g t c = rw c.in-End.is at c.in_ok-next.ensures.typed

pub statements-returns-in-End-clause-kept : goal.statements-returns-in-End-clause-kept
statements-returns-in-End-clause-kept g t c = kept_then _ _ _ _ _ c.loop-tree.invariant.kept c.in_ok-next.ensures.kept

pub statements-returns-in-End-clause-bits : goal.statements-returns-in-End-clause-bits
statements-returns-in-End-clause-bits g t c = c.in_ok-next.ensures.bits ∙ c.loop-tree.invariant.bits_same

pub statements-returns-in-End-clause-limits : goal.statements-returns-in-End-clause-limits
statements-returns-in-End-clause-limits g t c = c.in_ok-next.ensures.limits ∙ c.loop-tree.invariant.limits_same

pub statements-loop-tree-preserved : goal.statements-loop-tree-preserved
statements-loop-tree-preserved g t c =
    let i = running_here g.P.Probe.bits g.P.Probe.leads g.met.P.Probe.stays g.met.P.Probe.joins c.args.frame.now c.args.trees.now c.args.seek c.loop-tree.tree-index c.tree-item.result c.loop-tree.sought
    c.args.store.now c.loop-tree.store c.args.probe.now c.loop-tree.probe c.loop-tree-test.true c.tree-item.is c.loop-tree.invariant in
    let d = rw c.in-Item.is at c.in_ok-next.ensures.did in
    running_step g.P.Probe.bits g.P.Probe.leads g.met.P.Probe.stays g.met.P.Probe.joins c.args.frame.now c.args.trees.now c.args.seek (drop (c.loop-tree.tree-index + 1) c.args.trees.now) c.tree-item.result
    c.loop-tree.sought c.args.store.now c.loop-tree.store c.item.new.store c.args.probe.now c.loop-tree.probe c.item.new.probe i c.in-Item.following d
    c.in_ok-next.ensures.kept c.in_ok-next.ensures.bits c.in_ok-next.ensures.limits

pub statements-returns-clause-did : goal.statements-returns-clause-did
statements-returns-clause-did g t c =
    let i = running_last g.P.Probe.bits g.P.Probe.leads g.met.P.Probe.stays g.met.P.Probe.joins c.args.frame.now c.args.trees.now c.args.seek c.loop-tree.tree-index c.loop-tree.sought
    c.args.store.now c.loop-tree.store c.args.probe.now c.loop-tree.probe c.loop-tree-test.false c.loop-tree.invariant in
    running_done g.P.Probe.bits g.P.Probe.leads g.met.P.Probe.stays g.met.P.Probe.joins c.args.frame.now c.args.trees.now c.args.seek c.loop-tree.sought
    c.args.store.now c.loop-tree.store c.args.probe.now c.loop-tree.probe i

pub statements-returns-clause-kept : goal.statements-returns-clause-kept
statements-returns-clause-kept g t c = c.loop-tree.invariant.kept

pub statements-returns-clause-bits : goal.statements-returns-clause-bits
statements-returns-clause-bits g t c = c.loop-tree.invariant.bits_same

pub statements-returns-clause-limits : goal.statements-returns-clause-limits
statements-returns-clause-limits g t c = c.loop-tree.invariant.limits_same

-- ---- loops

pub repeat-loop-turned-init : goal.repeat-loop-turned-init
repeat-loop-turned-init g t c =
    let W = activation_of c.args.frame.now in
    turning_start g.P.Probe.bits g.P.Probe.leads g.met.P.Probe.stays g.met.P.Probe.joins c.args.frame.now
    (does.loop_test W (option_map (λ e. prepared.test_of e.now) c.args.test)) (does.run W (prepared.statement_of c.args.body.now)) (does.perform_all W (map prepared.effect_of c.args.step.now))
    c.args.store.now c.args.probe.now c.requires.ready

pub repeat-returns-in_err-turned-clause-did : goal.repeat-returns-in_err-turned-clause-did
repeat-returns-in_err-turned-clause-did g t c =
    let W = activation_of c.args.frame.now in
    rw c.from_residual.ensures
    (turning_end g.P.Probe.bits g.P.Probe.leads g.met.P.Probe.stays g.met.P.Probe.joins c.args.frame.now
    (does.loop_test W (option_map (λ e. prepared.test_of e.now) c.args.test)) (does.run W (prepared.statement_of c.args.body.now)) (does.perform_all W (map prepared.effect_of c.args.step.now))
    c.args.store.now c.loop-turned.store c.turn.new.store c.args.probe.now c.loop-turned.probe c.turn.new.probe c.loop-turned.invariant c.in_err-turned.ensures.did)

pub repeat-returns-in_err-turned-clause-bits : goal.repeat-returns-in_err-turned-clause-bits
repeat-returns-in_err-turned-clause-bits g t c = c.in_err-turned.ensures.bits ∙ c.loop-turned.invariant.bits_same

pub repeat-returns-in_err-turned-clause-limits : goal.repeat-returns-in_err-turned-clause-limits
repeat-returns-in_err-turned-clause-limits g t c = c.in_err-turned.ensures.limits ∙ c.loop-turned.invariant.limits_same

pub repeat-returns-in-Some-clause-did : goal.repeat-returns-in-Some-clause-did
repeat-returns-in-Some-clause-did g t c =
    let W = activation_of c.args.frame.now in
    let d = rw c.in-Some.is at c.in_ok-turned.ensures.did in
    turning_out g.P.Probe.bits g.P.Probe.leads g.met.P.Probe.stays g.met.P.Probe.joins c.args.frame.now
    (does.loop_test W (option_map (λ e. prepared.test_of e.now) c.args.test)) (does.run W (prepared.statement_of c.args.body.now)) (does.perform_all W (map prepared.effect_of c.args.step.now))
    c.args.store.now c.loop-turned.store c.turn.new.store c.args.probe.now c.loop-turned.probe c.turn.new.probe (flow_of c.in-Some.flow c.turn.new.store) c.loop-turned.invariant d

pub repeat-returns-in-Some-clause-typed : goal.repeat-returns-in-Some-clause-typed
repeat-returns-in-Some-clause-typed g t c = rw c.in-Some.is at c.in_ok-turned.ensures.typed

pub repeat-returns-in-Some-clause-kept : goal.repeat-returns-in-Some-clause-kept
repeat-returns-in-Some-clause-kept g t c = kept_then _ _ _ _ _ c.loop-turned.invariant.kept c.in_ok-turned.ensures.kept

pub repeat-returns-in-Some-clause-bits : goal.repeat-returns-in-Some-clause-bits
repeat-returns-in-Some-clause-bits g t c = c.in_ok-turned.ensures.bits ∙ c.loop-turned.invariant.bits_same

pub repeat-returns-in-Some-clause-limits : goal.repeat-returns-in-Some-clause-limits
repeat-returns-in-Some-clause-limits g t c = c.in_ok-turned.ensures.limits ∙ c.loop-turned.invariant.limits_same

pub repeat-loop-turned-preserved : goal.repeat-loop-turned-preserved
repeat-loop-turned-preserved g t c =
    let W = activation_of c.args.frame.now in
    let d = rw c.in_default.is at c.in_ok-turned.ensures.did in
    turning_step g.P.Probe.bits g.P.Probe.leads g.met.P.Probe.stays g.met.P.Probe.joins c.args.frame.now
    (does.loop_test W (option_map (λ e. prepared.test_of e.now) c.args.test)) (does.run W (prepared.statement_of c.args.body.now)) (does.perform_all W (map prepared.effect_of c.args.step.now))
    c.args.store.now c.loop-turned.store c.turn.new.store c.args.probe.now c.loop-turned.probe c.turn.new.probe c.loop-turned.invariant d
    c.in_ok-turned.ensures.kept c.in_ok-turned.ensures.less c.in_ok-turned.ensures.bits c.in_ok-turned.ensures.limits

-- ---- a turn

pub turn-returns-in_err-goes_on-clause-did : goal.turn-returns-in_err-goes_on-clause-did
turn-returns-in_err-goes_on-clause-did g t c =
    let M = g.P.Probe.leads in let N = g.met.P.Probe.stays in let J = g.met.P.Probe.joins in
    let W = activation_of c.args.frame.now in
    rw c.from_residual.ensures
    (did_turn_end M N J (does.loop_test W (option_map (λ e. prepared.test_of e.now) c.args.test)) (does.run W (prepared.statement_of c.args.body.now)) (does.perform_all W (map prepared.effect_of c.args.step.now))
    (state_of c.args.store.now) c.turn_begins.new.store c.args.probe.now c.turn_begins.new.probe c.in_err-goes_on.ensures.did)

pub turn-returns-then-not-goes_on-clause-did : goal.turn-returns-then-not-goes_on-clause-did
turn-returns-then-not-goes_on-clause-did g t c =
    let M = g.P.Probe.leads in let N = g.met.P.Probe.stays in let J = g.met.P.Probe.joins in
    let W = activation_of c.args.frame.now in
    did_turn_over M N J (does.loop_test W (option_map (λ e. prepared.test_of e.now) c.args.test)) (does.run W (prepared.statement_of c.args.body.now)) (does.perform_all W (map prepared.effect_of c.args.step.now))
    (state_of c.args.store.now) c.in_ok-goes_on.goes_on c.turn_begins.new.store c.args.probe.now c.turn_begins.new.probe c.in_ok-goes_on.ensures.did c.if-not-goes_on.true

pub turn-returns-in_err-flow-clause-did : goal.turn-returns-in_err-flow-clause-did
turn-returns-in_err-flow-clause-did g t c =
    let M = g.P.Probe.leads in let N = g.met.P.Probe.stays in let J = g.met.P.Probe.joins in
    let W = activation_of c.args.frame.now in
    rw c.from_residual-in_err-flow.ensures
    (did_turn_body_end M N J (does.loop_test W (option_map (λ e. prepared.test_of e.now) c.args.test)) (does.run W (prepared.statement_of c.args.body.now)) (does.perform_all W (map prepared.effect_of c.args.step.now))
    (state_of c.args.store.now) c.in_ok-goes_on.goes_on c.turn_begins.new.store c.statement.new.store c.args.probe.now c.turn_begins.new.probe c.statement.new.probe c.in_ok-goes_on.ensures.did c.if-not-goes_on.false
    c.in_err-flow.ensures.did)

pub turn-returns-in-Some-clause-did : goal.turn-returns-in-Some-clause-did
turn-returns-in-Some-clause-did g t c =
    let M = g.P.Probe.leads in let N = g.met.P.Probe.stays in let J = g.met.P.Probe.joins in
    let W = activation_of c.args.frame.now in
    did_turn_out M N J (does.loop_test W (option_map (λ e. prepared.test_of e.now) c.args.test)) (does.run W (prepared.statement_of c.args.body.now)) (does.perform_all W (map prepared.effect_of c.args.step.now))
    (state_of c.args.store.now) c.in_ok-goes_on.goes_on c.turn_begins.new.store c.statement.new.store c.args.probe.now c.turn_begins.new.probe c.statement.new.probe c.in_ok-goes_on.ensures.did c.if-not-goes_on.false
    c.in_ok-flow.flow c.in_ok-flow.ensures.did c.in-Some.end (sym c.loop_end.ensures ∙ c.in-Some.is)

pub turn-returns-in-Some-clause-typed : goal.turn-returns-in-Some-clause-typed
turn-returns-in-Some-clause-typed g t c =
    end_typed (scope_in c.args.frame.now) (activation_of c.args.frame.now) c.in_ok-flow.flow c.in-Some.end c.statement.new.store.given c.in_ok-flow.ensures.typed (sym c.loop_end.ensures ∙ c.in-Some.is)

pub turn-returns-in-Some-clause-kept : goal.turn-returns-in-Some-clause-kept
turn-returns-in-Some-clause-kept g t c = kept_then _ _ _ _ _ c.in_ok-goes_on.ensures.kept c.in_ok-flow.ensures.kept

pub turn-returns-in-Some-clause-less : goal.turn-returns-in-Some-clause-less
turn-returns-in-Some-clause-less g t c = omega (arith, c.in_ok-goes_on.ensures.less, c.in_ok-flow.ensures.kept.fuel)

pub turn-perform_all-requires-clause-ready : goal.turn-perform_all-requires-clause-ready
turn-perform_all-requires-clause-ready g t c =
    ready_kept c.args.frame.now c.args.store.now c.statement.new.store _ _ c.requires.ready (kept_then _ _ _ _ _ c.in_ok-goes_on.ensures.kept c.in_ok-flow.ensures.kept) (c.in_ok-flow.ensures.bits ∙ c.in_ok-goes_on.ensures.bits)

pub turn-returns-in_err-perform_all-clause-did : goal.turn-returns-in_err-perform_all-clause-did
turn-returns-in_err-perform_all-clause-did g t c =
    let M = g.P.Probe.leads in let N = g.met.P.Probe.stays in let J = g.met.P.Probe.joins in
    let W = activation_of c.args.frame.now in
    rw c.from_residual-in_err-perform_all.ensures
    (did_turn_step_end M N J (does.loop_test W (option_map (λ e. prepared.test_of e.now) c.args.test)) (does.run W (prepared.statement_of c.args.body.now)) (does.perform_all W (map prepared.effect_of c.args.step.now))
    (state_of c.args.store.now) c.in_ok-goes_on.goes_on c.turn_begins.new.store c.statement.new.store c.args.probe.now c.turn_begins.new.probe c.statement.new.probe c.in_ok-goes_on.ensures.did c.if-not-goes_on.false
    c.in_ok-flow.flow c.in_ok-flow.ensures.did c.perform_all.new.store c.perform_all.new.probe (sym c.loop_end.ensures ∙ c.in_default.is) c.in_err-perform_all.ensures.did)

pub turn-returns-clause-did : goal.turn-returns-clause-did
turn-returns-clause-did g t c =
    let M = g.P.Probe.leads in let N = g.met.P.Probe.stays in let J = g.met.P.Probe.joins in
    let W = activation_of c.args.frame.now in
    did_turn_on M N J (does.loop_test W (option_map (λ e. prepared.test_of e.now) c.args.test)) (does.run W (prepared.statement_of c.args.body.now)) (does.perform_all W (map prepared.effect_of c.args.step.now))
    (state_of c.args.store.now) c.in_ok-goes_on.goes_on c.turn_begins.new.store c.statement.new.store c.args.probe.now c.turn_begins.new.probe c.statement.new.probe c.in_ok-goes_on.ensures.did c.if-not-goes_on.false
    c.in_ok-flow.flow c.in_ok-flow.ensures.did c.perform_all.new.store c.perform_all.new.probe (sym c.loop_end.ensures ∙ c.in_default.is) c.in_ok-perform_all.ensures.did

pub turn-returns-clause-kept : goal.turn-returns-clause-kept
turn-returns-clause-kept g t c = kept_then _ _ _ _ _ (kept_then _ _ _ _ _ c.in_ok-goes_on.ensures.kept c.in_ok-flow.ensures.kept) c.in_ok-perform_all.ensures.kept

pub turn-returns-clause-less : goal.turn-returns-clause-less
turn-returns-clause-less g t c = omega (arith, c.in_ok-goes_on.ensures.less, c.in_ok-flow.ensures.kept.fuel, c.in_ok-perform_all.ensures.kept.fuel)

-- ---- what a statement does after its unit

pub act-returns-in_err-holds-in-If-clause-did : goal.act-returns-in_err-holds-in-If-clause-did
act-returns-in_err-holds-in-If-clause-did g t c =
    let M = g.P.Probe.leads in let N = g.met.P.Probe.stays in let J = g.met.P.Probe.joins in
    let W = activation_of c.args.frame.now in
    rw (c.from_residual.ensures, c.in-If.is, view_if)
    (did_if_end M N J (evaluate W (prepared.test_of c.in-If.test)) (does.run W (prepared.statement_of c.in-If.chosen.value)) (gives Completed) (state_of c.args.store.now)
    _ _ _ c.in_err-holds-in-If.ensures.did)

pub act-returns-then-holds-clause-did : goal.act-returns-then-holds-clause-did
act-returns-then-holds-clause-did g t c =
    let M = g.P.Probe.leads in let N = g.met.P.Probe.stays in let J = g.met.P.Probe.joins in
    let W = activation_of c.args.frame.now in
    let k = rw c.deref-then-holds.ensures at c.statement.ensures.did in
    rw (c.in-If.is, view_if)
    (did_if_then M N J (evaluate W (prepared.test_of c.in-If.test)) (does.run W (prepared.statement_of c.in-If.chosen.value)) (gives Completed) (state_of c.args.store.now)
    c.in_ok-holds-in-If.holds _ _ _ c.in_ok-holds-in-If.ensures.did _ _ _ c.if-holds.true k)

pub act-returns-else-holds-clause-did : goal.act-returns-else-holds-clause-did
act-returns-else-holds-clause-did g t c =
    let M = g.P.Probe.leads in let N = g.met.P.Probe.stays in let J = g.met.P.Probe.joins in
    let W = activation_of c.args.frame.now in
    rw (c.in-If.is, view_if)
    (did_if_else M N J (evaluate W (prepared.test_of c.in-If.test)) (does.run W (prepared.statement_of c.in-If.chosen.value)) (gives Completed) (state_of c.args.store.now)
    c.in_ok-holds-in-If.holds _ _ _ c.in_ok-holds-in-If.ensures.did (Some Completed) c.tested.new.store c.tested.new.probe c.if-holds.false (did_gives M N J Completed c.tested.new.store c.tested.new.probe))

pub act-returns-then-holds-clause-kept : goal.act-returns-then-holds-clause-kept
act-returns-then-holds-clause-kept g t c = if_kept _ _ _ _ _ c.statement.result c.in_ok-holds-in-If.ensures.kept c.statement.ensures.kept

pub act-returns-in_err-is_true-in-IfElse-clause-did : goal.act-returns-in_err-is_true-in-IfElse-clause-did
act-returns-in_err-is_true-in-IfElse-clause-did g t c =
    let M = g.P.Probe.leads in let N = g.met.P.Probe.stays in let J = g.met.P.Probe.joins in
    let W = activation_of c.args.frame.now in
    rw (c.from_residual-in_err-is_true-in-IfElse.ensures, c.in-IfElse.is, view_if_else)
    (did_if_end M N J (evaluate W (prepared.test_of c.in-IfElse.test)) (does.run W (prepared.statement_of c.in-IfElse.chosen.value)) (does.run W (prepared.statement_of c.in-IfElse.other.value)) (state_of c.args.store.now)
    _ _ _ c.in_err-is_true-in-IfElse.ensures.did)

pub act-returns-then-is_true-clause-did : goal.act-returns-then-is_true-clause-did
act-returns-then-is_true-clause-did g t c =
    let M = g.P.Probe.leads in let N = g.met.P.Probe.stays in let J = g.met.P.Probe.joins in
    let W = activation_of c.args.frame.now in
    let k = rw c.deref-then-is_true.ensures at c.statement-then-is_true.ensures.did in
    rw (c.in-IfElse.is, view_if_else)
    (did_if_then M N J (evaluate W (prepared.test_of c.in-IfElse.test)) (does.run W (prepared.statement_of c.in-IfElse.chosen.value)) (does.run W (prepared.statement_of c.in-IfElse.other.value)) (state_of c.args.store.now)
    c.in_ok-is_true-in-IfElse.is_true _ _ _ c.in_ok-is_true-in-IfElse.ensures.did _ _ _ c.if-is_true.true k)

pub act-returns-else-is_true-clause-did : goal.act-returns-else-is_true-clause-did
act-returns-else-is_true-clause-did g t c =
    let M = g.P.Probe.leads in let N = g.met.P.Probe.stays in let J = g.met.P.Probe.joins in
    let W = activation_of c.args.frame.now in
    let k = rw c.deref-else-is_true.ensures at c.statement-else-is_true.ensures.did in
    rw (c.in-IfElse.is, view_if_else)
    (did_if_else M N J (evaluate W (prepared.test_of c.in-IfElse.test)) (does.run W (prepared.statement_of c.in-IfElse.chosen.value)) (does.run W (prepared.statement_of c.in-IfElse.other.value)) (state_of c.args.store.now)
    c.in_ok-is_true-in-IfElse.is_true _ _ _ c.in_ok-is_true-in-IfElse.ensures.did _ _ _ c.if-is_true.false k)

pub act-returns-then-is_true-clause-kept : goal.act-returns-then-is_true-clause-kept
act-returns-then-is_true-clause-kept g t c = if_kept _ _ _ _ _ c.statement-then-is_true.result c.in_ok-is_true-in-IfElse.ensures.kept c.statement-then-is_true.ensures.kept

pub act-returns-else-is_true-clause-kept : goal.act-returns-else-is_true-clause-kept
act-returns-else-is_true-clause-kept g t c = if_kept _ _ _ _ _ c.statement-else-is_true.result c.in_ok-is_true-in-IfElse.ensures.kept c.statement-else-is_true.ensures.kept

pub act-returns-in_err-word-in-Switch-clause-did : goal.act-returns-in_err-word-in-Switch-clause-did
act-returns-in_err-word-in-Switch-clause-did g t c =
    let M = g.P.Probe.leads in let N = g.met.P.Probe.stays in let J = g.met.P.Probe.joins in
    let W = activation_of c.args.frame.now in
    let items = view.statements_from (map prepared.statement_of c.in-Switch.items.items) in
    rw (c.from_residual-in_err-word-in-Switch.ensures, c.in-Switch.is, view_switch)
    (did_switch_stop M N J (evaluate W (view.expression_of c.in-Switch.controlling.now)) (labels_in items) (does.run_from W items) (mark_does W c.in-Switch.absent) (state_of c.args.store.now)
    _ _ _ c.in_err-word-in-Switch.ensures.did)

pub act-returns-in_err-flow-in-Switch-clause-did : goal.act-returns-in_err-flow-in-Switch-clause-did
act-returns-in_err-flow-in-Switch-clause-did g t c =
    let M = g.P.Probe.leads in let N = g.met.P.Probe.stays in let J = g.met.P.Probe.joins in
    let W = activation_of c.args.frame.now in
    let items = view.statements_from (map prepared.statement_of c.in-Switch.items.items) in
    let of = rw c.integer_type.ensures at c.sought-seek.ensures in
    let looked = rw c.deref-in-Switch.ensures.value at of in
    let k = rw c.deref-in-Switch-2.ensures.value at c.in_err-flow-in-Switch.ensures.did in
    rw (c.from_residual-in_err-flow-in-Switch.ensures, c.in-Switch.is, view_switch)
    (did_switch_end M N J (evaluate W (view.expression_of c.in-Switch.controlling.now)) (labels_in items) (does.run_from W items) (mark_does W c.in-Switch.absent) (state_of c.args.store.now)
    (number_of (type_of (plain.expression_of c.in-Switch.controlling.now)) c.in_ok-word-in-Switch.word) (seek_of c.sought-seek.result) _ _ _ _ _ c.in_ok-word-in-Switch.ensures.did looked k)

pub act-switch_ends-requires-clause-fits : goal.act-switch_ends-requires-clause-fits
act-switch_ends-requires-clause-fits g t c =
    let f = rw (c.in-Switch.is, view_switch) at c.requires.fits in
    absent_fits c.args.frame.now.function.now.registers _ c.in-Switch.absent f.2

pub act-switch_ends-requires-clause-ready : goal.act-switch_ends-requires-clause-ready
act-switch_ends-requires-clause-ready g t c =
    ready_kept c.args.frame.now c.args.store.now c.statements-in-Switch.new.store _ _ c.requires.ready (kept_then _ _ _ _ _ c.in_ok-word-in-Switch.ensures.kept c.in_ok-flow-in-Switch.ensures.kept)
    (c.in_ok-flow-in-Switch.ensures.bits ∙ c.in_ok-word-in-Switch.ensures.bits)

pub act-returns-in_ok-flow-in-Switch-clause-did : goal.act-returns-in_ok-flow-in-Switch-clause-did
act-returns-in_ok-flow-in-Switch-clause-did g t c =
    let M = g.P.Probe.leads in let N = g.met.P.Probe.stays in let J = g.met.P.Probe.joins in
    let W = activation_of c.args.frame.now in
    let items = view.statements_from (map prepared.statement_of c.in-Switch.items.items) in
    let of = rw c.integer_type.ensures at c.sought-seek.ensures in
    let looked = rw c.deref-in-Switch.ensures.value at of in
    let k = rw c.deref-in-Switch-2.ensures.value at c.in_ok-flow-in-Switch.ensures.did in
    rw (c.in-Switch.is, view_switch)
    (did_switch M N J (evaluate W (view.expression_of c.in-Switch.controlling.now)) (labels_in items) (does.run_from W items) (mark_does W c.in-Switch.absent) (state_of c.args.store.now)
    (number_of (type_of (plain.expression_of c.in-Switch.controlling.now)) c.in_ok-word-in-Switch.word) (seek_of c.sought-seek.result) (flow_of c.in_ok-flow-in-Switch.flow c.statements-in-Switch.new.store) _ _ _ _ _ _ _ _
    c.in_ok-word-in-Switch.ensures.did looked k c.switch_ends.ensures.did)

pub act-returns-in_ok-flow-in-Switch-clause-typed : goal.act-returns-in_ok-flow-in-Switch-clause-typed
act-returns-in_ok-flow-in-Switch-clause-typed g t c = c.switch_ends.ensures.typed _ _ c.in_ok-flow-in-Switch.ensures.typed

pub act-returns-in_ok-flow-in-Switch-clause-kept : goal.act-returns-in_ok-flow-in-Switch-clause-kept
act-returns-in_ok-flow-in-Switch-clause-kept g t c =
    kept_then _ _ _ _ _ (kept_then _ _ _ _ _ c.in_ok-word-in-Switch.ensures.kept c.in_ok-flow-in-Switch.ensures.kept) c.switch_ends.ensures.kept

pub act-returns-in_ok-for_start-in-For-clause-did : goal.act-returns-in_ok-for_start-in-For-clause-did
act-returns-in_ok-for_start-in-For-clause-did g t c =
    let M = g.P.Probe.leads in let N = g.met.P.Probe.stays in let J = g.met.P.Probe.joins in
    let W = activation_of c.args.frame.now in
    let a = rw c.lent_test.ensures at c.repeat.ensures.did in
    let b = rw (c.deref-in-For.ensures, c.deref-in-For-2.ensures.value) at a in
    rw (c.in-For.is, view_for)
    (did_then M N J (does.start_loop W (view.start_of c.in-For.start.now) (state_of c.args.store.now)) _ tt _ _ _ _ _ _ c.in_ok-for_start-in-For.ensures.did b)

pub act-returns-in_ok-for_start-in-For-clause-kept : goal.act-returns-in_ok-for_start-in-For-clause-kept
act-returns-in_ok-for_start-in-For-clause-kept g t c = if_kept _ _ _ _ _ c.repeat.result c.in_ok-for_start-in-For.ensures.kept c.repeat.ensures.kept

pub act-returns-in-Some-clause-did : goal.act-returns-in-Some-clause-did
act-returns-in-Some-clause-did g t c =
    let M = g.P.Probe.leads in let N = g.met.P.Probe.stays in let J = g.met.P.Probe.joins in
    let W = activation_of c.args.frame.now in
    let k = rw c.deref-in-DoWhile.ensures at c.in_ok-ended-in-DoWhile.ensures.did in
    rw (c.in-DoWhile.is, view_do)
    (did_do_out M N J (does.run W (prepared.statement_of c.in-DoWhile.body.value)) (as_does is_true (evaluate W (prepared.test_of c.in-DoWhile.test))) (state_of c.args.store.now)
    c.in_ok-ended-in-DoWhile.ended _ _ _ k c.in-Some.end (sym c.loop_end.ensures ∙ c.in-Some.is))

pub act-returns-in-Some-clause-typed : goal.act-returns-in-Some-clause-typed
act-returns-in-Some-clause-typed g t c =
    end_typed _ _ c.in_ok-ended-in-DoWhile.ended c.in-Some.end _ c.in_ok-ended-in-DoWhile.ensures.typed (sym c.loop_end.ensures ∙ c.in-Some.is)

pub act-returns-in-None-clause-did : goal.act-returns-in-None-clause-did
act-returns-in-None-clause-did g t c =
    let M = g.P.Probe.leads in let N = g.met.P.Probe.stays in let J = g.met.P.Probe.joins in
    let W = activation_of c.args.frame.now in
    let k = rw c.deref-in-DoWhile.ensures at c.in_ok-ended-in-DoWhile.ensures.did in
    let a = rw c.deref-in-None.ensures at c.repeat-in-None.ensures.did in
    rw (c.in-DoWhile.is, view_do)
    (did_do M N J (does.run W (prepared.statement_of c.in-DoWhile.body.value)) (as_does is_true (evaluate W (prepared.test_of c.in-DoWhile.test))) (state_of c.args.store.now)
    c.in_ok-ended-in-DoWhile.ended _ _ _ k _ _ _ (sym c.loop_end.ensures ∙ c.in-None.is) a)

pub act-returns-in-None-clause-kept : goal.act-returns-in-None-clause-kept
act-returns-in-None-clause-kept g t c = if_kept _ _ _ _ _ c.repeat-in-None.result c.in_ok-ended-in-DoWhile.ensures.kept c.repeat-in-None.ensures.kept

-- ---- what is the same at each end

pub repeat-returns-in_err-turned-clause-typed : goal.repeat-returns-in_err-turned-clause-typed
repeat-returns-in_err-turned-clause-typed g t c = if_none _ _ c.from_residual.ensures

pub repeat-returns-in_err-turned-clause-kept : goal.repeat-returns-in_err-turned-clause-kept
repeat-returns-in_err-turned-clause-kept g t c = if_none _ _ c.from_residual.ensures

pub turn-returns-in_err-goes_on-clause-typed : goal.turn-returns-in_err-goes_on-clause-typed
turn-returns-in_err-goes_on-clause-typed g t c = if_none _ _ c.from_residual.ensures

pub turn-returns-in_err-goes_on-clause-less : goal.turn-returns-in_err-goes_on-clause-less
turn-returns-in_err-goes_on-clause-less g t c = if_none _ _ c.from_residual.ensures

pub turn-returns-in_err-goes_on-clause-kept : goal.turn-returns-in_err-goes_on-clause-kept
turn-returns-in_err-goes_on-clause-kept g t c = if_none _ _ c.from_residual.ensures

pub turn-returns-in_err-goes_on-clause-bits : goal.turn-returns-in_err-goes_on-clause-bits
turn-returns-in_err-goes_on-clause-bits g t c = c.in_err-goes_on.ensures.bits

pub turn-returns-in_err-goes_on-clause-limits : goal.turn-returns-in_err-goes_on-clause-limits
turn-returns-in_err-goes_on-clause-limits g t c = c.in_err-goes_on.ensures.limits

pub turn-returns-then-not-goes_on-clause-less : goal.turn-returns-then-not-goes_on-clause-less
turn-returns-then-not-goes_on-clause-less g t c = c.in_ok-goes_on.ensures.less

pub turn-returns-then-not-goes_on-clause-kept : goal.turn-returns-then-not-goes_on-clause-kept
turn-returns-then-not-goes_on-clause-kept g t c = c.in_ok-goes_on.ensures.kept

pub turn-returns-then-not-goes_on-clause-bits : goal.turn-returns-then-not-goes_on-clause-bits
turn-returns-then-not-goes_on-clause-bits g t c = c.in_ok-goes_on.ensures.bits

pub turn-returns-then-not-goes_on-clause-limits : goal.turn-returns-then-not-goes_on-clause-limits
turn-returns-then-not-goes_on-clause-limits g t c = c.in_ok-goes_on.ensures.limits

pub turn-returns-in_err-flow-clause-typed : goal.turn-returns-in_err-flow-clause-typed
turn-returns-in_err-flow-clause-typed g t c = if_none _ _ c.from_residual-in_err-flow.ensures

pub turn-returns-in_err-flow-clause-less : goal.turn-returns-in_err-flow-clause-less
turn-returns-in_err-flow-clause-less g t c = if_none _ _ c.from_residual-in_err-flow.ensures

pub turn-returns-in_err-flow-clause-kept : goal.turn-returns-in_err-flow-clause-kept
turn-returns-in_err-flow-clause-kept g t c = if_none _ _ c.from_residual-in_err-flow.ensures

pub turn-returns-in_err-flow-clause-bits : goal.turn-returns-in_err-flow-clause-bits
turn-returns-in_err-flow-clause-bits g t c = c.in_err-flow.ensures.bits ∙ c.in_ok-goes_on.ensures.bits

pub turn-returns-in_err-flow-clause-limits : goal.turn-returns-in_err-flow-clause-limits
turn-returns-in_err-flow-clause-limits g t c = c.in_err-flow.ensures.limits ∙ c.in_ok-goes_on.ensures.limits

pub turn-returns-in-Some-clause-bits : goal.turn-returns-in-Some-clause-bits
turn-returns-in-Some-clause-bits g t c = c.in_ok-flow.ensures.bits ∙ c.in_ok-goes_on.ensures.bits

pub turn-returns-in-Some-clause-limits : goal.turn-returns-in-Some-clause-limits
turn-returns-in-Some-clause-limits g t c = c.in_ok-flow.ensures.limits ∙ c.in_ok-goes_on.ensures.limits

pub turn-returns-in_err-perform_all-clause-typed : goal.turn-returns-in_err-perform_all-clause-typed
turn-returns-in_err-perform_all-clause-typed g t c = if_none _ _ c.from_residual-in_err-perform_all.ensures

pub turn-returns-in_err-perform_all-clause-less : goal.turn-returns-in_err-perform_all-clause-less
turn-returns-in_err-perform_all-clause-less g t c = if_none _ _ c.from_residual-in_err-perform_all.ensures

pub turn-returns-in_err-perform_all-clause-kept : goal.turn-returns-in_err-perform_all-clause-kept
turn-returns-in_err-perform_all-clause-kept g t c = if_none _ _ c.from_residual-in_err-perform_all.ensures

pub turn-returns-in_err-perform_all-clause-bits : goal.turn-returns-in_err-perform_all-clause-bits
turn-returns-in_err-perform_all-clause-bits g t c = c.in_err-perform_all.ensures.bits ∙ c.in_ok-flow.ensures.bits ∙ c.in_ok-goes_on.ensures.bits

pub turn-returns-in_err-perform_all-clause-limits : goal.turn-returns-in_err-perform_all-clause-limits
turn-returns-in_err-perform_all-clause-limits g t c = c.in_err-perform_all.ensures.limits ∙ c.in_ok-flow.ensures.limits ∙ c.in_ok-goes_on.ensures.limits

pub turn-returns-clause-bits : goal.turn-returns-clause-bits
turn-returns-clause-bits g t c = c.in_ok-perform_all.ensures.bits ∙ c.in_ok-flow.ensures.bits ∙ c.in_ok-goes_on.ensures.bits

pub turn-returns-clause-limits : goal.turn-returns-clause-limits
turn-returns-clause-limits g t c = c.in_ok-perform_all.ensures.limits ∙ c.in_ok-flow.ensures.limits ∙ c.in_ok-goes_on.ensures.limits

pub other-returns-in_err-counted-clause-typed : goal.other-returns-in_err-counted-clause-typed
other-returns-in_err-counted-clause-typed g t c = if_none _ _ c.from_residual.ensures

pub other-returns-in_err-counted-clause-kept : goal.other-returns-in_err-counted-clause-kept
other-returns-in_err-counted-clause-kept g t c = if_none _ _ c.from_residual.ensures

pub other-returns-in_err-counted-clause-bits : goal.other-returns-in_err-counted-clause-bits
other-returns-in_err-counted-clause-bits g t c = c.in_err-counted.ensures.bits

pub other-returns-in_err-counted-clause-limits : goal.other-returns-in_err-counted-clause-limits
other-returns-in_err-counted-clause-limits g t c = c.in_err-counted.ensures.limits

pub other-returns-clause-typed : goal.other-returns-clause-typed
other-returns-clause-typed g t c = c.act.ensures.typed

pub other-returns-clause-bits : goal.other-returns-clause-bits
other-returns-clause-bits g t c = c.act.ensures.bits ∙ c.in_ok-counted.ensures.bits

pub other-returns-clause-limits : goal.other-returns-clause-limits
other-returns-clause-limits g t c = c.act.ensures.limits ∙ c.in_ok-counted.ensures.limits

pub item-returns-in_err-flow-clause-typed : goal.item-returns-in_err-flow-clause-typed
item-returns-in_err-flow-clause-typed g t c = if_none _ _ c.from_residual.ensures

pub item-returns-in_err-flow-clause-kept : goal.item-returns-in_err-flow-clause-kept
item-returns-in_err-flow-clause-kept g t c = if_none _ _ c.from_residual.ensures

pub item-returns-in_err-flow-clause-bits : goal.item-returns-in_err-flow-clause-bits
item-returns-in_err-flow-clause-bits g t c = c.in_err-flow.ensures.bits

pub item-returns-in_err-flow-clause-limits : goal.item-returns-in_err-flow-clause-limits
item-returns-in_err-flow-clause-limits g t c = c.in_err-flow.ensures.limits

pub item-returns-in-Some-clause-bits : goal.item-returns-in-Some-clause-bits
item-returns-in-Some-clause-bits g t c = c.at_label.ensures.bits

pub item-returns-in-Some-clause-limits : goal.item-returns-in-Some-clause-limits
item-returns-in-Some-clause-limits g t c = c.at_label.ensures.limits

pub item-returns-then-not-is_running-clause-bits : goal.item-returns-then-not-is_running-clause-bits
item-returns-then-not-is_running-clause-bits g t c = refl

pub item-returns-then-not-is_running-clause-limits : goal.item-returns-then-not-is_running-clause-limits
item-returns-then-not-is_running-clause-limits g t c = refl

pub item-returns-clause-kept : goal.item-returns-clause-kept
item-returns-clause-kept g t c = c.in_ok-flow.ensures.kept

pub item-returns-clause-bits : goal.item-returns-clause-bits
item-returns-clause-bits g t c = c.in_ok-flow.ensures.bits

pub item-returns-clause-limits : goal.item-returns-clause-limits
item-returns-clause-limits g t c = c.in_ok-flow.ensures.limits

pub statements-returns-in_err-next-clause-typed : goal.statements-returns-in_err-next-clause-typed
statements-returns-in_err-next-clause-typed g t c = if_none _ _ c.from_residual.ensures

pub statements-returns-in_err-next-clause-kept : goal.statements-returns-in_err-next-clause-kept
statements-returns-in_err-next-clause-kept g t c = if_none _ _ c.from_residual.ensures

pub act-returns-in_err-holds-in-If-clause-typed : goal.act-returns-in_err-holds-in-If-clause-typed
act-returns-in_err-holds-in-If-clause-typed g t c = if_none _ _ c.from_residual.ensures

pub act-returns-in_err-holds-in-If-clause-kept : goal.act-returns-in_err-holds-in-If-clause-kept
act-returns-in_err-holds-in-If-clause-kept g t c = if_none _ _ c.from_residual.ensures

pub act-returns-in_err-holds-in-If-clause-bits : goal.act-returns-in_err-holds-in-If-clause-bits
act-returns-in_err-holds-in-If-clause-bits g t c = c.in_err-holds-in-If.ensures.bits

pub act-returns-in_err-holds-in-If-clause-limits : goal.act-returns-in_err-holds-in-If-clause-limits
act-returns-in_err-holds-in-If-clause-limits g t c = c.in_err-holds-in-If.ensures.limits

pub act-returns-then-holds-clause-typed : goal.act-returns-then-holds-clause-typed
act-returns-then-holds-clause-typed g t c = c.statement.ensures.typed

pub act-returns-then-holds-clause-bits : goal.act-returns-then-holds-clause-bits
act-returns-then-holds-clause-bits g t c = c.statement.ensures.bits ∙ c.in_ok-holds-in-If.ensures.bits

pub act-returns-then-holds-clause-limits : goal.act-returns-then-holds-clause-limits
act-returns-then-holds-clause-limits g t c = c.statement.ensures.limits ∙ c.in_ok-holds-in-If.ensures.limits

pub act-returns-else-holds-clause-kept : goal.act-returns-else-holds-clause-kept
act-returns-else-holds-clause-kept g t c = c.in_ok-holds-in-If.ensures.kept

pub act-returns-else-holds-clause-bits : goal.act-returns-else-holds-clause-bits
act-returns-else-holds-clause-bits g t c = c.in_ok-holds-in-If.ensures.bits

pub act-returns-else-holds-clause-limits : goal.act-returns-else-holds-clause-limits
act-returns-else-holds-clause-limits g t c = c.in_ok-holds-in-If.ensures.limits

pub act-returns-in_err-is_true-in-IfElse-clause-typed : goal.act-returns-in_err-is_true-in-IfElse-clause-typed
act-returns-in_err-is_true-in-IfElse-clause-typed g t c = if_none _ _ c.from_residual-in_err-is_true-in-IfElse.ensures

pub act-returns-in_err-is_true-in-IfElse-clause-kept : goal.act-returns-in_err-is_true-in-IfElse-clause-kept
act-returns-in_err-is_true-in-IfElse-clause-kept g t c = if_none _ _ c.from_residual-in_err-is_true-in-IfElse.ensures

pub act-returns-in_err-is_true-in-IfElse-clause-bits : goal.act-returns-in_err-is_true-in-IfElse-clause-bits
act-returns-in_err-is_true-in-IfElse-clause-bits g t c = c.in_err-is_true-in-IfElse.ensures.bits

pub act-returns-in_err-is_true-in-IfElse-clause-limits : goal.act-returns-in_err-is_true-in-IfElse-clause-limits
act-returns-in_err-is_true-in-IfElse-clause-limits g t c = c.in_err-is_true-in-IfElse.ensures.limits

pub act-returns-then-is_true-clause-typed : goal.act-returns-then-is_true-clause-typed
act-returns-then-is_true-clause-typed g t c = c.statement-then-is_true.ensures.typed

pub act-returns-then-is_true-clause-bits : goal.act-returns-then-is_true-clause-bits
act-returns-then-is_true-clause-bits g t c = c.statement-then-is_true.ensures.bits ∙ c.in_ok-is_true-in-IfElse.ensures.bits

pub act-returns-then-is_true-clause-limits : goal.act-returns-then-is_true-clause-limits
act-returns-then-is_true-clause-limits g t c = c.statement-then-is_true.ensures.limits ∙ c.in_ok-is_true-in-IfElse.ensures.limits

pub act-returns-else-is_true-clause-typed : goal.act-returns-else-is_true-clause-typed
act-returns-else-is_true-clause-typed g t c = c.statement-else-is_true.ensures.typed

pub act-returns-else-is_true-clause-bits : goal.act-returns-else-is_true-clause-bits
act-returns-else-is_true-clause-bits g t c = c.statement-else-is_true.ensures.bits ∙ c.in_ok-is_true-in-IfElse.ensures.bits

pub act-returns-else-is_true-clause-limits : goal.act-returns-else-is_true-clause-limits
act-returns-else-is_true-clause-limits g t c = c.statement-else-is_true.ensures.limits ∙ c.in_ok-is_true-in-IfElse.ensures.limits

pub act-returns-in_err-word-in-Switch-clause-typed : goal.act-returns-in_err-word-in-Switch-clause-typed
act-returns-in_err-word-in-Switch-clause-typed g t c = if_none _ _ c.from_residual-in_err-word-in-Switch.ensures

pub act-returns-in_err-word-in-Switch-clause-kept : goal.act-returns-in_err-word-in-Switch-clause-kept
act-returns-in_err-word-in-Switch-clause-kept g t c = if_none _ _ c.from_residual-in_err-word-in-Switch.ensures

pub act-returns-in_err-word-in-Switch-clause-bits : goal.act-returns-in_err-word-in-Switch-clause-bits
act-returns-in_err-word-in-Switch-clause-bits g t c = c.in_err-word-in-Switch.ensures.bits

pub act-returns-in_err-word-in-Switch-clause-limits : goal.act-returns-in_err-word-in-Switch-clause-limits
act-returns-in_err-word-in-Switch-clause-limits g t c = c.in_err-word-in-Switch.ensures.limits

pub act-returns-in_err-flow-in-Switch-clause-typed : goal.act-returns-in_err-flow-in-Switch-clause-typed
act-returns-in_err-flow-in-Switch-clause-typed g t c = if_none _ _ c.from_residual-in_err-flow-in-Switch.ensures

pub act-returns-in_err-flow-in-Switch-clause-kept : goal.act-returns-in_err-flow-in-Switch-clause-kept
act-returns-in_err-flow-in-Switch-clause-kept g t c = if_none _ _ c.from_residual-in_err-flow-in-Switch.ensures

pub act-returns-in_err-flow-in-Switch-clause-bits : goal.act-returns-in_err-flow-in-Switch-clause-bits
act-returns-in_err-flow-in-Switch-clause-bits g t c = c.in_err-flow-in-Switch.ensures.bits ∙ c.in_ok-word-in-Switch.ensures.bits

pub act-returns-in_err-flow-in-Switch-clause-limits : goal.act-returns-in_err-flow-in-Switch-clause-limits
act-returns-in_err-flow-in-Switch-clause-limits g t c = c.in_err-flow-in-Switch.ensures.limits ∙ c.in_ok-word-in-Switch.ensures.limits

pub act-returns-in_ok-flow-in-Switch-clause-bits : goal.act-returns-in_ok-flow-in-Switch-clause-bits
act-returns-in_ok-flow-in-Switch-clause-bits g t c = c.switch_ends.ensures.bits ∙ c.in_ok-flow-in-Switch.ensures.bits ∙ c.in_ok-word-in-Switch.ensures.bits

pub act-returns-in_ok-flow-in-Switch-clause-limits : goal.act-returns-in_ok-flow-in-Switch-clause-limits
act-returns-in_ok-flow-in-Switch-clause-limits g t c = c.switch_ends.ensures.limits ∙ c.in_ok-flow-in-Switch.ensures.limits ∙ c.in_ok-word-in-Switch.ensures.limits

pub act-returns-in_err-for_start-in-For-clause-typed : goal.act-returns-in_err-for_start-in-For-clause-typed
act-returns-in_err-for_start-in-For-clause-typed g t c = if_none _ _ c.from_residual-in_err-for_start-in-For.ensures

pub act-returns-in_err-for_start-in-For-clause-kept : goal.act-returns-in_err-for_start-in-For-clause-kept
act-returns-in_err-for_start-in-For-clause-kept g t c = if_none _ _ c.from_residual-in_err-for_start-in-For.ensures

pub act-returns-in_err-for_start-in-For-clause-bits : goal.act-returns-in_err-for_start-in-For-clause-bits
act-returns-in_err-for_start-in-For-clause-bits g t c = c.in_err-for_start-in-For.ensures.bits

pub act-returns-in_err-for_start-in-For-clause-limits : goal.act-returns-in_err-for_start-in-For-clause-limits
act-returns-in_err-for_start-in-For-clause-limits g t c = c.in_err-for_start-in-For.ensures.limits

pub act-returns-in_ok-for_start-in-For-clause-typed : goal.act-returns-in_ok-for_start-in-For-clause-typed
act-returns-in_ok-for_start-in-For-clause-typed g t c = c.repeat.ensures.typed

pub act-returns-in_ok-for_start-in-For-clause-bits : goal.act-returns-in_ok-for_start-in-For-clause-bits
act-returns-in_ok-for_start-in-For-clause-bits g t c = c.repeat.ensures.bits ∙ c.in_ok-for_start-in-For.ensures.bits

pub act-returns-in_ok-for_start-in-For-clause-limits : goal.act-returns-in_ok-for_start-in-For-clause-limits
act-returns-in_ok-for_start-in-For-clause-limits g t c = c.repeat.ensures.limits ∙ c.in_ok-for_start-in-For.ensures.limits

pub act-returns-in_err-ended-in-DoWhile-clause-typed : goal.act-returns-in_err-ended-in-DoWhile-clause-typed
act-returns-in_err-ended-in-DoWhile-clause-typed g t c = if_none _ _ c.from_residual-in_err-ended-in-DoWhile.ensures

pub act-returns-in_err-ended-in-DoWhile-clause-kept : goal.act-returns-in_err-ended-in-DoWhile-clause-kept
act-returns-in_err-ended-in-DoWhile-clause-kept g t c = if_none _ _ c.from_residual-in_err-ended-in-DoWhile.ensures

pub act-returns-in_err-ended-in-DoWhile-clause-bits : goal.act-returns-in_err-ended-in-DoWhile-clause-bits
act-returns-in_err-ended-in-DoWhile-clause-bits g t c = c.in_err-ended-in-DoWhile.ensures.bits

pub act-returns-in_err-ended-in-DoWhile-clause-limits : goal.act-returns-in_err-ended-in-DoWhile-clause-limits
act-returns-in_err-ended-in-DoWhile-clause-limits g t c = c.in_err-ended-in-DoWhile.ensures.limits

pub act-returns-in-Some-clause-kept : goal.act-returns-in-Some-clause-kept
act-returns-in-Some-clause-kept g t c = c.in_ok-ended-in-DoWhile.ensures.kept

pub act-returns-in-Some-clause-bits : goal.act-returns-in-Some-clause-bits
act-returns-in-Some-clause-bits g t c = c.in_ok-ended-in-DoWhile.ensures.bits

pub act-returns-in-Some-clause-limits : goal.act-returns-in-Some-clause-limits
act-returns-in-Some-clause-limits g t c = c.in_ok-ended-in-DoWhile.ensures.limits

pub act-returns-in-None-clause-typed : goal.act-returns-in-None-clause-typed
act-returns-in-None-clause-typed g t c = c.repeat-in-None.ensures.typed

pub act-returns-in-None-clause-bits : goal.act-returns-in-None-clause-bits
act-returns-in-None-clause-bits g t c = c.repeat-in-None.ensures.bits ∙ c.in_ok-ended-in-DoWhile.ensures.bits

pub act-returns-in-None-clause-limits : goal.act-returns-in-None-clause-limits
act-returns-in-None-clause-limits g t c = c.repeat-in-None.ensures.limits ∙ c.in_ok-ended-in-DoWhile.ensures.limits

pub act-returns-in-Label-clause-kept : goal.act-returns-in-Label-clause-kept
act-returns-in-Label-clause-kept g t c = kept_same (scope_in c.args.frame.now) (activation_of c.args.frame.now) c.args.store.now

pub act-returns-in-Label-clause-bits : goal.act-returns-in-Label-clause-bits
act-returns-in-Label-clause-bits g t c = refl

pub act-returns-in-Label-clause-limits : goal.act-returns-in-Label-clause-limits
act-returns-in-Label-clause-limits g t c = refl

pub act-returns-in-Null-clause-kept : goal.act-returns-in-Null-clause-kept
act-returns-in-Null-clause-kept g t c = kept_same (scope_in c.args.frame.now) (activation_of c.args.frame.now) c.args.store.now

pub act-returns-in-Null-clause-bits : goal.act-returns-in-Null-clause-bits
act-returns-in-Null-clause-bits g t c = refl

pub act-returns-in-Null-clause-limits : goal.act-returns-in-Null-clause-limits
act-returns-in-Null-clause-limits g t c = refl

pub act-returns-in-Break-clause-kept : goal.act-returns-in-Break-clause-kept
act-returns-in-Break-clause-kept g t c = kept_same (scope_in c.args.frame.now) (activation_of c.args.frame.now) c.args.store.now

pub act-returns-in-Break-clause-bits : goal.act-returns-in-Break-clause-bits
act-returns-in-Break-clause-bits g t c = refl

pub act-returns-in-Break-clause-limits : goal.act-returns-in-Break-clause-limits
act-returns-in-Break-clause-limits g t c = refl

pub act-returns-in-Continue-clause-kept : goal.act-returns-in-Continue-clause-kept
act-returns-in-Continue-clause-kept g t c = kept_same (scope_in c.args.frame.now) (activation_of c.args.frame.now) c.args.store.now

pub act-returns-in-Continue-clause-bits : goal.act-returns-in-Continue-clause-bits
act-returns-in-Continue-clause-bits g t c = refl

pub act-returns-in-Continue-clause-limits : goal.act-returns-in-Continue-clause-limits
act-returns-in-Continue-clause-limits g t c = refl

pub act-returns-in-Compound-clause-typed : goal.act-returns-in-Compound-clause-typed
act-returns-in-Compound-clause-typed g t c = c.statements.ensures.typed

pub act-returns-in-Compound-clause-kept : goal.act-returns-in-Compound-clause-kept
act-returns-in-Compound-clause-kept g t c = c.statements.ensures.kept

pub act-returns-in-Compound-clause-bits : goal.act-returns-in-Compound-clause-bits
act-returns-in-Compound-clause-bits g t c = c.statements.ensures.bits

pub act-returns-in-Compound-clause-limits : goal.act-returns-in-Compound-clause-limits
act-returns-in-Compound-clause-limits g t c = c.statements.ensures.limits

pub act-returns-in-Declaration-clause-typed : goal.act-returns-in-Declaration-clause-typed
act-returns-in-Declaration-clause-typed g t c = c.declaration.ensures.typed

pub act-returns-in-Declaration-clause-kept : goal.act-returns-in-Declaration-clause-kept
act-returns-in-Declaration-clause-kept g t c = c.declaration.ensures.kept

pub act-returns-in-Declaration-clause-bits : goal.act-returns-in-Declaration-clause-bits
act-returns-in-Declaration-clause-bits g t c = c.declaration.ensures.bits

pub act-returns-in-Declaration-clause-limits : goal.act-returns-in-Declaration-clause-limits
act-returns-in-Declaration-clause-limits g t c = c.declaration.ensures.limits

pub act-returns-in-Effect-clause-typed : goal.act-returns-in-Effect-clause-typed
act-returns-in-Effect-clause-typed g t c = c.effect_statement.ensures.typed

pub act-returns-in-Effect-clause-kept : goal.act-returns-in-Effect-clause-kept
act-returns-in-Effect-clause-kept g t c = c.effect_statement.ensures.kept

pub act-returns-in-Effect-clause-bits : goal.act-returns-in-Effect-clause-bits
act-returns-in-Effect-clause-bits g t c = c.effect_statement.ensures.bits

pub act-returns-in-Effect-clause-limits : goal.act-returns-in-Effect-clause-limits
act-returns-in-Effect-clause-limits g t c = c.effect_statement.ensures.limits

pub act-returns-in-Return-clause-typed : goal.act-returns-in-Return-clause-typed
act-returns-in-Return-clause-typed g t c = c.return_statement.ensures.typed

pub act-returns-in-Return-clause-kept : goal.act-returns-in-Return-clause-kept
act-returns-in-Return-clause-kept g t c = c.return_statement.ensures.kept

pub act-returns-in-Return-clause-bits : goal.act-returns-in-Return-clause-bits
act-returns-in-Return-clause-bits g t c = c.return_statement.ensures.bits

pub act-returns-in-Return-clause-limits : goal.act-returns-in-Return-clause-limits
act-returns-in-Return-clause-limits g t c = c.return_statement.ensures.limits
