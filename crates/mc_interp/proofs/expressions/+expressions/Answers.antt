use Rattle.std.proofs.Common.{◌+◌, drop, refl, sym, ◌∙◌, arith, rules}
use Rattle.std.specs.Prelude.{slice_get}
use Rattle.mc_typed.specs.Sound.{type_of}
use Rattle.mc_typed.specs.Views as plain
use Rattle.mc_steps.specs.Expressions.{goes_on}
use Rattle.mc_probe.specs.Views as view
use Rattle.mc_probe.specs.Expressions as does
use Rattle.mc_interp.specs.Stores.{lent_of, state_of}
use Rattle.mc_interp.specs.Frames.{activation_of, scope_in}
use Rattle.mc_interp.proofs.Runs.{did_then, did_end}
use Rattle.mc_interp.proofs.Rests.{if_none}
use Rattle.mc_interp.proofs.Truths.{only_logical, did_word}
use Rattle.mc_interp.proofs.Shapes.{plain_again_argument, plain_binary, plain_choice, plain_item, plain_local, plain_made, plain_member, plain_parameter, plain_read, plain_structure_argument, view_again_argument, view_binary, view_choice, view_item, view_logic, view_made, view_not, view_parameter, view_probe}
use Rattle.mc_interp.proofs.Arguments.{few_arguments, passing_all, passing_done, passing_end, passing_next, passing_step, passing_typed, slot_there, some_arguments}
use Rattle.mc_interp.proofs.Passing.{source_there, copy_there, copy_keeps, again_there, again_is, again_typed, did_again}
use Rattle.mc_interp.proofs.Called.{if_call_kept, into_small, is_called, made}
use Rattle.mc_interp.proofs.Kept.{kept_same, kept_then, if_any, if_kept, ready_kept, register_there, registers_few}
use Rattle.mc_interp.proofs.Placed as placed
use Rattle.mc_interp.proofs.Nodes.{has_promoted, is_left, is_right, did_operated, did_chosen, did_other, did_choice_end, did_item, did_lent, did_compared, did_compared_right, did_not, did_not_end, did_logic, did_logic_short, did_logic_end, did_decided, did_condition, did_condition_end}
use Rattle.mc_typed.specs.declared.expressions.FunctionCall.{the_lemmas as call_lemmas}
use Rattle.mc_interp.proofs.expressions.+expressions.Goals as goal

pub inner-returns-in_err-second-in-Binary-clause-did : goal.inner-returns-in_err-second-in-Binary-clause-did
inner-returns-in_err-second-in-Binary-clause-did g t c =
    let M = g.P.Probe.leads in let N = g.met.P.Probe.stays in let J = g.met.P.Probe.joins in
    let d = rw (c.deref-in-Binary.ensures, c.in_order-operands.ensures.first) at c.in_ok-first-in-Binary.ensures.did in
    let e = rw (c.deref-in-Binary-2.ensures, c.in_order-operands.ensures.second) at c.in_err-second-in-Binary.ensures.did in
    rw (c.from_residual-in_err-second-in-Binary.ensures, c.in-Binary.is, view_binary)
    (did_then M N J _ _ _ _ _ _ _ _ _ d (did_end M N J _ _ _ _ _ e))

pub inner-operate-requires-clause-left : goal.inner-operate-requires-clause-left
inner-operate-requires-clause-left g t c =
    let s = rw (c.in-Binary.is, plain_binary) at c.requires.sound in
    let h = rw (c.deref-in-Binary.ensures, c.in_order-operands.ensures.first) at c.in_ok-first-in-Binary.ensures.typed in
    is_left c.in-Binary.operator c.in-Binary.of _ _ c.in_ok-first-in-Binary.first s.2 h

pub inner-operate-requires-clause-right : goal.inner-operate-requires-clause-right
inner-operate-requires-clause-right g t c =
    let s = rw (c.in-Binary.is, plain_binary) at c.requires.sound in
    let h = rw (c.deref-in-Binary-2.ensures, c.in_order-operands.ensures.second) at c.in_ok-second-in-Binary.ensures.typed in
    is_right c.in-Binary.operator c.in-Binary.of _ _ c.in_ok-second-in-Binary.second s.2 h

pub inner-returns-in_ok-second-in-Binary-clause-did : goal.inner-returns-in_ok-second-in-Binary-clause-did
inner-returns-in_ok-second-in-Binary-clause-did g t c =
    let M = g.P.Probe.leads in let N = g.met.P.Probe.stays in let J = g.met.P.Probe.joins in
    let W = activation_of c.args.frame.now in let S = state_of c.args.store.now in
    let s = rw (c.in-Binary.is, plain_binary) at c.requires.sound in
    let d = rw (c.deref-in-Binary.ensures, c.in_order-operands.ensures.first) at c.in_ok-first-in-Binary.ensures.did in
    let e = rw (c.deref-in-Binary-2.ensures, c.in_order-operands.ensures.second) at c.in_ok-second-in-Binary.ensures.did in
    rw (c.in-Binary.is, view_binary, plain_binary)
    (did_operated M N J c.in-Binary.operator c.in-Binary.of _ _ (does.evaluate W (view.expression_of c.in-Binary.left.value)) (does.evaluate W (view.expression_of c.in-Binary.right.value)) S c.in_ok-first-in-Binary.first c.in_ok-second-in-Binary.second _ _ _ _ _ _ _ _
    s.2 d e c.operate.ensures.value c.give-in-Binary.ensures.ran)

pub inner-returns-in_ok-second-in-Binary-clause-kept : goal.inner-returns-in_ok-second-in-Binary-clause-kept
inner-returns-in_ok-second-in-Binary-clause-kept g t c =
    if_any c.give-in-Binary.result (kept_then _ _ _ _ _ (kept_then _ _ _ _ _ c.in_ok-first-in-Binary.ensures.kept c.in_ok-second-in-Binary.ensures.kept) (c.give-in-Binary.ensures.kept _ _))

pub inner-returns-in_ok-number-in-Unary-clause-kept : goal.inner-returns-in_ok-number-in-Unary-clause-kept
inner-returns-in_ok-number-in-Unary-clause-kept g t c =
    if_any c.give.result (kept_then _ _ _ _ _ c.in_ok-number-in-Unary.ensures.kept (c.give.ensures.kept _ _))

pub inner-returns-in-Input-clause-kept : goal.inner-returns-in-Input-clause-kept
inner-returns-in-Input-clause-kept g t c =
    if_any c.input.result (c.input.ensures.kept _ _)

pub inner-returns-in_ok-at-in-Read-clause-kept : goal.inner-returns-in_ok-at-in-Read-clause-kept
inner-returns-in_ok-at-in-Read-clause-kept g t c =
    if_any c.read.result (kept_then _ _ _ _ _ c.in_ok-at-in-Read.ensures.kept (c.read.ensures.kept _ _))

pub inner-returns-in_err-holds-in-Choice-clause-did : goal.inner-returns-in_err-holds-in-Choice-clause-did
inner-returns-in_err-holds-in-Choice-clause-did g t c =
    let M = g.P.Probe.leads in let N = g.met.P.Probe.stays in let J = g.met.P.Probe.joins in
    let W = activation_of c.args.frame.now in let S = state_of c.args.store.now in
    let h = rw c.deref-in-Choice.ensures at c.in_err-holds-in-Choice.ensures.did in
    rw (c.from_residual-in_err-holds-in-Choice.ensures, c.in-Choice.is, view_choice) (did_choice_end M N J (does.evaluate W (view.expression_of c.in-Choice.test.value)) (does.evaluate W (view.expression_of c.in-Choice.chosen.value)) (does.evaluate W (view.expression_of c.in-Choice.other.value)) S _ _ _ h)

pub inner-returns-then-holds-clause-did : goal.inner-returns-then-holds-clause-did
inner-returns-then-holds-clause-did g t c =
    let M = g.P.Probe.leads in let N = g.met.P.Probe.stays in let J = g.met.P.Probe.joins in
    let W = activation_of c.args.frame.now in let S = state_of c.args.store.now in
    let s = rw (c.in-Choice.is, plain_choice) at c.requires.sound in
    let h = rw c.deref-in-Choice.ensures at c.in_ok-holds-in-Choice.ensures.did in
    let k = rw c.deref-then-holds.ensures at c.value-then-holds.ensures.did in
    rw (c.in-Choice.is, view_choice, plain_choice)
    (did_chosen M N J (does.evaluate W (view.expression_of c.in-Choice.test.value)) (does.evaluate W (view.expression_of c.in-Choice.chosen.value)) (does.evaluate W (view.expression_of c.in-Choice.other.value)) S c.in_ok-holds-in-Choice.holds _ _ _ _ _ _ _ _ h c.if-holds.true s.4 k)

pub inner-returns-else-holds-clause-did : goal.inner-returns-else-holds-clause-did
inner-returns-else-holds-clause-did g t c =
    let M = g.P.Probe.leads in let N = g.met.P.Probe.stays in let J = g.met.P.Probe.joins in
    let W = activation_of c.args.frame.now in let S = state_of c.args.store.now in
    let s = rw (c.in-Choice.is, plain_choice) at c.requires.sound in
    let h = rw c.deref-in-Choice.ensures at c.in_ok-holds-in-Choice.ensures.did in
    let k = rw c.deref-else-holds.ensures at c.value-else-holds.ensures.did in
    rw (c.in-Choice.is, view_choice, plain_choice)
    (did_other M N J (does.evaluate W (view.expression_of c.in-Choice.test.value)) (does.evaluate W (view.expression_of c.in-Choice.chosen.value)) (does.evaluate W (view.expression_of c.in-Choice.other.value)) S c.in_ok-holds-in-Choice.holds _ _ _ _ _ _ _ _ h c.if-holds.false s.5 k)

pub inner-read-requires-clause-typed : goal.inner-read-requires-clause-typed
inner-read-requires-clause-typed g t c =
    let F = c.args.frame.now in
    let s = rw (c.in-Read.is, plain_read) at c.requires.sound in
    let r = ready_kept F c.args.store.now c.place.new.store _ _ c.requires.ready c.in_ok-at-in-Read.ensures.kept c.in_ok-at-in-Read.ensures.bits in
    placed.scalar_typed F c.place.new.store _ c.in_ok-at-in-Read.at _ c.in-Read.of r c.in_ok-at-in-Read.ensures.placed s.1

pub place-overflow_add-result : goal.place-overflow_add-result
place-overflow_add-result g t c =
    let F = c.args.frame.now in
    let s = rw (c.in-Local.is, plain_local) at c.requires.sound in
    let p = placed.placed_local (scope_in F) (activation_of F) c.in-Local.slot s in
    let small = placed.place_small F c.args.store.now _ _ _ c.requires.ready p in
    search rules

pub place-lent_item-requires-clause-there : goal.place-lent_item-requires-clause-there
place-lent_item-requires-clause-there g t c =
    let F = c.args.frame.now in
    let s = rw (c.in-Parameter.is, plain_parameter) at c.requires.sound in
    placed.lent_there F c.args.store.now _ c.in-Parameter.array c.in-Parameter.stride c.requires.ready s.0

pub place-lent_item-requires-clause-small : goal.place-lent_item-requires-clause-small
place-lent_item-requires-clause-small g t c =
    let F = c.args.frame.now in
    let s = rw (c.in-Parameter.is, plain_parameter) at c.requires.sound in
    placed.lent_small F c.args.store.now _ c.in-Parameter.array c.in-Parameter.stride c.requires.ready s.0

pub place-item-requires : goal.place-item-requires
place-item-requires g t c =
    let F = c.args.frame.now in
    let s = rw (c.in-Item.is, plain_item) at c.requires.sound in
    let p = rw c.deref-in-Item.ensures at c.in_ok-base-in-Item.ensures.placed in
    placed.item_room F c.args.store.now _ c.in_ok-base-in-Item.base c.in-Item.length c.in-Item.stride _ c.requires.ready p s.1 s.2

pub place-overflow_add-result-in-Member : goal.place-overflow_add-result-in-Member
place-overflow_add-result-in-Member g t c =
    let F = c.args.frame.now in
    let s = rw (c.in-Member.is, plain_member) at c.requires.sound in
    let p = rw c.deref-in-Member.ensures at c.in_ok-base-in-Member.ensures.placed in
    let q = placed.placed_member (scope_in F) (activation_of F) c.in_ok-base-in-Member.base c.in-Member.member c.in-Member.offset _ p s.1 in
    let small = placed.place_small F c.args.store.now _ _ _ c.requires.ready q in
    search rules

pub place-returns-in_ok-number-in-Parameter-clause-did : goal.place-returns-in_ok-number-in-Parameter-clause-did
place-returns-in_ok-number-in-Parameter-clause-did g t c =
    let M = g.P.Probe.leads in let N = g.met.P.Probe.stays in let J = g.met.P.Probe.joins in
    let W = activation_of c.args.frame.now in let S = state_of c.args.store.now in
    let d = rw c.deref.ensures at c.in_ok-number-in-Parameter.ensures.did in
    rw (c.in-Parameter.is, view_parameter)
    (did_lent M N J (slice_get W.arrays c.in-Parameter.array) c.in-Parameter.stride (does.evaluate W (view.expression_of c.in-Parameter.index.value)) S _ _ _ _ _ _ d (c.lent_item.ensures.ran (type_of (plain.expression_of c.in-Parameter.index.value))))

pub place-returns-in_ok-number-in-Parameter-clause-placed : goal.place-returns-in_ok-number-in-Parameter-clause-placed
place-returns-in_ok-number-in-Parameter-clause-placed g t c =
    let F = c.args.frame.now in
    let s = rw (c.in-Parameter.is, plain_parameter) at c.requires.sound in
    rw (c.in-Parameter.is, plain_parameter)
    (placed.lent_placed F c.args.store.now _ c.in-Parameter.array c.in-Parameter.stride c.lent_item.result c.requires.ready s.0 c.lent_item.ensures.index)

pub place-returns-in_ok-number-in-Parameter-clause-kept : goal.place-returns-in_ok-number-in-Parameter-clause-kept
place-returns-in_ok-number-in-Parameter-clause-kept g t c =
    if_any c.lent_item.result (kept_then _ _ _ _ _ c.in_ok-number-in-Parameter.ensures.kept (c.lent_item.ensures.kept _ _))

pub place-returns-in_ok-number-in-Item-clause-did : goal.place-returns-in_ok-number-in-Item-clause-did
place-returns-in_ok-number-in-Item-clause-did g t c =
    let M = g.P.Probe.leads in let N = g.met.P.Probe.stays in let J = g.met.P.Probe.joins in
    let W = activation_of c.args.frame.now in let S = state_of c.args.store.now in
    let d = rw c.deref-in-Item.ensures at c.in_ok-base-in-Item.ensures.did in
    let e = rw c.deref-in-Item-2.ensures at c.in_ok-number-in-Item.ensures.did in
    rw (c.in-Item.is, view_item)
    (did_item M N J c.in-Item.length c.in-Item.stride (does.evaluate_place W (view.place_of c.in-Item.array.value)) (does.evaluate W (view.expression_of c.in-Item.index.value)) S c.in_ok-base-in-Item.base _ _ _ _ _ _ _ _ d e (c.item.ensures.ran (type_of (plain.expression_of c.in-Item.index.value))))

pub place-returns-in_ok-number-in-Item-clause-placed : goal.place-returns-in_ok-number-in-Item-clause-placed
place-returns-in_ok-number-in-Item-clause-placed g t c =
    let F = c.args.frame.now in
    let s = rw (c.in-Item.is, plain_item) at c.requires.sound in
    let p = rw c.deref-in-Item.ensures at c.in_ok-base-in-Item.ensures.placed in
    rw (c.in-Item.is, plain_item)
    (placed.items_placed F c.in_ok-base-in-Item.base c.in-Item.length c.in-Item.stride _ c.item.result p s.1 s.2 c.item.ensures.index)

pub place-returns-in_ok-number-in-Item-clause-kept : goal.place-returns-in_ok-number-in-Item-clause-kept
place-returns-in_ok-number-in-Item-clause-kept g t c =
    if_any c.item.result (kept_then _ _ _ _ _ (kept_then _ _ _ _ _ c.in_ok-base-in-Item.ensures.kept c.in_ok-number-in-Item.ensures.kept) (c.item.ensures.kept _ _))

pub place-returns-in_ok-base-in-Member-clause-placed : goal.place-returns-in_ok-base-in-Member-clause-placed
place-returns-in_ok-base-in-Member-clause-placed g t c =
    let F = c.args.frame.now in
    let s = rw (c.in-Member.is, plain_member) at c.requires.sound in
    let p = rw c.deref-in-Member.ensures at c.in_ok-base-in-Member.ensures.placed in
    rw (c.in-Member.is, plain_member)
    (placed.placed_member (scope_in F) (activation_of F) c.in_ok-base-in-Member.base c.in-Member.member c.in-Member.offset _ p s.1)

pub truth-returns-in_err-holds-in-Not-clause-did : goal.truth-returns-in_err-holds-in-Not-clause-did
truth-returns-in_err-holds-in-Not-clause-did g t c =
    let M = g.P.Probe.leads in let N = g.met.P.Probe.stays in let J = g.met.P.Probe.joins in
    let W = activation_of c.args.frame.now in let S = state_of c.args.store.now in
    let h = rw c.deref.ensures at c.in_err-holds-in-Not.ensures.did in
    rw (c.from_residual.ensures, c.in-Not.is, view_not) (did_not_end M N J (does.evaluate W (view.expression_of c.in-Not.operand.value)) S _ _ _ h)

pub truth-returns-in_err-holds-in-Logic-clause-did : goal.truth-returns-in_err-holds-in-Logic-clause-did
truth-returns-in_err-holds-in-Logic-clause-did g t c =
    let M = g.P.Probe.leads in let N = g.met.P.Probe.stays in let J = g.met.P.Probe.joins in
    let W = activation_of c.args.frame.now in let S = state_of c.args.store.now in
    let h = rw c.deref-in-Logic.ensures at c.in_err-holds-in-Logic.ensures.did in
    rw (c.from_residual-in_err-holds-in-Logic.ensures, c.in-Logic.is, view_logic) (did_logic_end M N J c.in-Logic.operator (does.evaluate W (view.expression_of c.in-Logic.left.value)) (does.evaluate W (view.expression_of c.in-Logic.right.value)) S _ _ _ h)

pub truth-returns-in_ok-holds-in-Not-clause-did : goal.truth-returns-in_ok-holds-in-Not-clause-did
truth-returns-in_ok-holds-in-Not-clause-did g t c =
    let M = g.P.Probe.leads in let N = g.met.P.Probe.stays in let J = g.met.P.Probe.joins in
    let W = activation_of c.args.frame.now in let S = state_of c.args.store.now in
    let h = rw c.deref.ensures at c.in_ok-holds-in-Not.ensures.did in
    rw (c.in-Not.is, view_not)
    (did_not M N J (does.evaluate W (view.expression_of c.in-Not.operand.value)) S c.in_ok-holds-in-Not.holds _ _ _ h)

pub truth-returns-then-goes_on-clause-did : goal.truth-returns-then-goes_on-clause-did
truth-returns-then-goes_on-clause-did g t c =
    let M = g.P.Probe.leads in let N = g.met.P.Probe.stays in let J = g.met.P.Probe.joins in
    let W = activation_of c.args.frame.now in let S = state_of c.args.store.now in
    let h = rw c.deref-in-Logic.ensures at c.in_ok-holds-in-Logic.ensures.did in
    let k = rw c.deref-then-goes_on.ensures at c.truth-then-goes_on.ensures.did in
    rw (c.in-Logic.is, view_logic)
    (did_logic M N J c.in-Logic.operator (does.evaluate W (view.expression_of c.in-Logic.left.value)) (does.evaluate W (view.expression_of c.in-Logic.right.value)) S c.in_ok-holds-in-Logic.holds _ _ _ _ _ _ h (sym c.goes_on.ensures ∙ c.if-goes_on.true) k)

pub truth-returns-else-goes_on-clause-did : goal.truth-returns-else-goes_on-clause-did
truth-returns-else-goes_on-clause-did g t c =
    let M = g.P.Probe.leads in let N = g.met.P.Probe.stays in let J = g.met.P.Probe.joins in
    let W = activation_of c.args.frame.now in let S = state_of c.args.store.now in
    let h = rw c.deref-in-Logic.ensures at c.in_ok-holds-in-Logic.ensures.did in
    rw (c.in-Logic.is, view_logic)
    (did_logic_short M N J c.in-Logic.operator (does.evaluate W (view.expression_of c.in-Logic.left.value)) (does.evaluate W (view.expression_of c.in-Logic.right.value)) S c.in_ok-holds-in-Logic.holds _ _ _ h (◌∙◌ {a = goes_on c.in-Logic.operator c.in_ok-holds-in-Logic.holds} (sym c.goes_on.ensures) c.if-goes_on.false))

pub truth-returns-in_err-second-in-Some-clause-did : goal.truth-returns-in_err-second-in-Some-clause-did
truth-returns-in_err-second-in-Some-clause-did g t c =
    let M = g.P.Probe.leads in let N = g.met.P.Probe.stays in let J = g.met.P.Probe.joins in
    let W = activation_of c.args.frame.now in let S = state_of c.args.store.now in
    let r = rw c.in-Some.is at c.comparison.ensures in
    let d = rw (c.deref-in-Some.ensures, c.in_order-operands.ensures.first) at c.in_ok-first-in-Some.ensures.did in
    let e = rw (c.deref-in-Some-2.ensures, c.in_order-operands.ensures.second) at c.in_err-second-in-Some.ensures.did in
    rw (c.from_residual-in_err-second-in-Some.ensures, c.in-Binary.is, view_binary, r.0)
    (did_compared_right M N J c.in-Some.compared c.in-Binary.of (does.evaluate W (view.expression_of c.in-Binary.left.value)) (does.evaluate W (view.expression_of c.in-Binary.right.value)) S _ _ _ _ _ _ d e)

pub truth-returns-in_ok-second-in-Some-clause-did : goal.truth-returns-in_ok-second-in-Some-clause-did
truth-returns-in_ok-second-in-Some-clause-did g t c =
    let M = g.P.Probe.leads in let N = g.met.P.Probe.stays in let J = g.met.P.Probe.joins in
    let W = activation_of c.args.frame.now in let S = state_of c.args.store.now in
    let r = rw c.in-Some.is at c.comparison.ensures in
    let s = rw (c.in-Binary.is, plain_binary) at c.requires.sound in
    let h = rw r.0 at s.2 in
    let d = rw (c.deref-in-Some.ensures, c.in_order-operands.ensures.first) at c.in_ok-first-in-Some.ensures.did in
    let e = rw (c.deref-in-Some-2.ensures, c.in_order-operands.ensures.second) at c.in_ok-second-in-Some.ensures.did in
    rw (c.in-Binary.is, view_binary, r.0)
    (did_compared M N J c.in-Some.compared c.in-Binary.of (does.evaluate W (view.expression_of c.in-Binary.left.value)) (does.evaluate W (view.expression_of c.in-Binary.right.value)) S _ _ c.in_ok-first-in-Some.first c.in_ok-second-in-Some.second c.compare.result _ _ _ _ _ h d e c.compare.ensures)

pub value-returns-in_ok-holds-clause-did : goal.value-returns-in_ok-holds-clause-did
value-returns-in_ok-holds-clause-did g t c =
    let M = g.P.Probe.leads in
    let F = c.args.frame.now in
    did_word M (type_of (plain.expression_of c.args.e.now)) (does.evaluate (activation_of F) (view.expression_of c.args.e.now) (state_of c.args.store.now))
    c.in_ok-holds.holds _ _ _ _
    (only_logical (activation_of F) (view.expression_of c.args.e.now) (state_of c.args.store.now) (sym c.is_logical.ensures ∙ c.if-is_logical.true))
    c.from.ensures c.in_ok-holds.ensures.did

pub truth-decide-requires-clause-there : goal.truth-decide-requires-clause-there
truth-decide-requires-clause-there g t c =
    let F = c.args.frame.now in
    let f = rw (c.in-Probe.is, view_probe, c.in-Decision.is) at c.requires.fits in
    register_there F c.args.store.now c.truth-outcome.new.store _ c.in-Decision.register c.truth-outcome.result c.requires.ready f.0
    (if_kept (scope_in F) (activation_of F) c.args.store.now c.begin.new.store c.truth-outcome.new.store c.truth-outcome.result c.begin.ensures.kept c.truth-outcome.ensures.kept)

pub truth-decide-requires-clause-small : goal.truth-decide-requires-clause-small
truth-decide-requires-clause-small g t c =
    let F = c.args.frame.now in
    registers_few F c.args.store.now c.truth-outcome.new.store _ c.truth-outcome.result c.requires.ready
    (if_kept (scope_in F) (activation_of F) c.args.store.now c.begin.new.store c.truth-outcome.new.store c.truth-outcome.result c.begin.ensures.kept c.truth-outcome.ensures.kept)

pub truth-returns-in-Decision-clause-did : goal.truth-returns-in-Decision-clause-did
truth-returns-in-Decision-clause-did g t c =
    let M = g.P.Probe.leads in let N = g.met.P.Probe.stays in let J = g.met.P.Probe.joins in
    let W = activation_of c.args.frame.now in let S = state_of c.args.store.now in
    let h = rw c.deref-in-Decision.ensures at c.truth-outcome.ensures.did in
    rw (c.in-Probe.is, view_probe, c.in-Decision.is)
    (did_decided M N J W c.in-Decision.register c.in-Decision.base (does.evaluate W (view.expression_of c.in-Probe.operand.value)) S c.truth-outcome.result c.begin.new.store c.truth-outcome.new.store _ _ _ c.begin.ensures.ran h c.decide.ensures.did)

pub truth-returns-in-Decision-clause-kept : goal.truth-returns-in-Decision-clause-kept
truth-returns-in-Decision-clause-kept g t c =
    if_kept _ _ _ _ _ c.truth-outcome.result c.begin.ensures.kept c.truth-outcome.ensures.kept

pub truth-returns-in_err-holds-in-Condition-clause-did : goal.truth-returns-in_err-holds-in-Condition-clause-did
truth-returns-in_err-holds-in-Condition-clause-did g t c =
    let M = g.P.Probe.leads in let N = g.met.P.Probe.stays in let J = g.met.P.Probe.joins in
    let W = activation_of c.args.frame.now in let S = state_of c.args.store.now in
    let h = rw c.deref-in-Condition.ensures at c.in_err-holds-in-Condition.ensures.did in
    rw (c.from_residual-in_err-holds-in-Condition.ensures, c.in-Probe.is, view_probe, c.in-Condition.is)
    (did_condition_end M N J W c.in-Condition.register c.in-Condition.on_true c.in-Condition.on_false (does.evaluate W (view.expression_of c.in-Probe.operand.value)) S _ _ _ h)

pub truth-returns-in_ok-holds-in-Condition-clause-did : goal.truth-returns-in_ok-holds-in-Condition-clause-did
truth-returns-in_ok-holds-in-Condition-clause-did g t c =
    let M = g.P.Probe.leads in let N = g.met.P.Probe.stays in let J = g.met.P.Probe.joins in
    let W = activation_of c.args.frame.now in let S = state_of c.args.store.now in
    let h = rw c.deref-in-Condition.ensures at c.in_ok-holds-in-Condition.ensures.did in
    rw (c.in-Probe.is, view_probe, c.in-Condition.is)
    (did_condition M N J W c.in-Condition.register c.in-Condition.on_true c.in-Condition.on_false (does.evaluate W (view.expression_of c.in-Probe.operand.value)) S c.in_ok-holds-in-Condition.holds _ _ _ _ h c.note.ensures.ran)

pub truth-returns-in_ok-holds-in-Condition-clause-kept : goal.truth-returns-in_ok-holds-in-Condition-clause-kept
truth-returns-in_ok-holds-in-Condition-clause-kept g t c =
    kept_then _ _ _ _ _ c.in_ok-holds-in-Condition.ensures.kept (c.note.ensures.kept _ _)

pub inner-returns-in_ok-number-in-Switch-clause-kept : goal.inner-returns-in_ok-number-in-Switch-clause-kept
inner-returns-in_ok-number-in-Switch-clause-kept g t c =
    kept_then _ _ _ _ _ c.in_ok-number-in-Switch.ensures.kept (c.mark.ensures.kept _ _)

pub inner-returns-in_ok-call-in-Call-clause-kept : goal.inner-returns-in_ok-call-in-Call-clause-kept
inner-returns-in_ok-call-in-Call-clause-kept g t c =
    if_any c.number_given.result (kept_then _ _ _ _ _ c.in_ok-call-in-Call.ensures.kept (c.number_given.ensures.kept _ _))

-- ---- structures

pub structure-returns-in_ok-call-in-Returned-clause-kept : goal.structure-returns-in_ok-call-in-Returned-clause-kept
structure-returns-in_ok-call-in-Returned-clause-kept g t c =
    if_any c.structure_given.result (kept_then _ _ _ _ _ c.in_ok-call-in-Returned.ensures.kept (c.structure_given.ensures.kept _ _))

-- ---- arguments

pub argument-copied-at-requires-clause-there : goal.argument-copied-at-requires-clause-there
argument-copied-at-requires-clause-there g t c =
    let s = rw (c.in-Structure.is, plain_structure_argument) at c.requires.sound in
    slot_there c.args.frame.now c.in-Structure.copy s.1

pub argument-copied-at-requires-clause-source : goal.argument-copied-at-requires-clause-source
argument-copied-at-requires-clause-source g t c =
    let F = c.args.frame.now in
    let s = rw (c.in-Structure.is, plain_structure_argument) at c.requires.sound in
    let r = ready_kept F c.args.store.now c.structure.new.store _ _ c.requires.ready c.in_ok-from-in-Structure.ensures.kept c.in_ok-from-in-Structure.ensures.bits in
    source_there F c.structure.new.store _ r _ c.in-Structure.copy s c.in_ok-from-in-Structure.from c.in_ok-from-in-Structure.ensures.placed

pub argument-copied-at-requires-clause-room : goal.argument-copied-at-requires-clause-room
argument-copied-at-requires-clause-room g t c =
    let F = c.args.frame.now in
    let s = rw (c.in-Structure.is, plain_structure_argument) at c.requires.sound in
    let r = ready_kept F c.args.store.now c.structure.new.store _ _ c.requires.ready c.in_ok-from-in-Structure.ensures.kept c.in_ok-from-in-Structure.ensures.bits in
    copy_there F c.structure.new.store _ r _ c.in-Structure.copy s c.in_ok-from-in-Structure.from c.in_ok-from-in-Structure.ensures.placed

pub argument-returns-in_ok-from-in-Structure-clause-kept : goal.argument-returns-in_ok-from-in-Structure-clause-kept
argument-returns-in_ok-from-in-Structure-clause-kept g t c =
    let F = c.args.frame.now in
    let s = rw (c.in-Structure.is, plain_structure_argument) at c.requires.sound in
    let r = ready_kept F c.args.store.now c.structure.new.store _ _ c.requires.ready c.in_ok-from-in-Structure.ensures.kept c.in_ok-from-in-Structure.ensures.bits in
    kept_then _ _ _ _ _ c.in_ok-from-in-Structure.ensures.kept
    (copy_keeps F c.structure.new.store _ r _ c.in-Structure.copy s c.in_ok-from-in-Structure.from c.in_ok-from-in-Structure.ensures.placed c.copied-at.new.store c.copied-at.ensures.kept)

pub argument-lent-requires : goal.argument-lent-requires
argument-lent-requires g t c =
    let s = rw (c.in-Again.is, plain_again_argument) at c.requires.sound in
    again_there c.args.frame.now c.args.store.now _ c.in-Again.array c.requires.ready s

pub argument-returns-in-Again-clause-did : goal.argument-returns-in-Again-clause-did
argument-returns-in-Again-clause-did g t c =
    let M = g.P.Probe.leads in let N = g.met.P.Probe.stays in let J = g.met.P.Probe.joins in
    let W = activation_of c.args.frame.now in
    rw (c.in-Again.is, view_again_argument)
    (did_again M N J (slice_get W.arrays c.in-Again.array) (lent_of c.lent.result) c.args.store.now _ (again_is c.args.frame.now.arrays.now c.in-Again.array c.lent.result c.lent.ensures))

pub argument-returns-in-Again-clause-typed : goal.argument-returns-in-Again-clause-typed
argument-returns-in-Again-clause-typed g t c =
    let s = rw (c.in-Again.is, plain_again_argument) at c.requires.sound in
    rw (c.in-Again.is, plain_again_argument)
    (again_typed c.args.frame.now c.in-Again.array c.lent.result s c.lent.ensures)

pub arguments-returns-in_err-given-clause-did : goal.arguments-returns-in_err-given-clause-did
arguments-returns-in_err-given-clause-did g t c =
    let B = g.P.Probe.bits in let M = g.P.Probe.leads in let N = g.met.P.Probe.stays in let J = g.met.P.Probe.joins in
    let h = passing_next B M N J c.args.frame.now c.args.trees.now c.loop-tree.tree-index c.tree-item.result c.loop-tree.passed.items c.args.store.now c.loop-tree.store c.args.probe.now c.loop-tree.probe c.loop-tree.invariant (omega arith) c.tree-item.is in
    rw c.from_residual.ensures
    (passing_end B M N J c.args.frame.now c.args.trees.now (drop (c.loop-tree.tree-index + 1) c.args.trees.now) c.tree-item.result c.loop-tree.passed.items c.args.store.now c.loop-tree.store c.argument.new.store c.args.probe.now c.loop-tree.probe c.argument.new.probe
    h c.in_err-given.ensures.did)

pub arguments-loop-tree-preserved : goal.arguments-loop-tree-preserved
arguments-loop-tree-preserved g t c =
    let B = g.P.Probe.bits in let M = g.P.Probe.leads in let N = g.met.P.Probe.stays in let J = g.met.P.Probe.joins in
    let h = passing_next B M N J c.args.frame.now c.args.trees.now c.loop-tree.tree-index c.tree-item.result c.loop-tree.passed.items c.args.store.now c.loop-tree.store c.args.probe.now c.loop-tree.probe c.loop-tree.invariant (omega arith) c.tree-item.is in
    rw c.push.ensures.items
    (passing_step B M N J c.args.frame.now c.args.trees.now (drop (c.loop-tree.tree-index + 1) c.args.trees.now) c.tree-item.result c.loop-tree.passed.items c.in_ok-given.given c.args.store.now c.loop-tree.store c.argument.new.store c.args.probe.now c.loop-tree.probe c.argument.new.probe
    h c.in_ok-given.ensures.kept c.in_ok-given.ensures.bits c.in_ok-given.ensures.limits c.in_ok-given.ensures.typed c.in_ok-given.ensures.did)

pub arguments-returns-clause-did : goal.arguments-returns-clause-did
arguments-returns-clause-did g t c =
    let B = g.P.Probe.bits in let M = g.P.Probe.leads in let N = g.met.P.Probe.stays in let J = g.met.P.Probe.joins in
    let h = passing_all B M N J c.args.frame.now c.args.trees.now c.loop-tree.tree-index c.loop-tree.passed.items c.args.store.now c.loop-tree.store c.args.probe.now c.loop-tree.probe c.loop-tree.invariant (omega arith) in
    passing_done B M N J c.args.frame.now c.args.trees.now c.loop-tree.passed.items c.args.store.now c.loop-tree.store c.args.probe.now c.loop-tree.probe h

pub arguments-returns-clause-typed : goal.arguments-returns-clause-typed
arguments-returns-clause-typed g t c =
    let B = g.P.Probe.bits in let M = g.P.Probe.leads in let N = g.met.P.Probe.stays in let J = g.met.P.Probe.joins in
    let h = passing_all B M N J c.args.frame.now c.args.trees.now c.loop-tree.tree-index c.loop-tree.passed.items c.args.store.now c.loop-tree.store c.args.probe.now c.loop-tree.probe c.loop-tree.invariant (omega arith) in
    passing_typed B M N J c.args.frame.now c.args.trees.now c.loop-tree.passed.items c.args.store.now c.loop-tree.store c.args.probe.now c.loop-tree.probe h

-- ---- calls

pub call-arguments-requires : goal.call-arguments-requires
call-arguments-requires g t c κs h =
    let s = rw plain_made at c.requires.sound in
    let f = rw view_made at c.requires.fits in
    (search (rules, call_lemmas), (search rules, (search rules, ((rw c.deref.ensures.value (some_arguments _ _ (scope_in c.args.frame.now) s.1)), ((rw c.deref.ensures.value f), ((rw c.deref.ensures.value (few_arguments c.args.frame.now c.args.store.now _ c.args.made.now.function c.args.made.now.arguments.items c.requires.ready s.1)), (c.new-passed.ensures, (c.requires.ready, c.requires.invokes))))))))

pub call-into-requires : goal.call-into-requires
call-into-requires g t c =
    let s = rw plain_made at c.requires.sound in
    into_small c.args.frame.now c.args.store.now _ c.args.made.now.function _ c.args.made.now.result c.args.made.now.span c.requires.ready s

pub call-invoke-requires : goal.call-invoke-requires
call-invoke-requires g t c =
    let F = c.args.frame.now in
    let s = rw plain_made at c.requires.sound in
    let typed = rw c.deref.ensures.value at c.in_ok-arguments.ensures.typed in
    let r = ready_kept F c.args.store.now c.arguments.new.store _ _ c.requires.ready c.in_ok-arguments.ensures.kept c.in_ok-arguments.ensures.bits in
    c.requires.invokes.callable (made F c.args.made.now.function c.into.result c.as_slice.result) _ _ refl
    (is_called F c.args.made.now.function _ c.args.made.now.result c.args.made.now.span s c.into.result c.into.ensures c.as_slice.result c.arguments.new.passed.items c.as_slice.ensures.value c.arguments.new.store _ r typed)

pub call-returns-clause-kept : goal.call-returns-clause-kept
call-returns-clause-kept g t c =
    let F = c.args.frame.now in
    let s = rw plain_made at c.requires.sound in
    let typed = rw c.deref.ensures.value at c.in_ok-arguments.ensures.typed in
    if_call_kept F c.args.made.now.function _ c.args.made.now.result c.args.made.now.span s c.into.result c.into.ensures c.as_slice.result c.arguments.new.passed.items c.as_slice.ensures.value c.args.store.now c.arguments.new.store c.invoke.new.arg3 c.invoke.result c.in_ok-arguments.ensures.kept
    (c.requires.invokes.keeps (made F c.args.made.now.function c.into.result c.as_slice.result) _ _ _ _ c.invoke.result c.invoke.ensures) typed

-- ---- operands

pub inner-operate-requires-clause-type_promoted : goal.inner-operate-requires-clause-type_promoted
inner-operate-requires-clause-type_promoted g t c =
    let s = rw (c.in-Binary.is, plain_binary) at c.requires.sound in
    has_promoted c.in-Binary.operator c.in-Binary.of _ _ s.2

-- ---- scalars of the activation

pub other-overflow_add-frame : goal.other-overflow_add-frame
other-overflow_add-frame g t c =
    let F = c.args.frame.now in
    let s = rw (c.in-Read.is, plain_read, c.in-Local.is, plain_local) at c.requires.sound in
    let p = placed.placed_local (scope_in F) (activation_of F) c.in-Local.slot s.0 in
    let small = placed.place_small F c.args.store.now _ _ _ c.requires.ready p in
    search rules

pub other-read-requires-clause-there : goal.other-read-requires-clause-there
other-read-requires-clause-there g t c =
    let F = c.args.frame.now in
    let s = rw (c.in-Read.is, plain_read, c.in-Local.is, plain_local) at c.requires.sound in
    let p = placed.placed_local (scope_in F) (activation_of F) c.in-Local.slot s.0 in
    placed.scalar_there F c.args.store.now _ _ _ c.in-Read.of c.requires.ready p s.1

pub other-read-requires-clause-typed : goal.other-read-requires-clause-typed
other-read-requires-clause-typed g t c =
    let F = c.args.frame.now in
    let s = rw (c.in-Read.is, plain_read, c.in-Local.is, plain_local) at c.requires.sound in
    let p = placed.placed_local (scope_in F) (activation_of F) c.in-Local.slot s.0 in
    placed.scalar_typed F c.args.store.now _ _ _ c.in-Read.of c.requires.ready p s.1

pub other-returns-in-Local-clause-kept : goal.other-returns-in-Local-clause-kept
other-returns-in-Local-clause-kept g t c =
    if_any c.read.result (c.read.ensures.kept _ _)

-- ---- what is the same at each end

pub value-returns-in_err-holds-clause-typed : goal.value-returns-in_err-holds-clause-typed
value-returns-in_err-holds-clause-typed g t c = if_none _ _ c.from_residual.ensures

pub value-returns-in_err-holds-clause-kept : goal.value-returns-in_err-holds-clause-kept
value-returns-in_err-holds-clause-kept g t c = if_none _ _ c.from_residual.ensures

pub value-returns-in_err-holds-clause-bits : goal.value-returns-in_err-holds-clause-bits
value-returns-in_err-holds-clause-bits g t c = c.in_err-holds.ensures.bits

pub value-returns-in_err-holds-clause-limits : goal.value-returns-in_err-holds-clause-limits
value-returns-in_err-holds-clause-limits g t c = c.in_err-holds.ensures.limits

pub value-returns-in_ok-holds-clause-kept : goal.value-returns-in_ok-holds-clause-kept
value-returns-in_ok-holds-clause-kept g t c = c.in_ok-holds.ensures.kept

pub value-returns-in_ok-holds-clause-bits : goal.value-returns-in_ok-holds-clause-bits
value-returns-in_ok-holds-clause-bits g t c = c.in_ok-holds.ensures.bits

pub value-returns-in_ok-holds-clause-limits : goal.value-returns-in_ok-holds-clause-limits
value-returns-in_ok-holds-clause-limits g t c = c.in_ok-holds.ensures.limits

pub value-returns-else-is_logical-clause-typed : goal.value-returns-else-is_logical-clause-typed
value-returns-else-is_logical-clause-typed g t c = c.other.ensures.typed

pub value-returns-else-is_logical-clause-kept : goal.value-returns-else-is_logical-clause-kept
value-returns-else-is_logical-clause-kept g t c = c.other.ensures.kept

pub value-returns-else-is_logical-clause-bits : goal.value-returns-else-is_logical-clause-bits
value-returns-else-is_logical-clause-bits g t c = c.other.ensures.bits

pub value-returns-else-is_logical-clause-limits : goal.value-returns-else-is_logical-clause-limits
value-returns-else-is_logical-clause-limits g t c = c.other.ensures.limits

pub value-returns-else-is_logical-clause-did : goal.value-returns-else-is_logical-clause-did
value-returns-else-is_logical-clause-did g t c = c.other.ensures.did

pub truth-returns-in_err-holds-in-Not-clause-kept : goal.truth-returns-in_err-holds-in-Not-clause-kept
truth-returns-in_err-holds-in-Not-clause-kept g t c = if_none _ _ c.from_residual.ensures

pub truth-returns-in_err-holds-in-Not-clause-bits : goal.truth-returns-in_err-holds-in-Not-clause-bits
truth-returns-in_err-holds-in-Not-clause-bits g t c = c.in_err-holds-in-Not.ensures.bits

pub truth-returns-in_err-holds-in-Not-clause-limits : goal.truth-returns-in_err-holds-in-Not-clause-limits
truth-returns-in_err-holds-in-Not-clause-limits g t c = c.in_err-holds-in-Not.ensures.limits

pub truth-returns-in_ok-holds-in-Not-clause-kept : goal.truth-returns-in_ok-holds-in-Not-clause-kept
truth-returns-in_ok-holds-in-Not-clause-kept g t c = c.in_ok-holds-in-Not.ensures.kept

pub truth-returns-in_ok-holds-in-Not-clause-bits : goal.truth-returns-in_ok-holds-in-Not-clause-bits
truth-returns-in_ok-holds-in-Not-clause-bits g t c = c.in_ok-holds-in-Not.ensures.bits

pub truth-returns-in_ok-holds-in-Not-clause-limits : goal.truth-returns-in_ok-holds-in-Not-clause-limits
truth-returns-in_ok-holds-in-Not-clause-limits g t c = c.in_ok-holds-in-Not.ensures.limits

pub truth-returns-in_err-holds-in-Logic-clause-kept : goal.truth-returns-in_err-holds-in-Logic-clause-kept
truth-returns-in_err-holds-in-Logic-clause-kept g t c = if_none _ _ c.from_residual-in_err-holds-in-Logic.ensures

pub truth-returns-in_err-holds-in-Logic-clause-bits : goal.truth-returns-in_err-holds-in-Logic-clause-bits
truth-returns-in_err-holds-in-Logic-clause-bits g t c = c.in_err-holds-in-Logic.ensures.bits

pub truth-returns-in_err-holds-in-Logic-clause-limits : goal.truth-returns-in_err-holds-in-Logic-clause-limits
truth-returns-in_err-holds-in-Logic-clause-limits g t c = c.in_err-holds-in-Logic.ensures.limits

pub truth-returns-then-goes_on-clause-kept : goal.truth-returns-then-goes_on-clause-kept
truth-returns-then-goes_on-clause-kept g t c = if_kept _ _ _ _ _ c.truth-then-goes_on.result c.in_ok-holds-in-Logic.ensures.kept c.truth-then-goes_on.ensures.kept

pub truth-returns-then-goes_on-clause-bits : goal.truth-returns-then-goes_on-clause-bits
truth-returns-then-goes_on-clause-bits g t c = c.truth-then-goes_on.ensures.bits ∙ c.in_ok-holds-in-Logic.ensures.bits

pub truth-returns-then-goes_on-clause-limits : goal.truth-returns-then-goes_on-clause-limits
truth-returns-then-goes_on-clause-limits g t c = c.truth-then-goes_on.ensures.limits ∙ c.in_ok-holds-in-Logic.ensures.limits

pub truth-returns-else-goes_on-clause-kept : goal.truth-returns-else-goes_on-clause-kept
truth-returns-else-goes_on-clause-kept g t c = c.in_ok-holds-in-Logic.ensures.kept

pub truth-returns-else-goes_on-clause-bits : goal.truth-returns-else-goes_on-clause-bits
truth-returns-else-goes_on-clause-bits g t c = c.in_ok-holds-in-Logic.ensures.bits

pub truth-returns-else-goes_on-clause-limits : goal.truth-returns-else-goes_on-clause-limits
truth-returns-else-goes_on-clause-limits g t c = c.in_ok-holds-in-Logic.ensures.limits

pub truth-returns-in-Decision-clause-bits : goal.truth-returns-in-Decision-clause-bits
truth-returns-in-Decision-clause-bits g t c = c.decide.ensures.bits ∙ c.truth-outcome.ensures.bits

pub truth-returns-in-Decision-clause-limits : goal.truth-returns-in-Decision-clause-limits
truth-returns-in-Decision-clause-limits g t c = c.truth-outcome.ensures.limits ∙ c.begin.ensures.limits

pub truth-returns-in_err-holds-in-Condition-clause-kept : goal.truth-returns-in_err-holds-in-Condition-clause-kept
truth-returns-in_err-holds-in-Condition-clause-kept g t c = if_none _ _ c.from_residual-in_err-holds-in-Condition.ensures

pub truth-returns-in_err-holds-in-Condition-clause-bits : goal.truth-returns-in_err-holds-in-Condition-clause-bits
truth-returns-in_err-holds-in-Condition-clause-bits g t c = c.in_err-holds-in-Condition.ensures.bits

pub truth-returns-in_err-holds-in-Condition-clause-limits : goal.truth-returns-in_err-holds-in-Condition-clause-limits
truth-returns-in_err-holds-in-Condition-clause-limits g t c = c.in_err-holds-in-Condition.ensures.limits

pub truth-returns-in_ok-holds-in-Condition-clause-bits : goal.truth-returns-in_ok-holds-in-Condition-clause-bits
truth-returns-in_ok-holds-in-Condition-clause-bits g t c = c.in_ok-holds-in-Condition.ensures.bits

pub truth-returns-in_ok-holds-in-Condition-clause-limits : goal.truth-returns-in_ok-holds-in-Condition-clause-limits
truth-returns-in_ok-holds-in-Condition-clause-limits g t c = c.note.ensures.limits ∙ c.in_ok-holds-in-Condition.ensures.limits

pub truth-returns-in_err-number-in-Switch-clause-kept : goal.truth-returns-in_err-number-in-Switch-clause-kept
truth-returns-in_err-number-in-Switch-clause-kept g t c = if_none _ _ c.from_residual-in_err-number-in-Switch.ensures

pub truth-returns-in_err-number-in-Switch-clause-bits : goal.truth-returns-in_err-number-in-Switch-clause-bits
truth-returns-in_err-number-in-Switch-clause-bits g t c = c.in_err-number-in-Switch.ensures.bits

pub truth-returns-in_err-number-in-Switch-clause-limits : goal.truth-returns-in_err-number-in-Switch-clause-limits
truth-returns-in_err-number-in-Switch-clause-limits g t c = c.in_err-number-in-Switch.ensures.limits

pub truth-returns-in_ok-number-in-Switch-clause-kept : goal.truth-returns-in_ok-number-in-Switch-clause-kept
truth-returns-in_ok-number-in-Switch-clause-kept g t c = c.in_ok-number-in-Switch.ensures.kept

pub truth-returns-in_ok-number-in-Switch-clause-bits : goal.truth-returns-in_ok-number-in-Switch-clause-bits
truth-returns-in_ok-number-in-Switch-clause-bits g t c = c.in_ok-number-in-Switch.ensures.bits

pub truth-returns-in_ok-number-in-Switch-clause-limits : goal.truth-returns-in_ok-number-in-Switch-clause-limits
truth-returns-in_ok-number-in-Switch-clause-limits g t c = c.in_ok-number-in-Switch.ensures.limits

pub truth-returns-in_err-first-in-Some-clause-kept : goal.truth-returns-in_err-first-in-Some-clause-kept
truth-returns-in_err-first-in-Some-clause-kept g t c = if_none _ _ c.from_residual-in_err-first-in-Some.ensures

pub truth-returns-in_err-first-in-Some-clause-bits : goal.truth-returns-in_err-first-in-Some-clause-bits
truth-returns-in_err-first-in-Some-clause-bits g t c = c.in_err-first-in-Some.ensures.bits

pub truth-returns-in_err-first-in-Some-clause-limits : goal.truth-returns-in_err-first-in-Some-clause-limits
truth-returns-in_err-first-in-Some-clause-limits g t c = c.in_err-first-in-Some.ensures.limits

pub truth-returns-in_err-second-in-Some-clause-kept : goal.truth-returns-in_err-second-in-Some-clause-kept
truth-returns-in_err-second-in-Some-clause-kept g t c = if_none _ _ c.from_residual-in_err-second-in-Some.ensures

pub truth-returns-in_err-second-in-Some-clause-bits : goal.truth-returns-in_err-second-in-Some-clause-bits
truth-returns-in_err-second-in-Some-clause-bits g t c = c.in_err-second-in-Some.ensures.bits ∙ c.in_ok-first-in-Some.ensures.bits

pub truth-returns-in_err-second-in-Some-clause-limits : goal.truth-returns-in_err-second-in-Some-clause-limits
truth-returns-in_err-second-in-Some-clause-limits g t c = c.in_err-second-in-Some.ensures.limits ∙ c.in_ok-first-in-Some.ensures.limits

pub truth-returns-in_ok-second-in-Some-clause-kept : goal.truth-returns-in_ok-second-in-Some-clause-kept
truth-returns-in_ok-second-in-Some-clause-kept g t c = kept_then _ _ _ _ _ c.in_ok-first-in-Some.ensures.kept c.in_ok-second-in-Some.ensures.kept

pub truth-returns-in_ok-second-in-Some-clause-bits : goal.truth-returns-in_ok-second-in-Some-clause-bits
truth-returns-in_ok-second-in-Some-clause-bits g t c = c.in_ok-second-in-Some.ensures.bits ∙ c.in_ok-first-in-Some.ensures.bits

pub truth-returns-in_ok-second-in-Some-clause-limits : goal.truth-returns-in_ok-second-in-Some-clause-limits
truth-returns-in_ok-second-in-Some-clause-limits g t c = c.in_ok-second-in-Some.ensures.limits ∙ c.in_ok-first-in-Some.ensures.limits

pub truth-returns-in_err-number-in-None-clause-kept : goal.truth-returns-in_err-number-in-None-clause-kept
truth-returns-in_err-number-in-None-clause-kept g t c = if_none _ _ c.from_residual-in_err-number-in-None.ensures

pub truth-returns-in_err-number-in-None-clause-bits : goal.truth-returns-in_err-number-in-None-clause-bits
truth-returns-in_err-number-in-None-clause-bits g t c = c.in_err-number-in-None.ensures.bits

pub truth-returns-in_err-number-in-None-clause-limits : goal.truth-returns-in_err-number-in-None-clause-limits
truth-returns-in_err-number-in-None-clause-limits g t c = c.in_err-number-in-None.ensures.limits

pub truth-returns-in_ok-number-in-None-clause-kept : goal.truth-returns-in_ok-number-in-None-clause-kept
truth-returns-in_ok-number-in-None-clause-kept g t c = c.in_ok-number-in-None.ensures.kept

pub truth-returns-in_ok-number-in-None-clause-bits : goal.truth-returns-in_ok-number-in-None-clause-bits
truth-returns-in_ok-number-in-None-clause-bits g t c = c.in_ok-number-in-None.ensures.bits

pub truth-returns-in_ok-number-in-None-clause-limits : goal.truth-returns-in_ok-number-in-None-clause-limits
truth-returns-in_ok-number-in-None-clause-limits g t c = c.in_ok-number-in-None.ensures.limits

pub inner-returns-in_err-number-in-Unary-clause-typed : goal.inner-returns-in_err-number-in-Unary-clause-typed
inner-returns-in_err-number-in-Unary-clause-typed g t c = if_none _ _ c.from_residual.ensures

pub inner-returns-in_err-number-in-Unary-clause-kept : goal.inner-returns-in_err-number-in-Unary-clause-kept
inner-returns-in_err-number-in-Unary-clause-kept g t c = if_none _ _ c.from_residual.ensures

pub inner-returns-in_err-number-in-Unary-clause-bits : goal.inner-returns-in_err-number-in-Unary-clause-bits
inner-returns-in_err-number-in-Unary-clause-bits g t c = c.in_err-number-in-Unary.ensures.bits

pub inner-returns-in_err-number-in-Unary-clause-limits : goal.inner-returns-in_err-number-in-Unary-clause-limits
inner-returns-in_err-number-in-Unary-clause-limits g t c = c.in_err-number-in-Unary.ensures.limits

pub inner-returns-in_ok-number-in-Unary-clause-bits : goal.inner-returns-in_ok-number-in-Unary-clause-bits
inner-returns-in_ok-number-in-Unary-clause-bits g t c = c.in_ok-number-in-Unary.ensures.bits

pub inner-returns-in_ok-number-in-Unary-clause-limits : goal.inner-returns-in_ok-number-in-Unary-clause-limits
inner-returns-in_ok-number-in-Unary-clause-limits g t c = c.give.ensures.limits ∙ c.in_ok-number-in-Unary.ensures.limits

pub inner-returns-in_err-number-in-Convert-clause-typed : goal.inner-returns-in_err-number-in-Convert-clause-typed
inner-returns-in_err-number-in-Convert-clause-typed g t c = if_none _ _ c.from_residual-in_err-number-in-Convert.ensures

pub inner-returns-in_err-number-in-Convert-clause-kept : goal.inner-returns-in_err-number-in-Convert-clause-kept
inner-returns-in_err-number-in-Convert-clause-kept g t c = if_none _ _ c.from_residual-in_err-number-in-Convert.ensures

pub inner-returns-in_err-number-in-Convert-clause-bits : goal.inner-returns-in_err-number-in-Convert-clause-bits
inner-returns-in_err-number-in-Convert-clause-bits g t c = c.in_err-number-in-Convert.ensures.bits

pub inner-returns-in_err-number-in-Convert-clause-limits : goal.inner-returns-in_err-number-in-Convert-clause-limits
inner-returns-in_err-number-in-Convert-clause-limits g t c = c.in_err-number-in-Convert.ensures.limits

pub inner-returns-in_ok-number-in-Convert-clause-kept : goal.inner-returns-in_ok-number-in-Convert-clause-kept
inner-returns-in_ok-number-in-Convert-clause-kept g t c = c.in_ok-number-in-Convert.ensures.kept

pub inner-returns-in_ok-number-in-Convert-clause-bits : goal.inner-returns-in_ok-number-in-Convert-clause-bits
inner-returns-in_ok-number-in-Convert-clause-bits g t c = c.in_ok-number-in-Convert.ensures.bits

pub inner-returns-in_ok-number-in-Convert-clause-limits : goal.inner-returns-in_ok-number-in-Convert-clause-limits
inner-returns-in_ok-number-in-Convert-clause-limits g t c = c.in_ok-number-in-Convert.ensures.limits

pub inner-returns-in_err-first-in-Binary-clause-typed : goal.inner-returns-in_err-first-in-Binary-clause-typed
inner-returns-in_err-first-in-Binary-clause-typed g t c = if_none _ _ c.from_residual-in_err-first-in-Binary.ensures

pub inner-returns-in_err-first-in-Binary-clause-kept : goal.inner-returns-in_err-first-in-Binary-clause-kept
inner-returns-in_err-first-in-Binary-clause-kept g t c = if_none _ _ c.from_residual-in_err-first-in-Binary.ensures

pub inner-returns-in_err-first-in-Binary-clause-bits : goal.inner-returns-in_err-first-in-Binary-clause-bits
inner-returns-in_err-first-in-Binary-clause-bits g t c = c.in_err-first-in-Binary.ensures.bits

pub inner-returns-in_err-first-in-Binary-clause-limits : goal.inner-returns-in_err-first-in-Binary-clause-limits
inner-returns-in_err-first-in-Binary-clause-limits g t c = c.in_err-first-in-Binary.ensures.limits

pub inner-returns-in_err-second-in-Binary-clause-typed : goal.inner-returns-in_err-second-in-Binary-clause-typed
inner-returns-in_err-second-in-Binary-clause-typed g t c = if_none _ _ c.from_residual-in_err-second-in-Binary.ensures

pub inner-returns-in_err-second-in-Binary-clause-kept : goal.inner-returns-in_err-second-in-Binary-clause-kept
inner-returns-in_err-second-in-Binary-clause-kept g t c = if_none _ _ c.from_residual-in_err-second-in-Binary.ensures

pub inner-returns-in_err-second-in-Binary-clause-bits : goal.inner-returns-in_err-second-in-Binary-clause-bits
inner-returns-in_err-second-in-Binary-clause-bits g t c = c.in_err-second-in-Binary.ensures.bits ∙ c.in_ok-first-in-Binary.ensures.bits

pub inner-returns-in_err-second-in-Binary-clause-limits : goal.inner-returns-in_err-second-in-Binary-clause-limits
inner-returns-in_err-second-in-Binary-clause-limits g t c = c.in_err-second-in-Binary.ensures.limits ∙ c.in_ok-first-in-Binary.ensures.limits

pub inner-returns-in_ok-second-in-Binary-clause-bits : goal.inner-returns-in_ok-second-in-Binary-clause-bits
inner-returns-in_ok-second-in-Binary-clause-bits g t c = c.in_ok-second-in-Binary.ensures.bits ∙ c.in_ok-first-in-Binary.ensures.bits

pub inner-returns-in_ok-second-in-Binary-clause-limits : goal.inner-returns-in_ok-second-in-Binary-clause-limits
inner-returns-in_ok-second-in-Binary-clause-limits g t c = c.give-in-Binary.ensures.limits ∙ c.in_ok-second-in-Binary.ensures.limits ∙ c.in_ok-first-in-Binary.ensures.limits

pub inner-returns-in_err-holds-in-Choice-clause-typed : goal.inner-returns-in_err-holds-in-Choice-clause-typed
inner-returns-in_err-holds-in-Choice-clause-typed g t c = if_none _ _ c.from_residual-in_err-holds-in-Choice.ensures

pub inner-returns-in_err-holds-in-Choice-clause-kept : goal.inner-returns-in_err-holds-in-Choice-clause-kept
inner-returns-in_err-holds-in-Choice-clause-kept g t c = if_none _ _ c.from_residual-in_err-holds-in-Choice.ensures

pub inner-returns-in_err-holds-in-Choice-clause-bits : goal.inner-returns-in_err-holds-in-Choice-clause-bits
inner-returns-in_err-holds-in-Choice-clause-bits g t c = c.in_err-holds-in-Choice.ensures.bits

pub inner-returns-in_err-holds-in-Choice-clause-limits : goal.inner-returns-in_err-holds-in-Choice-clause-limits
inner-returns-in_err-holds-in-Choice-clause-limits g t c = c.in_err-holds-in-Choice.ensures.limits

pub inner-returns-then-holds-clause-kept : goal.inner-returns-then-holds-clause-kept
inner-returns-then-holds-clause-kept g t c = if_kept _ _ _ _ _ c.value-then-holds.result c.in_ok-holds-in-Choice.ensures.kept c.value-then-holds.ensures.kept

pub inner-returns-then-holds-clause-bits : goal.inner-returns-then-holds-clause-bits
inner-returns-then-holds-clause-bits g t c = c.value-then-holds.ensures.bits ∙ c.in_ok-holds-in-Choice.ensures.bits

pub inner-returns-then-holds-clause-limits : goal.inner-returns-then-holds-clause-limits
inner-returns-then-holds-clause-limits g t c = c.value-then-holds.ensures.limits ∙ c.in_ok-holds-in-Choice.ensures.limits

pub inner-returns-else-holds-clause-kept : goal.inner-returns-else-holds-clause-kept
inner-returns-else-holds-clause-kept g t c = if_kept _ _ _ _ _ c.value-else-holds.result c.in_ok-holds-in-Choice.ensures.kept c.value-else-holds.ensures.kept

pub inner-returns-else-holds-clause-bits : goal.inner-returns-else-holds-clause-bits
inner-returns-else-holds-clause-bits g t c = c.value-else-holds.ensures.bits ∙ c.in_ok-holds-in-Choice.ensures.bits

pub inner-returns-else-holds-clause-limits : goal.inner-returns-else-holds-clause-limits
inner-returns-else-holds-clause-limits g t c = c.value-else-holds.ensures.limits ∙ c.in_ok-holds-in-Choice.ensures.limits

pub inner-returns-in-Input-clause-bits : goal.inner-returns-in-Input-clause-bits
inner-returns-in-Input-clause-bits g t c = refl

pub inner-returns-in-Input-clause-limits : goal.inner-returns-in-Input-clause-limits
inner-returns-in-Input-clause-limits g t c = c.input.ensures.limits

pub inner-returns-in_err-at-in-Read-clause-typed : goal.inner-returns-in_err-at-in-Read-clause-typed
inner-returns-in_err-at-in-Read-clause-typed g t c = if_none _ _ c.from_residual-in_err-at-in-Read.ensures

pub inner-returns-in_err-at-in-Read-clause-kept : goal.inner-returns-in_err-at-in-Read-clause-kept
inner-returns-in_err-at-in-Read-clause-kept g t c = if_none _ _ c.from_residual-in_err-at-in-Read.ensures

pub inner-returns-in_err-at-in-Read-clause-bits : goal.inner-returns-in_err-at-in-Read-clause-bits
inner-returns-in_err-at-in-Read-clause-bits g t c = c.in_err-at-in-Read.ensures.bits

pub inner-returns-in_err-at-in-Read-clause-limits : goal.inner-returns-in_err-at-in-Read-clause-limits
inner-returns-in_err-at-in-Read-clause-limits g t c = c.in_err-at-in-Read.ensures.limits

pub inner-returns-in_ok-at-in-Read-clause-bits : goal.inner-returns-in_ok-at-in-Read-clause-bits
inner-returns-in_ok-at-in-Read-clause-bits g t c = c.in_ok-at-in-Read.ensures.bits

pub inner-returns-in_ok-at-in-Read-clause-limits : goal.inner-returns-in_ok-at-in-Read-clause-limits
inner-returns-in_ok-at-in-Read-clause-limits g t c = c.read.ensures.limits ∙ c.in_ok-at-in-Read.ensures.limits

pub inner-returns-in_err-call-in-Call-clause-typed : goal.inner-returns-in_err-call-in-Call-clause-typed
inner-returns-in_err-call-in-Call-clause-typed g t c = if_none _ _ c.from_residual-in_err-call-in-Call.ensures

pub inner-returns-in_err-call-in-Call-clause-kept : goal.inner-returns-in_err-call-in-Call-clause-kept
inner-returns-in_err-call-in-Call-clause-kept g t c = if_none _ _ c.from_residual-in_err-call-in-Call.ensures

pub inner-returns-in_err-call-in-Call-clause-bits : goal.inner-returns-in_err-call-in-Call-clause-bits
inner-returns-in_err-call-in-Call-clause-bits g t c = c.in_err-call-in-Call.ensures.bits

pub inner-returns-in_err-call-in-Call-clause-limits : goal.inner-returns-in_err-call-in-Call-clause-limits
inner-returns-in_err-call-in-Call-clause-limits g t c = c.in_err-call-in-Call.ensures.limits

pub inner-returns-in_ok-call-in-Call-clause-bits : goal.inner-returns-in_ok-call-in-Call-clause-bits
inner-returns-in_ok-call-in-Call-clause-bits g t c = c.in_ok-call-in-Call.ensures.bits

pub inner-returns-in_ok-call-in-Call-clause-limits : goal.inner-returns-in_ok-call-in-Call-clause-limits
inner-returns-in_ok-call-in-Call-clause-limits g t c = c.number_given.ensures.limits ∙ c.in_ok-call-in-Call.ensures.limits

pub inner-returns-in_err-number-in-Switch-clause-typed : goal.inner-returns-in_err-number-in-Switch-clause-typed
inner-returns-in_err-number-in-Switch-clause-typed g t c = if_none _ _ c.from_residual-in_err-number-in-Switch.ensures

pub inner-returns-in_err-number-in-Switch-clause-kept : goal.inner-returns-in_err-number-in-Switch-clause-kept
inner-returns-in_err-number-in-Switch-clause-kept g t c = if_none _ _ c.from_residual-in_err-number-in-Switch.ensures

pub inner-returns-in_err-number-in-Switch-clause-bits : goal.inner-returns-in_err-number-in-Switch-clause-bits
inner-returns-in_err-number-in-Switch-clause-bits g t c = c.in_err-number-in-Switch.ensures.bits

pub inner-returns-in_err-number-in-Switch-clause-limits : goal.inner-returns-in_err-number-in-Switch-clause-limits
inner-returns-in_err-number-in-Switch-clause-limits g t c = c.in_err-number-in-Switch.ensures.limits

pub inner-returns-in_ok-number-in-Switch-clause-bits : goal.inner-returns-in_ok-number-in-Switch-clause-bits
inner-returns-in_ok-number-in-Switch-clause-bits g t c = c.in_ok-number-in-Switch.ensures.bits

pub inner-returns-in_ok-number-in-Switch-clause-limits : goal.inner-returns-in_ok-number-in-Switch-clause-limits
inner-returns-in_ok-number-in-Switch-clause-limits g t c = c.mark.ensures.limits ∙ c.in_ok-number-in-Switch.ensures.limits

pub place-returns-in_err-number-in-Parameter-clause-placed : goal.place-returns-in_err-number-in-Parameter-clause-placed
place-returns-in_err-number-in-Parameter-clause-placed g t c = if_none _ _ c.from_residual.ensures

pub place-returns-in_err-number-in-Parameter-clause-kept : goal.place-returns-in_err-number-in-Parameter-clause-kept
place-returns-in_err-number-in-Parameter-clause-kept g t c = if_none _ _ c.from_residual.ensures

pub place-returns-in_err-number-in-Parameter-clause-bits : goal.place-returns-in_err-number-in-Parameter-clause-bits
place-returns-in_err-number-in-Parameter-clause-bits g t c = c.in_err-number-in-Parameter.ensures.bits

pub place-returns-in_err-number-in-Parameter-clause-limits : goal.place-returns-in_err-number-in-Parameter-clause-limits
place-returns-in_err-number-in-Parameter-clause-limits g t c = c.in_err-number-in-Parameter.ensures.limits

pub place-returns-in_ok-number-in-Parameter-clause-bits : goal.place-returns-in_ok-number-in-Parameter-clause-bits
place-returns-in_ok-number-in-Parameter-clause-bits g t c = c.in_ok-number-in-Parameter.ensures.bits

pub place-returns-in_ok-number-in-Parameter-clause-limits : goal.place-returns-in_ok-number-in-Parameter-clause-limits
place-returns-in_ok-number-in-Parameter-clause-limits g t c = c.lent_item.ensures.limits ∙ c.in_ok-number-in-Parameter.ensures.limits

pub place-returns-in_err-base-in-Item-clause-placed : goal.place-returns-in_err-base-in-Item-clause-placed
place-returns-in_err-base-in-Item-clause-placed g t c = if_none _ _ c.from_residual-in_err-base-in-Item.ensures

pub place-returns-in_err-base-in-Item-clause-kept : goal.place-returns-in_err-base-in-Item-clause-kept
place-returns-in_err-base-in-Item-clause-kept g t c = if_none _ _ c.from_residual-in_err-base-in-Item.ensures

pub place-returns-in_err-base-in-Item-clause-bits : goal.place-returns-in_err-base-in-Item-clause-bits
place-returns-in_err-base-in-Item-clause-bits g t c = c.in_err-base-in-Item.ensures.bits

pub place-returns-in_err-base-in-Item-clause-limits : goal.place-returns-in_err-base-in-Item-clause-limits
place-returns-in_err-base-in-Item-clause-limits g t c = c.in_err-base-in-Item.ensures.limits

pub place-returns-in_err-number-in-Item-clause-placed : goal.place-returns-in_err-number-in-Item-clause-placed
place-returns-in_err-number-in-Item-clause-placed g t c = if_none _ _ c.from_residual-in_err-number-in-Item.ensures

pub place-returns-in_err-number-in-Item-clause-kept : goal.place-returns-in_err-number-in-Item-clause-kept
place-returns-in_err-number-in-Item-clause-kept g t c = if_none _ _ c.from_residual-in_err-number-in-Item.ensures

pub place-returns-in_err-number-in-Item-clause-bits : goal.place-returns-in_err-number-in-Item-clause-bits
place-returns-in_err-number-in-Item-clause-bits g t c = c.in_err-number-in-Item.ensures.bits ∙ c.in_ok-base-in-Item.ensures.bits

pub place-returns-in_err-number-in-Item-clause-limits : goal.place-returns-in_err-number-in-Item-clause-limits
place-returns-in_err-number-in-Item-clause-limits g t c = c.in_err-number-in-Item.ensures.limits ∙ c.in_ok-base-in-Item.ensures.limits

pub place-returns-in_ok-number-in-Item-clause-bits : goal.place-returns-in_ok-number-in-Item-clause-bits
place-returns-in_ok-number-in-Item-clause-bits g t c = c.in_ok-number-in-Item.ensures.bits ∙ c.in_ok-base-in-Item.ensures.bits

pub place-returns-in_ok-number-in-Item-clause-limits : goal.place-returns-in_ok-number-in-Item-clause-limits
place-returns-in_ok-number-in-Item-clause-limits g t c = c.item.ensures.limits ∙ c.in_ok-number-in-Item.ensures.limits ∙ c.in_ok-base-in-Item.ensures.limits

pub place-returns-in_err-base-in-Member-clause-placed : goal.place-returns-in_err-base-in-Member-clause-placed
place-returns-in_err-base-in-Member-clause-placed g t c = if_none _ _ c.from_residual-in_err-base-in-Member.ensures

pub place-returns-in_err-base-in-Member-clause-kept : goal.place-returns-in_err-base-in-Member-clause-kept
place-returns-in_err-base-in-Member-clause-kept g t c = if_none _ _ c.from_residual-in_err-base-in-Member.ensures

pub place-returns-in_err-base-in-Member-clause-bits : goal.place-returns-in_err-base-in-Member-clause-bits
place-returns-in_err-base-in-Member-clause-bits g t c = c.in_err-base-in-Member.ensures.bits

pub place-returns-in_err-base-in-Member-clause-limits : goal.place-returns-in_err-base-in-Member-clause-limits
place-returns-in_err-base-in-Member-clause-limits g t c = c.in_err-base-in-Member.ensures.limits

pub place-returns-in_ok-base-in-Member-clause-kept : goal.place-returns-in_ok-base-in-Member-clause-kept
place-returns-in_ok-base-in-Member-clause-kept g t c = c.in_ok-base-in-Member.ensures.kept

pub place-returns-in_ok-base-in-Member-clause-bits : goal.place-returns-in_ok-base-in-Member-clause-bits
place-returns-in_ok-base-in-Member-clause-bits g t c = c.in_ok-base-in-Member.ensures.bits

pub place-returns-in_ok-base-in-Member-clause-limits : goal.place-returns-in_ok-base-in-Member-clause-limits
place-returns-in_ok-base-in-Member-clause-limits g t c = c.in_ok-base-in-Member.ensures.limits

pub place-returns-in-Local-clause-kept : goal.place-returns-in-Local-clause-kept
place-returns-in-Local-clause-kept g t c = kept_same (scope_in c.args.frame.now) (activation_of c.args.frame.now) c.args.store.now

pub place-returns-in-Local-clause-bits : goal.place-returns-in-Local-clause-bits
place-returns-in-Local-clause-bits g t c = refl

pub place-returns-in-Local-clause-limits : goal.place-returns-in-Local-clause-limits
place-returns-in-Local-clause-limits g t c = refl

pub place-returns-in-Static-clause-kept : goal.place-returns-in-Static-clause-kept
place-returns-in-Static-clause-kept g t c = kept_same (scope_in c.args.frame.now) (activation_of c.args.frame.now) c.args.store.now

pub place-returns-in-Static-clause-bits : goal.place-returns-in-Static-clause-bits
place-returns-in-Static-clause-bits g t c = refl

pub place-returns-in-Static-clause-limits : goal.place-returns-in-Static-clause-limits
place-returns-in-Static-clause-limits g t c = refl

pub structure-returns-in-Stored-clause-kept : goal.structure-returns-in-Stored-clause-kept
structure-returns-in-Stored-clause-kept g t c = c.place.ensures.kept

pub structure-returns-in-Stored-clause-bits : goal.structure-returns-in-Stored-clause-bits
structure-returns-in-Stored-clause-bits g t c = c.place.ensures.bits

pub structure-returns-in-Stored-clause-limits : goal.structure-returns-in-Stored-clause-limits
structure-returns-in-Stored-clause-limits g t c = c.place.ensures.limits

pub structure-returns-in_err-call-in-Returned-clause-placed : goal.structure-returns-in_err-call-in-Returned-clause-placed
structure-returns-in_err-call-in-Returned-clause-placed g t c = if_none _ _ c.from_residual.ensures

pub structure-returns-in_err-call-in-Returned-clause-kept : goal.structure-returns-in_err-call-in-Returned-clause-kept
structure-returns-in_err-call-in-Returned-clause-kept g t c = if_none _ _ c.from_residual.ensures

pub structure-returns-in_err-call-in-Returned-clause-bits : goal.structure-returns-in_err-call-in-Returned-clause-bits
structure-returns-in_err-call-in-Returned-clause-bits g t c = c.in_err-call-in-Returned.ensures.bits

pub structure-returns-in_err-call-in-Returned-clause-limits : goal.structure-returns-in_err-call-in-Returned-clause-limits
structure-returns-in_err-call-in-Returned-clause-limits g t c = c.in_err-call-in-Returned.ensures.limits

pub structure-returns-in_ok-call-in-Returned-clause-bits : goal.structure-returns-in_ok-call-in-Returned-clause-bits
structure-returns-in_ok-call-in-Returned-clause-bits g t c = c.in_ok-call-in-Returned.ensures.bits

pub structure-returns-in_ok-call-in-Returned-clause-limits : goal.structure-returns-in_ok-call-in-Returned-clause-limits
structure-returns-in_ok-call-in-Returned-clause-limits g t c = c.structure_given.ensures.limits ∙ c.in_ok-call-in-Returned.ensures.limits

pub call-returns-in_err-arguments-clause-given : goal.call-returns-in_err-arguments-clause-given
call-returns-in_err-arguments-clause-given g t c = if_none _ _ c.from_residual.ensures

pub call-returns-in_err-arguments-clause-kept : goal.call-returns-in_err-arguments-clause-kept
call-returns-in_err-arguments-clause-kept g t c = if_none _ _ c.from_residual.ensures

pub call-returns-in_err-arguments-clause-bits : goal.call-returns-in_err-arguments-clause-bits
call-returns-in_err-arguments-clause-bits g t c = c.in_err-arguments.ensures.bits

pub call-returns-in_err-arguments-clause-limits : goal.call-returns-in_err-arguments-clause-limits
call-returns-in_err-arguments-clause-limits g t c = c.in_err-arguments.ensures.limits

pub argument-returns-in_err-word-in-Number-clause-typed : goal.argument-returns-in_err-word-in-Number-clause-typed
argument-returns-in_err-word-in-Number-clause-typed g t c = if_none _ _ c.from_residual.ensures

pub argument-returns-in_err-word-in-Number-clause-kept : goal.argument-returns-in_err-word-in-Number-clause-kept
argument-returns-in_err-word-in-Number-clause-kept g t c = if_none _ _ c.from_residual.ensures

pub argument-returns-in_err-word-in-Number-clause-bits : goal.argument-returns-in_err-word-in-Number-clause-bits
argument-returns-in_err-word-in-Number-clause-bits g t c = c.in_err-word-in-Number.ensures.bits

pub argument-returns-in_err-word-in-Number-clause-limits : goal.argument-returns-in_err-word-in-Number-clause-limits
argument-returns-in_err-word-in-Number-clause-limits g t c = c.in_err-word-in-Number.ensures.limits

pub argument-returns-in_ok-word-in-Number-clause-kept : goal.argument-returns-in_ok-word-in-Number-clause-kept
argument-returns-in_ok-word-in-Number-clause-kept g t c = c.in_ok-word-in-Number.ensures.kept

pub argument-returns-in_ok-word-in-Number-clause-bits : goal.argument-returns-in_ok-word-in-Number-clause-bits
argument-returns-in_ok-word-in-Number-clause-bits g t c = c.in_ok-word-in-Number.ensures.bits

pub argument-returns-in_ok-word-in-Number-clause-limits : goal.argument-returns-in_ok-word-in-Number-clause-limits
argument-returns-in_ok-word-in-Number-clause-limits g t c = c.in_ok-word-in-Number.ensures.limits

pub argument-returns-in_err-from-in-Structure-clause-typed : goal.argument-returns-in_err-from-in-Structure-clause-typed
argument-returns-in_err-from-in-Structure-clause-typed g t c = if_none _ _ c.from_residual-in_err-from-in-Structure.ensures

pub argument-returns-in_err-from-in-Structure-clause-kept : goal.argument-returns-in_err-from-in-Structure-clause-kept
argument-returns-in_err-from-in-Structure-clause-kept g t c = if_none _ _ c.from_residual-in_err-from-in-Structure.ensures

pub argument-returns-in_err-from-in-Structure-clause-bits : goal.argument-returns-in_err-from-in-Structure-clause-bits
argument-returns-in_err-from-in-Structure-clause-bits g t c = c.in_err-from-in-Structure.ensures.bits

pub argument-returns-in_err-from-in-Structure-clause-limits : goal.argument-returns-in_err-from-in-Structure-clause-limits
argument-returns-in_err-from-in-Structure-clause-limits g t c = c.in_err-from-in-Structure.ensures.limits

pub argument-returns-in_ok-from-in-Structure-clause-bits : goal.argument-returns-in_ok-from-in-Structure-clause-bits
argument-returns-in_ok-from-in-Structure-clause-bits g t c = c.in_ok-from-in-Structure.ensures.bits

pub argument-returns-in_ok-from-in-Structure-clause-limits : goal.argument-returns-in_ok-from-in-Structure-clause-limits
argument-returns-in_ok-from-in-Structure-clause-limits g t c = c.copied-at.ensures.limits ∙ c.in_ok-from-in-Structure.ensures.limits

pub argument-returns-in_err-base-in-Array-clause-typed : goal.argument-returns-in_err-base-in-Array-clause-typed
argument-returns-in_err-base-in-Array-clause-typed g t c = if_none _ _ c.from_residual-in_err-base-in-Array.ensures

pub argument-returns-in_err-base-in-Array-clause-kept : goal.argument-returns-in_err-base-in-Array-clause-kept
argument-returns-in_err-base-in-Array-clause-kept g t c = if_none _ _ c.from_residual-in_err-base-in-Array.ensures

pub argument-returns-in_err-base-in-Array-clause-bits : goal.argument-returns-in_err-base-in-Array-clause-bits
argument-returns-in_err-base-in-Array-clause-bits g t c = c.in_err-base-in-Array.ensures.bits

pub argument-returns-in_err-base-in-Array-clause-limits : goal.argument-returns-in_err-base-in-Array-clause-limits
argument-returns-in_err-base-in-Array-clause-limits g t c = c.in_err-base-in-Array.ensures.limits

pub argument-returns-in_ok-base-in-Array-clause-kept : goal.argument-returns-in_ok-base-in-Array-clause-kept
argument-returns-in_ok-base-in-Array-clause-kept g t c = c.in_ok-base-in-Array.ensures.kept

pub argument-returns-in_ok-base-in-Array-clause-bits : goal.argument-returns-in_ok-base-in-Array-clause-bits
argument-returns-in_ok-base-in-Array-clause-bits g t c = c.in_ok-base-in-Array.ensures.bits

pub argument-returns-in_ok-base-in-Array-clause-limits : goal.argument-returns-in_ok-base-in-Array-clause-limits
argument-returns-in_ok-base-in-Array-clause-limits g t c = c.in_ok-base-in-Array.ensures.limits

pub argument-returns-in-Again-clause-kept : goal.argument-returns-in-Again-clause-kept
argument-returns-in-Again-clause-kept g t c = kept_same (scope_in c.args.frame.now) (activation_of c.args.frame.now) c.args.store.now

pub argument-returns-in-Again-clause-bits : goal.argument-returns-in-Again-clause-bits
argument-returns-in-Again-clause-bits g t c = refl

pub argument-returns-in-Again-clause-limits : goal.argument-returns-in-Again-clause-limits
argument-returns-in-Again-clause-limits g t c = refl

pub arguments-returns-in_err-given-clause-typed : goal.arguments-returns-in_err-given-clause-typed
arguments-returns-in_err-given-clause-typed g t c = if_none _ _ c.from_residual.ensures

pub arguments-returns-in_err-given-clause-kept : goal.arguments-returns-in_err-given-clause-kept
arguments-returns-in_err-given-clause-kept g t c = if_none _ _ c.from_residual.ensures
