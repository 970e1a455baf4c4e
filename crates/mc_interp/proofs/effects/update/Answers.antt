use Rattle.std.proofs.Common.{◌∙◌}
use Rattle.mc_typed.specs.Sound.{type_of}
use Rattle.mc_typed.specs.Views as plain
use Rattle.interp_words.specs.Words.{number_of}
use Rattle.mc_probe.specs.Views as view
use Rattle.mc_probe.specs.Expressions as does
use Rattle.mc_interp.specs.Stores.{state_of}
use Rattle.mc_interp.specs.Frames.{activation_of}
use Rattle.mc_interp.proofs.Kept.{kept_then, if_kept, ready_kept}
use Rattle.mc_interp.proofs.Placed as placed
use Rattle.mc_interp.proofs.Doings.{common_promoted, did_update_end, did_update, right_is, right_type}
use Rattle.mc_interp.proofs.effects.update.Goals as goal

pub returns-in_err-word-clause-did : goal.returns-in_err-word-clause-did
returns-in_err-word-clause-did g c =
    let M = g.P.Probe.leads in let N = g.met.P.Probe.stays in let J = g.met.P.Probe.joins in
    let W = activation_of c.args.frame.now in let S = state_of c.args.store.now in
    rw (c.from_residual-in_err-word.ensures)
    (did_update_end M N J (does.evaluate_place W (view.place_of c.args.target.now)) (does.evaluate W (view.expression_of c.args.right.now)) S c.in_ok-at.at _ _ _ _ _ c.in_ok-at.ensures.did c.args.of c.args.common c.args.operator c.in_err-word.ensures.did)

pub update-requires-clause-there : goal.update-requires-clause-there
update-requires-clause-there g c =
    let F = c.args.frame.now in
    let k = kept_then _ _ _ _ _ c.in_ok-at.ensures.kept c.in_ok-word.ensures.kept in
    let r = ready_kept F c.args.store.now c.value.new.store _ _ c.requires.ready k (c.in_ok-word.ensures.bits ∙ c.in_ok-at.ensures.bits) in
    placed.scalar_there F c.value.new.store _ c.in_ok-at.at _ c.args.of r c.in_ok-at.ensures.placed c.requires.target_type

pub update-requires-clause-typed : goal.update-requires-clause-typed
update-requires-clause-typed g c =
    let F = c.args.frame.now in
    let k = kept_then _ _ _ _ _ c.in_ok-at.ensures.kept c.in_ok-word.ensures.kept in
    let r = ready_kept F c.args.store.now c.value.new.store _ _ c.requires.ready k (c.in_ok-word.ensures.bits ∙ c.in_ok-at.ensures.bits) in
    placed.scalar_typed F c.value.new.store _ c.in_ok-at.at _ c.args.of r c.in_ok-at.ensures.placed c.requires.target_type

pub update-requires-clause-type_promoted : goal.update-requires-clause-type_promoted
update-requires-clause-type_promoted g c = common_promoted c.args.operator c.args.common _ _ c.requires.operands

pub update-requires-clause-right : goal.update-requires-clause-right
update-requires-clause-right g c = right_is c.args.operator c.args.common _ _ c.in_ok-word.word c.requires.operands c.in_ok-word.ensures.typed

pub returns-clause-did : goal.returns-clause-did
returns-clause-did g c =
    let M = g.P.Probe.leads in let N = g.met.P.Probe.stays in let J = g.met.P.Probe.joins in
    let W = activation_of c.args.frame.now in let S = state_of c.args.store.now in
    let u = type_of (plain.expression_of c.args.right.now) in
    did_update M N J (does.evaluate_place W (view.place_of c.args.target.now)) (does.evaluate W (view.expression_of c.args.right.now)) S c.in_ok-at.at _ _ _ _ _ c.in_ok-at.ensures.did c.args.of c.args.common c.args.operator (number_of u c.in_ok-word.word) _ _ c.in_ok-word.ensures.did
    (c.update.ensures.ran u (right_type c.args.operator c.args.common _ u c.requires.operands))

pub returns-clause-kept : goal.returns-clause-kept
returns-clause-kept g c =
    if_kept _ _ _ _ _ c.update.result (kept_then _ _ _ _ _ c.in_ok-at.ensures.kept c.in_ok-word.ensures.kept)
    (c.update.ensures.kept _ _ (rw c.requires.target_type at c.in_ok-at.ensures.placed))
