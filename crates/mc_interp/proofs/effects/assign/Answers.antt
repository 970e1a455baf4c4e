use Rattle.std.proofs.Common.{subst, ◌∙◌}
use Rattle.interp_words.specs.Words.{Holds}
use Rattle.mc_probe.specs.Views as view
use Rattle.mc_probe.specs.Expressions as does
use Rattle.mc_interp.specs.Stores.{state_of}
use Rattle.mc_interp.specs.Frames.{activation_of}
use Rattle.mc_interp.proofs.Kept.{kept_then, ready_kept}
use Rattle.mc_interp.proofs.Placed as placed
use Rattle.mc_interp.proofs.Doings.{did_assign_end, did_assign}
use Rattle.mc_interp.proofs.effects.assign.Goals as goal

pub returns-in_err-word-clause-did : goal.returns-in_err-word-clause-did
returns-in_err-word-clause-did g c =
    let M = g.P.Probe.leads in let N = g.met.P.Probe.stays in let J = g.met.P.Probe.joins in
    let W = activation_of c.args.frame.now in let S = state_of c.args.store.now in
    rw (c.from_residual-in_err-word.ensures)
    (did_assign_end M N J (does.evaluate_place W (view.place_of c.args.target.now)) (does.evaluate W (view.expression_of c.args.right.now)) S c.in_ok-at.at _ _ _ _ _ c.in_ok-at.ensures.did c.in_err-word.ensures.did)

pub write-requires-clause-there : goal.write-requires-clause-there
write-requires-clause-there g c =
    let F = c.args.frame.now in
    let k = kept_then _ _ _ _ _ c.in_ok-at.ensures.kept c.in_ok-word.ensures.kept in
    let r = ready_kept F c.args.store.now c.value.new.store _ _ c.requires.ready k (c.in_ok-word.ensures.bits ∙ c.in_ok-at.ensures.bits) in
    placed.scalar_there F c.value.new.store _ c.in_ok-at.at _ c.args.of r c.in_ok-at.ensures.placed c.requires.target_type

pub write-requires-clause-fits : goal.write-requires-clause-fits
write-requires-clause-fits g c = subst (λ a. Holds a c.in_ok-word.word) c.requires.value_type c.in_ok-word.ensures.typed

pub returns-clause-did : goal.returns-clause-did
returns-clause-did g c =
    let M = g.P.Probe.leads in let N = g.met.P.Probe.stays in let J = g.met.P.Probe.joins in
    let W = activation_of c.args.frame.now in let S = state_of c.args.store.now in
    let e = rw c.requires.value_type at c.in_ok-word.ensures.did in
    did_assign M N J (does.evaluate_place W (view.place_of c.args.target.now)) (does.evaluate W (view.expression_of c.args.right.now)) S c.in_ok-at.at _ _ _ _ _ c.in_ok-at.ensures.did _ _ e c.write.ensures.ran

pub returns-clause-kept : goal.returns-clause-kept
returns-clause-kept g c =
    kept_then _ _ _ _ _ (kept_then _ _ _ _ _ c.in_ok-at.ensures.kept c.in_ok-word.ensures.kept)
    (c.write.ensures.kept _ _ (rw c.requires.target_type at c.in_ok-at.ensures.placed))
