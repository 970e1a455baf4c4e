use Rattle.mc_probe.specs.Views as view
use Rattle.mc_probe.specs.Expressions as does
use Rattle.mc_probe.specs.Statements as effects
use Rattle.mc_interp.specs.Stores.{state_of}
use Rattle.mc_interp.specs.Frames.{activation_of}
use Rattle.mc_interp.proofs.Nodes.{did_choice_end}
use Rattle.mc_interp.proofs.Doings.{did_choice_true, did_choice_false, view_choice}
use Rattle.mc_interp.proofs.effects.+effect.Goals as goal

pub returns-in_err-truth-in-Choice-clause-did : goal.returns-in_err-truth-in-Choice-clause-did
returns-in_err-truth-in-Choice-clause-did g t c =
    let M = g.P.Probe.leads in let N = g.met.P.Probe.stays in let J = g.met.P.Probe.joins in
    let W = activation_of c.args.frame.now in let S = state_of c.args.store.now in
    rw (c.from_residual.ensures, c.in-Choice.is, view_choice)
    (did_choice_end M N J (does.evaluate W (view.expression_of c.in-Choice.test)) (effects.perform W (view.effect_of c.in-Choice.chosen.value)) (effects.perform W (view.effect_of c.in-Choice.other.value)) S _ _ _ c.in_err-truth-in-Choice.ensures.did)

pub returns-then-branch-clause-did : goal.returns-then-branch-clause-did
returns-then-branch-clause-did g t c =
    let M = g.P.Probe.leads in let N = g.met.P.Probe.stays in let J = g.met.P.Probe.joins in
    let W = activation_of c.args.frame.now in let S = state_of c.args.store.now in
    let k = rw c.deref.ensures at c.effect.ensures.did in
    rw (c.in-Choice.is, view_choice)
    (did_choice_true M N J (does.evaluate W (view.expression_of c.in-Choice.test)) (effects.perform W (view.effect_of c.in-Choice.chosen.value)) (effects.perform W (view.effect_of c.in-Choice.other.value)) S _ _ _ _ _ _ _ c.in_ok-truth-in-Choice.ensures.did c.if-branch.true k)

pub returns-else-branch-clause-did : goal.returns-else-branch-clause-did
returns-else-branch-clause-did g t c =
    let M = g.P.Probe.leads in let N = g.met.P.Probe.stays in let J = g.met.P.Probe.joins in
    let W = activation_of c.args.frame.now in let S = state_of c.args.store.now in
    let k = rw c.deref-else-branch.ensures at c.effect-else-branch.ensures.did in
    rw (c.in-Choice.is, view_choice)
    (did_choice_false M N J (does.evaluate W (view.expression_of c.in-Choice.test)) (effects.perform W (view.effect_of c.in-Choice.chosen.value)) (effects.perform W (view.effect_of c.in-Choice.other.value)) S _ _ _ _ _ _ _ c.in_ok-truth-in-Choice.ensures.did c.if-branch.false k)
