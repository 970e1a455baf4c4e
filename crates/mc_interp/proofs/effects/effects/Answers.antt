use Rattle.std.proofs.Common.{◌+◌, List, drop, map, subst, rules}
use Rattle.std.proofs.lemmas.List.{drop_all}
use Rattle.mc_typed.specs.declared.effects.Effect.{Effect}
use Rattle.mc_typed.specs.Views as plain
use Rattle.mc_probe.specs.Views as view
use Rattle.mc_interp.proofs.Sequences.{AreDoing, doing_step, doing_end, doing_done, drop_is}
use Rattle.mc_interp.proofs.effects.effects.Goals as goal

pub returns-in_err-effect-clause-did : goal.returns-in_err-effect-clause-did
returns-in_err-effect-clause-did g c =
    let B = g.P.Probe.bits in let M = g.P.Probe.leads in let N = g.met.P.Probe.stays in let J = g.met.P.Probe.joins in
    let F = c.args.frame.now in let all = c.args.all.now in let i = c.loop-whole.whole-index in
    let later = drop (i + 1) all in let e = c.whole-item.result in
    let h = subst (λ (l : List Effect). AreDoing B M F (map view.effect_of all) (map plain.effect_of l) (map view.effect_of l) c.args.store.now c.loop-whole.store c.args.probe.now c.loop-whole.probe)
    (drop_is all i e c.loop-whole-test.true c.whole-item.is) c.loop-whole.invariant in
    rw c.from_residual.ensures
    (doing_end B M N J F (map view.effect_of all) (plain.effect_of e) (map plain.effect_of later) (view.effect_of e) (map view.effect_of later) c.args.store.now c.loop-whole.store c.effect.new.store c.args.probe.now c.loop-whole.probe c.effect.new.probe h c.in_err-effect.ensures.did)

pub loop-whole-preserved : goal.loop-whole-preserved
loop-whole-preserved g c =
    let B = g.P.Probe.bits in let M = g.P.Probe.leads in let N = g.met.P.Probe.stays in let J = g.met.P.Probe.joins in
    let F = c.args.frame.now in let all = c.args.all.now in let i = c.loop-whole.whole-index in
    let later = drop (i + 1) all in let e = c.whole-item.result in
    let h = subst (λ (l : List Effect). AreDoing B M F (map view.effect_of all) (map plain.effect_of l) (map view.effect_of l) c.args.store.now c.loop-whole.store c.args.probe.now c.loop-whole.probe)
    (drop_is all i e c.loop-whole-test.true c.whole-item.is) c.loop-whole.invariant in
    doing_step B M N J F (map view.effect_of all) (plain.effect_of e) (map plain.effect_of later) (view.effect_of e) (map view.effect_of later) c.args.store.now c.loop-whole.store c.effect.new.store c.args.probe.now c.loop-whole.probe c.effect.new.probe h
    c.in_ok-effect.ensures.did c.in_ok-effect.ensures.kept c.in_ok-effect.ensures.bits c.in_ok-effect.ensures.limits

pub returns-clause-did : goal.returns-clause-did
returns-clause-did g c =
    let B = g.P.Probe.bits in let M = g.P.Probe.leads in let N = g.met.P.Probe.stays in let J = g.met.P.Probe.joins in
    let F = c.args.frame.now in let all = c.args.all.now in let i = c.loop-whole.whole-index in
    let h = subst (λ (l : List Effect). AreDoing B M F (map view.effect_of all) (map plain.effect_of l) (map view.effect_of l) c.args.store.now c.loop-whole.store c.args.probe.now c.loop-whole.probe)
    (drop_all i all (search rules)) c.loop-whole.invariant in
    doing_done B M N J F (map view.effect_of all) _ c.args.store.now c.loop-whole.store c.args.probe.now c.loop-whole.probe h
