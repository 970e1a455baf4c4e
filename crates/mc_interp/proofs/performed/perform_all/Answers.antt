use Rattle.std.proofs.Common.{◌+◌, List, drop, map, subst, rules}
use Rattle.std.proofs.lemmas.List.{drop_all}
use Rattle.mc_probe.specs.Erase.{erase_effect}
use Rattle.mc_interp.specs.declared.prepared.steps.Step.{Step}
use Rattle.mc_interp.specs.Views as prepared
use Rattle.mc_interp.proofs.Sequences.{AreDoing, doing_step, doing_end, doing_done, drop_is}
use Rattle.mc_interp.proofs.performed.perform_all.Goals as goal

pub returns-in_err-perform-clause-did : goal.returns-in_err-perform-clause-did
returns-in_err-perform-clause-did g c =
    let B = g.P.Probe.bits in let M = g.P.Probe.leads in let N = g.met.P.Probe.stays in let J = g.met.P.Probe.joins in
    let F = c.args.frame.now in let all = c.args.steps.now in let i = c.loop-step.step-index in
    let later = drop (i + 1) all in let e = c.step-item.result in
    let h = subst (λ (l : List Step). AreDoing B M F (map prepared.effect_of all) (map erase_effect (map prepared.effect_of l)) (map prepared.effect_of l) c.args.store.now c.loop-step.store c.args.probe.now c.loop-step.probe)
    (drop_is all i e c.loop-step-test.true c.step-item.is) c.loop-step.invariant in
    rw c.from_residual.ensures
    (doing_end B M N J F (map prepared.effect_of all) (erase_effect (prepared.effect_of e)) (map erase_effect (map prepared.effect_of later)) (prepared.effect_of e) (map prepared.effect_of later) c.args.store.now c.loop-step.store c.perform.new.store c.args.probe.now c.loop-step.probe c.perform.new.probe h c.in_err-perform.ensures.did)

pub loop-step-preserved : goal.loop-step-preserved
loop-step-preserved g c =
    let B = g.P.Probe.bits in let M = g.P.Probe.leads in let N = g.met.P.Probe.stays in let J = g.met.P.Probe.joins in
    let F = c.args.frame.now in let all = c.args.steps.now in let i = c.loop-step.step-index in
    let later = drop (i + 1) all in let e = c.step-item.result in
    let h = subst (λ (l : List Step). AreDoing B M F (map prepared.effect_of all) (map erase_effect (map prepared.effect_of l)) (map prepared.effect_of l) c.args.store.now c.loop-step.store c.args.probe.now c.loop-step.probe)
    (drop_is all i e c.loop-step-test.true c.step-item.is) c.loop-step.invariant in
    doing_step B M N J F (map prepared.effect_of all) (erase_effect (prepared.effect_of e)) (map erase_effect (map prepared.effect_of later)) (prepared.effect_of e) (map prepared.effect_of later) c.args.store.now c.loop-step.store c.perform.new.store c.args.probe.now c.loop-step.probe c.perform.new.probe h
    c.in_ok-perform.ensures.did c.in_ok-perform.ensures.kept c.in_ok-perform.ensures.bits c.in_ok-perform.ensures.limits

pub returns-clause-did : goal.returns-clause-did
returns-clause-did g c =
    let B = g.P.Probe.bits in let M = g.P.Probe.leads in let N = g.met.P.Probe.stays in let J = g.met.P.Probe.joins in
    let F = c.args.frame.now in let all = c.args.steps.now in let i = c.loop-step.step-index in
    let h = subst (λ (l : List Step). AreDoing B M F (map prepared.effect_of all) (map erase_effect (map prepared.effect_of l)) (map prepared.effect_of l) c.args.store.now c.loop-step.store c.args.probe.now c.loop-step.probe)
    (drop_all i all (search rules)) c.loop-step.invariant in
    doing_done B M N J F (map prepared.effect_of all) _ c.args.store.now c.loop-step.store c.args.probe.now c.loop-step.probe h
