use Rattle.std.proofs.Common.{ℕ, sym, ap, subst, ◌∙◌, None, option_map}
use Rattle.mc_steps.specs.Runs.{Run}
use Rattle.mc_steps.specs.Statements.{Given}
use Rattle.mc_probe.specs.Flat.{Flat}
use Rattle.mc_probe.specs.Trees.{Instrumented}
use Rattle.mc_probe.specs.Views as view
use Rattle.mc_interp.specs.Frames.{activation_of}
use Rattle.mc_interp.specs.Stores.{given_of, Did}
use Rattle.mc_interp.proofs.Exits.{did_entered, none_hit}
use Rattle.mc_interp.proofs.Opened.{body_is, few_called, if_then}
use Rattle.mc_interp.proofs.Runs.{did_no_more, did_told}
use Rattle.mc_interp.proofs.calls.+invoke.Goals as goal

pub returns-in-None-clause-did : goal.returns-in-None-clause-did
returns-in-None-clause-did g t c =
    let M = g.P.Probe.leads in let N = g.met.P.Probe.stays in let J = g.met.P.Probe.joins in
    let e = rw c.in-None.is at c.is_some.ensures in
    let s = rw c.in-None.is at c.begin-opened.ensures.stopped in
    did_no_more M N J _ None c.begin-opened.new.store c.args.probe.now c.args.probe.now c.hit_after.new.probe
    (did_told M N J _ None c.begin-opened.new.store c.args.probe.now s)
    (none_hit M c.is_some.result c.bits-bits.result c.entry_of.result c.args.probe.now c.hit_after.new.probe e c.hit_after.ensures.led)

pub returns-in-Some-clause-did : goal.returns-in-Some-clause-did
returns-in-Some-clause-did g t c =
    let M = g.P.Probe.leads in let N = g.met.P.Probe.stays in let J = g.met.P.Probe.joins in
    let F = c.in-Some.frame in
    let e = rw c.in-Some.is at c.is_some.ensures in
    let o = rw c.in-Some.is at c.begin-opened.ensures.opened in
    let bits = c.bits-bits.ensures ∙ ap (λ (i : Instrumented). i.bits) (sym o.program) in
    subst (λ (r : Run Flat ℕ (Given ℕ)). Did M r (option_map (λ _. given_of c.body.new.store.given) c.body.result) c.body.new.store c.args.probe.now c.body.new.probe)
    (sym o.ran)
    (did_entered M N J (activation_of F) c.is_some.result c.bits-bits.result c.entry_of.result c.args.probe.now c.hit_after.new.probe c.hit_after.ensures.led
    (view.function_of F.function.now) c.args.called.into c.begin-opened.new.store c.body.new.store (option_map (λ _. given_of c.body.new.store.given) c.body.result) c.body.new.probe e bits
    (c.entry_of.ensures F.function.now o.function) c.body.ensures.did)

pub returns-in-Some-clause-given : goal.returns-in-Some-clause-given
returns-in-Some-clause-given g t c =
    let o = rw c.in-Some.is at c.begin-opened.ensures.opened in
    if_then c.body.result (λ h. o.gives c.body.new.store.given h) c.body.ensures.given

pub returns-in-Some-clause-keeps : goal.returns-in-Some-clause-keeps
returns-in-Some-clause-keeps g t c =
    let o = rw c.in-Some.is at c.begin-opened.ensures.opened in
    if_then c.body.result (λ h. o.keeps c.body.new.store h c.body.ensures.limits) c.body.ensures.left

pub lend-requires-clause-few : goal.lend-requires-clause-few
lend-requires-clause-few g t c = few_called c.args.called c.args.store.now _ c.requires.ready

pub body-requires-clause-same : goal.body-requires-clause-same
body-requires-clause-same g t c =
    let k = c.args.called in
    let o = rw c.in-Some.is at c.begin-opened.ensures.opened in
    rw c.deref.ensures.value
    (body_is k.program.now k.shapes.now k.function c.in-Some.frame.function.now c.shape_at-shape.result.now c.requires.ready.shapes o.function c.shape_at-shape.ensures)
