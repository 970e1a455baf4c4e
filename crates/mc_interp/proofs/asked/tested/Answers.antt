use Rattle.std.proofs.Common.{◌∙◌, arith, refl, subst}
use Rattle.mc_typed.specs.Sound.{IsExpression}
use Rattle.mc_probe.specs.Expressions as does
use Rattle.mc_probe.proofs.Erased.{expression_erases}
use Rattle.mc_interp.specs.Stores.{state_of}
use Rattle.mc_interp.specs.Frames.{activation_of, scope_in}
use Rattle.mc_interp.specs.Views.{question_of}
use Rattle.mc_interp.proofs.Asking.{ready_own}
use Rattle.mc_interp.proofs.Kept.{if_kept, ready_kept, register_there, registers_few}
use Rattle.mc_interp.proofs.Nodes.{did_decided}
use Rattle.mc_interp.proofs.Runs.{did_told}
use Rattle.mc_interp.proofs.asked.tested.Goals as goal

-- ---- a decision

pub begin-requires-clause-there : goal.begin-requires-clause-there
begin-requires-clause-there g c =
    let f = rw c.in-Asked.is at c.requires.fits in
    omega (arith, c.requires.ready.registers, f.0)

pub begin-requires-clause-small : goal.begin-requires-clause-small
begin-requires-clause-small g c = c.requires.ready.registers_small

pub answer-outcome-requires-clause-sound : goal.answer-outcome-requires-clause-sound
answer-outcome-requires-clause-sound g c =
    let s = rw c.in-Asked.is at c.requires.sound in
    rw c.deref.ensures s

pub answer-outcome-requires-clause-fits : goal.answer-outcome-requires-clause-fits
answer-outcome-requires-clause-fits g c =
    let f = rw c.in-Asked.is at c.requires.fits in
    rw c.deref.ensures f.1

pub answer-outcome-requires-clause-ready : goal.answer-outcome-requires-clause-ready
answer-outcome-requires-clause-ready g c =
    let F = c.args.frame.now in
    ready_own F c.begin.new.store _ (ready_kept F c.args.store.now c.begin.new.store _ _ c.requires.ready c.begin.ensures.kept refl)

pub decide-requires-clause-there : goal.decide-requires-clause-there
decide-requires-clause-there g c =
    let F = c.args.frame.now in
    let f = rw c.in-Asked.is at c.requires.fits in
    register_there F c.args.store.now c.answer-outcome.new.store _ c.in-Asked.register c.answer-outcome.result c.requires.ready f.0
    (if_kept (scope_in F) (activation_of F) c.args.store.now c.begin.new.store c.answer-outcome.new.store c.answer-outcome.result c.begin.ensures.kept c.answer-outcome.ensures.kept)

pub decide-requires-clause-small : goal.decide-requires-clause-small
decide-requires-clause-small g c =
    let F = c.args.frame.now in
    registers_few F c.args.store.now c.answer-outcome.new.store _ c.answer-outcome.result c.requires.ready
    (if_kept (scope_in F) (activation_of F) c.args.store.now c.begin.new.store c.answer-outcome.new.store c.answer-outcome.result c.begin.ensures.kept c.answer-outcome.ensures.kept)

pub decide-requires-clause-bits : goal.decide-requires-clause-bits
decide-requires-clause-bits g c = c.requires.ready.bits

pub returns-in-Asked-clause-did : goal.returns-in-Asked-clause-did
returns-in-Asked-clause-did g c =
    let M = g.P.Probe.leads in let N = g.met.P.Probe.stays in let J = g.met.P.Probe.joins in
    let W = activation_of c.args.frame.now in let S = state_of c.args.store.now in
    let E = does.evaluate W (question_of c.in-Asked.question.value) in
    let r = rw c.deref.ensures at c.answer-outcome.ensures.ran in
    rw c.in-Asked.is
    (did_decided M N J W c.in-Asked.register c.in-Asked.base E S c.answer-outcome.result c.begin.new.store c.answer-outcome.new.store _ _ _ c.begin.ensures.ran
    (did_told M N J _ c.answer-outcome.result c.answer-outcome.new.store c.args.probe.now r) c.decide.ensures.did)

pub returns-in-Asked-clause-kept : goal.returns-in-Asked-clause-kept
returns-in-Asked-clause-kept g c =
    if_kept _ _ _ _ _ c.answer-outcome.result c.begin.ensures.kept c.answer-outcome.ensures.kept

pub returns-in-Asked-clause-bits : goal.returns-in-Asked-clause-bits
returns-in-Asked-clause-bits g c = c.decide.ensures.bits

pub returns-in-Asked-clause-limits : goal.returns-in-Asked-clause-limits
returns-in-Asked-clause-limits g c = c.answer-outcome.ensures.limits ∙ c.begin.ensures.limits

-- ---- any other test

pub truth-requires-clause-sound : goal.truth-requires-clause-sound
truth-requires-clause-sound g c =
    let s = rw c.in-Walked.is at c.requires.sound in
    subst (λ e. IsExpression e (scope_in c.args.frame.now)) (expression_erases c.in-Walked.tree.now) s

pub truth-requires-clause-fits : goal.truth-requires-clause-fits
truth-requires-clause-fits g c =
    let f = rw c.in-Walked.is at c.requires.fits in
    f

pub truth-requires-clause-ready : goal.truth-requires-clause-ready
truth-requires-clause-ready g c = c.requires.ready

pub truth-requires-clause-invokes : goal.truth-requires-clause-invokes
truth-requires-clause-invokes g c = c.requires.invokes

pub returns-in-Walked-clause-did : goal.returns-in-Walked-clause-did
returns-in-Walked-clause-did g c = rw c.in-Walked.is c.truth.ensures.did

pub returns-in-Walked-clause-kept : goal.returns-in-Walked-clause-kept
returns-in-Walked-clause-kept g c = c.truth.ensures.kept

pub returns-in-Walked-clause-bits : goal.returns-in-Walked-clause-bits
returns-in-Walked-clause-bits g c = c.truth.ensures.bits

pub returns-in-Walked-clause-limits : goal.returns-in-Walked-clause-limits
returns-in-Walked-clause-limits g c = c.truth.ensures.limits
