use Rattle.std.proofs.Common.{◌∷◌, [], ◌≡◌, ◌+◌, ◌∙◌, ◌<◌, length, sym, subst, arith}
use Rattle.std.specs.Prelude.{slice_index}
use Rattle.std.proofs.lemmas.List.{get_or_default}
use Rattle.cover_recorder.specs.Recorder.{RecorderView, Leads}
use Rattle.cover_recorder.proofs.Stamps.{first_leads, hits_now, stamped_leads}
use Rattle.cover_recorder.proofs.recorder.RecorderProbe.hit.Goals as goal

pub overflow_add-self-inside : goal.overflow_add-self-inside
overflow_add-self-inside c =
    let s = c.self.inside in
    let a = hits_now s.cover.now s.pass.view s.test c.args.bit c.args.self.now c.self.view_is c.requires in
    omega (arith, c.self.invariant.inside a.0, c.self.invariant.few)

pub returns-then-index-self-clause-led : goal.returns-then-index-self-clause-led
returns-then-index-self-clause-led c =
    subst (λ (x : RecorderView). Leads (c.args.bit ∷ []) c.args.self.now x) (sym c.first.ensures.hit) (first_leads c.args.self.now c.args.bit)

pub returns-else-index-self-clause-led : goal.returns-else-index-self-clause-led
returns-else-index-self-clause-led c =
    let s = c.self.inside in
    let a = hits_now s.cover.now s.pass.view s.test c.args.bit c.args.self.now c.self.view_is c.requires in
    let long = s.stamps.ok in
    let inside : c.args.bit < length s.stamps.items = omega (arith, a.1, c.self.invariant.whole, long) in
    let read : c.index.result.now ≡ slice_index s.stamps.items c.args.bit =
    c.index.ensures ∙ get_or_default s.stamps.items c.args.bit c.index.result.now 0 inside in
    let same : slice_index s.stamps.items c.args.bit ≡ s.test + 1 = sym read ∙ c.if-index-self.false in
    stamped_leads s.cover.now s.pass s.stamps.items s.stamps.len s.test c.args.bit c.args.self.now c.self.invariant c.self.view_is same
