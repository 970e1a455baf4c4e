use Rattle.std.proofs.Common.{◌≡◌, ◌<◌, length, get_or, set, ap, sym, subst, ◌∙◌, arith}
use Rattle.mc_oblige.specs.declared.justification.Justification.{Justification}
use Rattle.mc_oblige.specs.declared.verdict.Verdict.{Verdict}
use Rattle.mc_oblige.specs.steps.Named.{named_by, named_at}
use Rattle.mc_oblige.proofs.Naming.{named_set, naming_step}
use Rattle.mc_oblige.proofs.judging.justify_all.Goals as goal

pub loop-justification-preserved : goal.loop-justification-preserved
loop-justification-preserved c =
    let i = c.loop-justification.justification-index in
    let j = c.justification-item.result in
    let js = c.args.justified.now in
    let vs = c.loop-justification.verdicts.items in
    let old : Verdict = c.index_mut.result.now in
    let P : Justification → Type 0 = λ k. k.obligation < length vs in
    let low = c.requires i j c.loop-justification-test.true in
    let within : j.obligation < length vs = subst P (sym c.justification-item.is) (omega (arith, low)) in
    let new : c.justify.new.self ≡ named_by j.reason (get_or vs j.obligation old) =
    c.justify.ensures ∙ ap (λ r. named_by r old) c.in_ok-reason.ensures ∙ ap (λ v. named_by j.reason v) c.index_mut.ensures.value in
    let after : set vs j.obligation c.justify.new.self ≡ named_at j.obligation j.reason vs =
    ap (λ v. set vs j.obligation v) new ∙ named_set j.obligation j.reason vs old within in
    record {
      count = c.loop-justification.invariant.count;
      rest = naming_step js i j c.loop-justification-test.true c.justification-item.is c.args.verdicts.now.items vs (set vs j.obligation c.justify.new.self) c.loop-justification.invariant.rest after;
    }
