use Rattle.std.proofs.Common.{◌≡◌, ◌∙◌, true, false}
use Rattle.std.specs.Prelude.{codes}
use Rattle.serde_json.specs.Data.{number, unsigned}
use Rattle.mc_oblige.specs.declared.verdict.VerdictState.{VerdictState}
use Rattle.mc_oblige.specs.declared.verdict.VerdictState.TheVariants.{Met, Justified, Stale, Missing}
use Rattle.mc_report.specs.Counts.{counted, total}
use Rattle.mc_report.specs.Seen.{report_of}
use Rattle.mc_report.proofs.Members.{number_as, object_of_five}
use Rattle.mc_report.proofs.json_form.counts.push_count.Goals as goal

pub returns : goal.returns
returns c =
    let r = report_of c.args.report.now in
    let kind = c.args.kind in
    let seen : (state : VerdictState) → counted kind state c.as_slice-obligations.result.now c.as_slice-verdicts.result.now ≡ counted kind state r.obligations r.verdicts =
    λ state i. counted kind state (c.as_slice-obligations.ensures.value i) (c.as_slice-verdicts.ensures.value i) in
    object_of_five
    c.args.line.now.items
    c.push.new.self.items
    c.push_number.new.line.items
    c.push_number-2.new.line.items
    c.push_number-3.new.line.items
    c.push_number-4.new.line.items
    c.push_number-5.new.line.items
    c.push-2.new.self.items
    (codes "justified")
    (codes "met")
    (codes "missing")
    (codes "stale")
    (codes "total")
    (number (unsigned (counted kind Justified r.obligations r.verdicts)))
    (number (unsigned (counted kind Met r.obligations r.verdicts)))
    (number (unsigned (counted kind Missing r.obligations r.verdicts)))
    (number (unsigned (counted kind Stale r.obligations r.verdicts)))
    (number (unsigned (total kind r.obligations)))
    c.in_ok-push.ensures.items
    (number_as c.push.new.self.items c.push_number.new.line.items false (codes "justified") c.counted-justified.result (counted kind Justified r.obligations r.verdicts) (c.counted-justified.ensures ∙ seen Justified) c.in_ok-push_number.ensures)
    (number_as c.push_number.new.line.items c.push_number-2.new.line.items true (codes "met") c.counted-met.result (counted kind Met r.obligations r.verdicts) (c.counted-met.ensures ∙ seen Met) c.in_ok-push_number-2.ensures)
    (number_as c.push_number-2.new.line.items c.push_number-3.new.line.items true (codes "missing") c.counted-missing.result (counted kind Missing r.obligations r.verdicts) (c.counted-missing.ensures ∙ seen Missing) c.in_ok-push_number-3.ensures)
    (number_as c.push_number-3.new.line.items c.push_number-4.new.line.items true (codes "stale") c.counted-stale.result (counted kind Stale r.obligations r.verdicts) (c.counted-stale.ensures ∙ seen Stale) c.in_ok-push_number-4.ensures)
    (number_as c.push_number-4.new.line.items c.push_number-5.new.line.items true (codes "total") c.total.result (total kind r.obligations) (c.total.ensures ∙ (λ i. total kind (c.as_slice-obligations.ensures.value i))) c.in_ok-push_number-5.ensures)
    c.in_ok-push-2.ensures.items
