use Rattle.std.specs.Prelude.{codes}
use Rattle.mc_report.specs.Json.{count_data}
use Rattle.mc_report.specs.Seen.{report_of}
use Rattle.mc_report.specs.declared.kind.Kind.TheVariants.{Entries, Exits, Statements, Labels, Outcomes, Conditions}
use Rattle.mc_report.proofs.Members.{object_of_six}
use Rattle.mc_report.proofs.json_form.counts.push_counts.Goals as goal

pub returns : goal.returns
returns c =
    let r = report_of c.args.report.now in
    object_of_six
    c.args.line.now.items
    c.push.new.self.items
    c.push_kind.new.line.items
    c.push_kind-2.new.line.items
    c.push_kind-3.new.line.items
    c.push_kind-4.new.line.items
    c.push_kind-5.new.line.items
    c.push_kind-6.new.line.items
    c.push-2.new.self.items
    (codes "conditions")
    (codes "entries")
    (codes "exits")
    (codes "labels")
    (codes "outcomes")
    (codes "statements")
    (count_data Conditions r.obligations r.verdicts)
    (count_data Entries r.obligations r.verdicts)
    (count_data Exits r.obligations r.verdicts)
    (count_data Labels r.obligations r.verdicts)
    (count_data Outcomes r.obligations r.verdicts)
    (count_data Statements r.obligations r.verdicts)
    c.in_ok-push.ensures.items
    c.in_ok-push_kind.ensures
    c.in_ok-push_kind-2.ensures
    c.in_ok-push_kind-3.ensures
    c.in_ok-push_kind-4.ensures
    c.in_ok-push_kind-5.ensures
    c.in_ok-push_kind-6.ensures
    c.in_ok-push-2.ensures.items
