use Rattle.std.proofs.Common.{◌∙◌, true, false}
use Rattle.std.specs.Prelude.{codes}
use Rattle.serde_json.specs.Data.{array, number, string, unsigned}
use Rattle.serde_json.specs.View.{items_of}
use Rattle.mc_lex.specs.Lines.{line_of, column_of}
use Rattle.mc_report.specs.Json.{reason_data, shown_data}
use Rattle.mc_report.specs.Lines.{decision_in}
use Rattle.mc_report.specs.Seen.{report_of}
use Rattle.mc_report.specs.Words.{id_text, verdict_word}
use Rattle.mc_report.proofs.Members.{keyed, number_as, object_of_six}
use Rattle.mc_report.proofs.json_form.obligations.push_obligation.Goals as goal

pub returns : goal.returns
returns c =
    let r = report_of c.args.report.now in
    let o = c.args.obligation.now in
    let v = c.args.verdict.now in
    let by = array (items_of (shown_data r.names (decision_in r.decisions o.id) v.evidence)) in
    object_of_six
    c.args.line.now.items
    c.push.new.self.items
    c.push_by.new.line.items
    c.push_number.new.line.items
    c.push_string.new.line.items
    c.push_number-2.new.line.items
    c.push_reason.new.line.items
    c.push_string-2.new.line.items
    c.push-2.new.self.items
    (codes "by")
    (codes "column")
    (codes "id")
    (codes "line")
    (codes "reason")
    (codes "verdict")
    by
    (number (unsigned (column_of r.source o.span.start)))
    (string (id_text o.id))
    (number (unsigned (line_of r.source o.span.start)))
    (reason_data v.reason)
    (string (verdict_word v.state))
    c.in_ok-push.ensures.items
    (keyed c.push.new.self.items c.push_key.new.line.items c.push_by.new.line.items false (codes "by") by c.in_ok-push_key.ensures c.in_ok-push_by.ensures)
    (number_as c.push_by.new.line.items c.push_number.new.line.items true (codes "column") c.from.result (column_of r.source o.span.start) (c.from.ensures ∙ c.place_at-place.ensures.column) c.in_ok-push_number.ensures)
    (rw (c.as_str.ensures.value, c.in_ok-id.ensures) at c.in_ok-push_string.ensures)
    (number_as c.push_string.new.line.items c.push_number-2.new.line.items true (codes "line") c.from-2.result (line_of r.source o.span.start) (c.from-2.ensures ∙ c.place_at-place.ensures.line) c.in_ok-push_number-2.ensures)
    c.in_ok-push_reason.ensures
    (rw c.verdict_word.ensures at c.in_ok-push_string-2.ensures)
    c.in_ok-push-2.ensures.items
