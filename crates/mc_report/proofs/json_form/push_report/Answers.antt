use Rattle.std.proofs.Common.{◌∙◌, true, false, length}
use Rattle.std.specs.Prelude.{codes}
use Rattle.serde_json.specs.Data.{array, number, string, unsigned}
use Rattle.serde_json.specs.View.{items_of}
use Rattle.mc_report.specs.Json.{counts_data, json_data, obligations_data, tests_data}
use Rattle.mc_report.specs.Seen.{report_of}
use Rattle.mc_report.specs.Status.{status_of}
use Rattle.mc_report.specs.Words.{hexadecimal, mode_word}
use Rattle.mc_report.proofs.Members.{keyed, number_as, object_of_six}
use Rattle.mc_report.proofs.Texts.{are_texts}
use Rattle.mc_report.proofs.Turns.{judged_length}
use Rattle.mc_report.proofs.json_form.push_report.Goals as goal

pub push_counts-requires : goal.push_counts-requires
push_counts-requires c =
    let r = report_of c.args.report.now in
    judged_length (length r.names) r.decisions r.obligations r.verdicts c.requires.report.judged

pub push_tests-requires-clause-text : goal.push_tests-requires-clause-text
push_tests-requires-clause-text c = are_texts (report_of c.args.report.now).names c.requires.names

pub returns : goal.returns
unfolding json_data
returns c =
    let r = report_of c.args.report.now in
    let counts = counts_data r.obligations r.verdicts in
    let obligations = array (items_of (obligations_data r r.obligations r.verdicts)) in
    let tests = array (items_of (tests_data r.names r.states r.results)) in
    object_of_six
    c.args.line.now.items
    c.push.new.self.items
    c.push_counts.new.line.items
    c.push_string.new.line.items
    c.push_obligations.new.line.items
    c.push_string-2.new.line.items
    c.push_number.new.line.items
    c.push_tests.new.line.items
    c.push-2.new.self.items
    (codes "counts")
    (codes "mode")
    (codes "obligations")
    (codes "source")
    (codes "status")
    (codes "tests")
    counts
    (string (mode_word r.mode))
    obligations
    (string (hexadecimal r.digest))
    (number (unsigned (status_of r)))
    tests
    c.in_ok-push.ensures.items
    (keyed c.push.new.self.items c.push_key.new.line.items c.push_counts.new.line.items false (codes "counts") counts c.in_ok-push_key.ensures c.in_ok-push_counts.ensures)
    (rw c.mode_word.ensures at c.in_ok-push_string.ensures)
    (keyed c.push_string.new.line.items c.push_key-2.new.line.items c.push_obligations.new.line.items true (codes "obligations") obligations c.in_ok-push_key-2.ensures c.in_ok-push_obligations.ensures)
    (rw (c.as_str.ensures.value, c.in_ok-digest.ensures, c.as_slice.ensures) at c.in_ok-push_string-2.ensures)
    (number_as c.push_string-2.new.line.items c.push_number.new.line.items true (codes "status") c.from.result (status_of r) (c.from.ensures ∙ c.status.ensures) c.in_ok-push_number.ensures)
    (keyed c.push_number.new.line.items c.push_key-3.new.line.items c.push_tests.new.line.items true (codes "tests") tests c.in_ok-push_key-3.ensures c.in_ok-push_tests.ensures)
    c.in_ok-push-2.ensures.items
