use Rattle.std.proofs.Common.{true, map}
use Rattle.std.specs.Prelude.{codes}
use Rattle.serde_json.specs.Data.{array, string}
use Rattle.serde_json.specs.View.{items_of}
use Rattle.mc_meaning.specs.Seen.{told_of}
use Rattle.mc_report.specs.Json.{number_data, value_data}
use Rattle.mc_report.specs.Words.{state_word}
use Rattle.mc_report.proofs.Members.{array_is, keyed, object_of_four}
use Rattle.mc_report.proofs.json_form.tests.push_run.Goals as goal

pub returns : goal.returns
returns c =
    let told = told_of c.args.run.now in
    let output = items_of (map number_data told.output) in
    let values = items_of (map value_data told.values) in
    object_of_four
    c.args.line.now.items
    c.push.new.self.items
    c.push_string.new.line.items
    c.push_output.new.line.items
    c.push_string-2.new.line.items
    c.push_values.new.line.items
    c.push-4.new.self.items
    (codes "name")
    (codes "output")
    (codes "state")
    (codes "values")
    (string c.args.name.now)
    (array output)
    (string (state_word c.args.state))
    (array values)
    c.in_ok-push.ensures.items
    (rw (c.text_of.ensures, c.bytes.ensures) at c.in_ok-push_string.ensures)
    (keyed c.push_string.new.line.items c.push_key.new.line.items c.push_output.new.line.items true (codes "output") (array output) c.in_ok-push_key.ensures
    (array_is c.push_key.new.line.items c.push-2.new.self.items c.push_output.new.line.items output c.in_ok-push-2.ensures.items (rw c.deref.ensures.value at c.in_ok-push_output.ensures)))
    (rw c.state_word.ensures at c.in_ok-push_string-2.ensures)
    (keyed c.push_string-2.new.line.items c.push_key-2.new.line.items c.push_values.new.line.items true (codes "values") (array values) c.in_ok-push_key-2.ensures
    (array_is c.push_key-2.new.line.items c.push-3.new.self.items c.push_values.new.line.items values c.in_ok-push-3.ensures.items (rw c.deref-2.ensures.value at c.in_ok-push_values.ensures)))
    c.in_ok-push-4.ensures.items
