use Rattle.std.specs.Prelude.{codes}
use Rattle.serde_json.specs.Data.{null, string}
use Rattle.mc_report.specs.Words.{state_word}
use Rattle.mc_report.proofs.Members.{object_of_four}
use Rattle.mc_report.proofs.json_form.tests.push_kept.Goals as goal

pub returns : goal.returns
returns c =
    object_of_four
    c.args.line.now.items
    c.push.new.self.items
    c.push_string.new.line.items
    c.push_null.new.line.items
    c.push_string-2.new.line.items
    c.push_null-2.new.line.items
    c.push-2.new.self.items
    (codes "name")
    (codes "output")
    (codes "state")
    (codes "values")
    (string c.args.name.now)
    null
    (string (state_word c.args.state))
    null
    c.in_ok-push.ensures.items
    (rw (c.text_of.ensures, c.bytes.ensures) at c.in_ok-push_string.ensures)
    c.in_ok-push_null.ensures
    (rw c.state_word.ensures at c.in_ok-push_string-2.ensures)
    c.in_ok-push_null-2.ensures
    c.in_ok-push-2.ensures.items
