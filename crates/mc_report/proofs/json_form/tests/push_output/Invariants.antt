use Rattle.std.proofs.Common.{◌≡◌, ◌++◌, false, length, map}
use Rattle.serde_json.specs.View.{items_of}
use Rattle.serde_json.specs.Written.{items_text}
use Rattle.mc_report.specs.Json.{number_data}
use Rattle.mc_report.proofs.json_form.tests.push_output.Given as goal

abbrev pub invariant-loop-left : goal.invariant-loop-left
invariant-loop-left l =
    l.line.items ++ items_text l.later (items_of (map number_data l.left)) ≡ l.initial.line.items ++ items_text false (items_of (map number_data l.fn.output))

abbrev pub decreases-loop-left : goal.decreases-loop-left
decreases-loop-left l = length l.left
