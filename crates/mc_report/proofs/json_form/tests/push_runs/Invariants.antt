use Rattle.std.proofs.Common.{◌≡◌, ◌++◌, false, length, map}
use Rattle.serde_json.specs.View.{items_of}
use Rattle.serde_json.specs.Written.{items_text}
use Rattle.mc_meaning.specs.Seen.{told_of}
use Rattle.mc_report.specs.Json.{runs_data}
use Rattle.mc_report.specs.steps.Texts.{AreTexts}
use Rattle.mc_report.proofs.json_form.tests.push_runs.Given as goal

abbrev pub invariant-loop-names_left : goal.invariant-loop-names_left
invariant-loop-names_left l = record {
  same : l.line.items ++ items_text l.later (items_of (runs_data l.names_left l.states_left (map told_of l.runs_left))) ≡ l.initial.line.items ++ items_text false (items_of (runs_data l.fn.names l.fn.states (map told_of l.fn.runs)));
  states : length l.states_left ≡ length l.names_left;
  runs : length l.runs_left ≡ length l.names_left;
  text : AreTexts l.names_left;
}

abbrev pub decreases-loop-names_left : goal.decreases-loop-names_left
decreases-loop-names_left l = length l.names_left
