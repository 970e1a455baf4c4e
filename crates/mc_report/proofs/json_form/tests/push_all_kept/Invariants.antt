use Rattle.std.proofs.Common.{◌≡◌, ◌++◌, false, length}
use Rattle.serde_json.specs.View.{items_of}
use Rattle.serde_json.specs.Written.{items_text}
use Rattle.mc_report.specs.Json.{all_kept_data}
use Rattle.mc_report.specs.steps.Texts.{AreTexts}
use Rattle.mc_report.proofs.json_form.tests.push_all_kept.Given as goal

abbrev pub invariant-loop-names_left : goal.invariant-loop-names_left
invariant-loop-names_left l = record {
  same : l.line.items ++ items_text l.later (items_of (all_kept_data l.names_left l.states_left)) ≡ l.initial.line.items ++ items_text false (items_of (all_kept_data l.fn.names l.fn.states));
  states : length l.states_left ≡ length l.names_left;
  text : AreTexts l.names_left;
}

abbrev pub decreases-loop-names_left : goal.decreases-loop-names_left
decreases-loop-names_left l = length l.names_left
