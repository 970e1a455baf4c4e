use Rattle.std.proofs.Common.{◌∙◌, ◌++◌, Some, ap, option_map}
use Rattle.mc_typed.specs.Tree as t
use Rattle.types_faults.specs.Faults.{least_of}
use Rattle.types_rules.specs.Values.{number_found}
use Rattle.types_rules.specs.Constants.{constant_found}
use Rattle.types_rules.specs.Statements.{alone, label_value, with_label, case_faults}
use Rattle.types_scopes.specs.Views.{scope_of}
use Rattle.types_scopes.specs.Found.{found_of}
use Rattle.types_scopes.specs.Statements.{statements_of}
use Rattle.types_faults.specs.Kept.{listed}
use Rattle.types_scopes.proofs.Leasts.{same_parts}
use Rattle.types_jumps.proofs.labels.case_of.Goals as goal

pub returns : goal.returns
returns c =
    let s = scope_of c.args.scope.now in
    let x = found_of c.args.found.now s in
    let v = label_value s.labels (constant_found x) in
    let own = case_faults c.args.label c.args.at x.constant (number_found x) s.labels in
    same_parts c.after-fault.result (least_of (listed c.args.found.now.fault ++ own))
    (option_map statements_of c.in_ok-value.value)
    (option_map (λ w. alone (t.Label (Some w) c.args.label)) v)
    (scope_of c.add_label.new.scope) (with_label v s)
    (c.after-fault.ensures own (c.case_fault-own.ensures s))
    (c.in_ok-value.ensures
    ∙ ap (option_map (λ w. alone (t.Label (Some w) c.args.label))) (c.case_value-value.ensures s))
    (c.in_ok-add_label.ensures ∙ ap (λ w. with_label w s) (c.case_value-value.ensures s))
