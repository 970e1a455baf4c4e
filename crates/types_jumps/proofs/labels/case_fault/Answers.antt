use Rattle.std.proofs.Common.{◌∙◌, ◌++◌, ap}
use Rattle.types_faults.specs.declared.fault.FaultKind.TheVariants.{DuplicateLabel}
use Rattle.types_faults.specs.Faults.{fault_if, least_of}
use Rattle.types_rules.specs.Values.{number_found}
use Rattle.types_rules.specs.Constants.{constant_found, constant_faults}
use Rattle.types_rules.specs.Statements.{is_repeated, label_value, place_faults}
use Rattle.types_scopes.specs.Found.{found_of}
use Rattle.types_scopes.proofs.Leasts.{lesser_joined}
use Rattle.types_jumps.proofs.labels.case_fault.Goals as goal

pub returns : goal.returns
returns c = λ s.
    let x = found_of c.args.found.now s in
    let all = c.args.labels.now in
    let at = c.args.label.start in
    lesser_joined c.lesser.result c.fault_of_constant-constant.result c.label_fault-own.result
    (constant_faults c.args.at c.args.found.now.constant (number_found x))
    (place_faults all at
    ++ fault_if (is_repeated all (label_value all (constant_found x))) DuplicateLabel at)
    c.lesser.ensures (c.fault_of_constant-constant.ensures s)
    (c.label_fault-own.ensures
    ∙ ap (λ b. least_of (place_faults all at ++ fault_if b DuplicateLabel at))
    (c.is_repeated-repeated.ensures ∙ ap (is_repeated all) (c.case_value-value.ensures s)))
