use Rattle.std.proofs.Common.{◌∙◌, ap}
use Rattle.types_rules.specs.Constants.{constant_faults, constant_found}
use Rattle.types_rules.specs.Declarators.{is_no_length}
use Rattle.types_rules.specs.Values.{number_found}
use Rattle.types_scopes.specs.Found.{found_of}
use Rattle.types_declarations.proofs.DeclarationFaults.{length_joined}
use Rattle.types_declarations.proofs.lengths.length_fault.Goals as goal

pub returns : goal.returns
returns c = λ s.
    let found = c.args.found.now in
    length_joined c.fault_of_constant-constant.result c.fault_where-own.result c.lesser.result
    (constant_faults c.args.at found.constant (number_found (found_of found s))) c.args.at c.is_no_length-misfit.result
    (is_no_length (constant_found (found_of found s)))
    (c.fault_of_constant-constant.ensures s) c.fault_where-own.ensures.least
    (c.is_no_length-misfit.ensures ∙ ap is_no_length (c.constant_found-value.ensures s)) c.lesser.ensures
