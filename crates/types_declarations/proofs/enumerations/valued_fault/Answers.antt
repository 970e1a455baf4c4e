use Rattle.types_rules.specs.Constants.{constant_faults}
use Rattle.types_rules.specs.Values.{number_found}
use Rattle.types_scopes.specs.Found.{found_of}
use Rattle.types_declarations.proofs.DeclarationFaults.{valued_joined}
use Rattle.types_declarations.proofs.enumerations.valued_fault.Goals as goal

pub returns : goal.returns
returns c = λ s fs h.
    let found = c.args.found.now in
    valued_joined found.fault c.args.own c.fault_of_constant-constant.result c.lesser.result c.lesser-2.result fs
    (constant_faults c.args.at found.constant (number_found (found_of found s)))
    h (c.fault_of_constant-constant.ensures s) c.lesser.ensures c.lesser-2.ensures
