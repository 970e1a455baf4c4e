use Rattle.mc_tree.specs.Views.{name_of}
use Rattle.types_rules.specs.Declarators.{enumerator_faults}
use Rattle.types_scopes.specs.Found.{found_of}
use Rattle.types_scopes.specs.Views.{scope_of}
use Rattle.types_declarations.proofs.Begun.{enumerator_found}
use Rattle.types_declarations.proofs.enumerations.valued_enumerator.Goals as goal

pub returns : goal.returns
returns c =
    let name = name_of c.args.name.now in
    let s = scope_of c.args.scope.now in
    let v = c.constant_found-value.result in
    enumerator_found name c.args.at (found_of c.args.found.now s) v c.in_ok-value.value c.valued_fault-fault.result
    (scope_of c.declare_enumerator.new.scope) (c.constant_found-value.ensures s)
    (c.valued_fault-fault.ensures s (enumerator_faults name v s) c.enumerator_fault-own.ensures)
    c.in_ok-value.ensures.value c.in_ok-value.ensures.scope
