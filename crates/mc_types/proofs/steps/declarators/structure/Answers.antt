use Rattle.types_scopes.specs.Types.{type_of}
use Rattle.types_scopes.specs.Views.{scope_of}
use Rattle.types_scopes.specs.Found.{judged_of}
use Rattle.types_declarations.specs.Declarations.{opened_of}
use Rattle.mc_types.proofs.Declarators.{in_structure}
use Rattle.mc_types.proofs.Exits.{at_ok, found_each}
use Rattle.mc_types.proofs.steps.declarators.structure.Goals as goal

pub returns-in-Ok : goal.returns-in-Ok
returns-in-Ok c =
    λ alone tag all span p q h k.
    let u = scope_of c.args.scope.now in
    found_each c.close_structure.result (λ z. judged_of type_of z (scope_of c.close_structure.new.scope)) u _ _ c.close_structure.ensures
    (in_structure alone tag all span p u (opened_of c.args.opened q) _ h (at_ok c.args.fault c.in-Ok.fault _ c.in-Ok.is k))
