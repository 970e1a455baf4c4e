use Rattle.types_scopes.specs.Views.{scope_of}
use Rattle.types_scopes.specs.Found.{found_of}
use Rattle.mc_types.proofs.Exits.{at_ok, found_as}
use Rattle.mc_types.proofs.Arms.{in_index}
use Rattle.mc_types.proofs.steps.expressions.index.Goals as goal

pub returns-in-Ok : goal.returns-in-Ok
returns-in-Ok c =
    λ a b p q h k.
    let u = scope_of c.args.scope.now in
    found_as c.index.result (λ z. found_of z u) _ _ c.index.ensures
    (in_index c.args.span a b p (found_of c.args.first q) (found_of c.in-Ok.second u) h (at_ok c.args.second c.in-Ok.second _ c.in-Ok.is k))
