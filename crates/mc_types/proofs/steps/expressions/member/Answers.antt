use Rattle.mc_tree.specs.Views.{name_of}
use Rattle.types_scopes.specs.Views.{scope_of}
use Rattle.types_scopes.specs.Found.{found_of}
use Rattle.mc_types.proofs.Exits.{at_ok, found_as}
use Rattle.mc_types.proofs.Arms.{in_member}
use Rattle.mc_types.proofs.steps.expressions.member.Goals as goal

pub returns-in-Ok : goal.returns-in-Ok
returns-in-Ok c =
    λ a p k.
    let u = scope_of c.args.scope.now in
    found_as c.member.result (λ z. found_of z u) _ _ c.member.ensures
    (in_member (name_of c.args.name.now) c.args.span a p (found_of c.in-Ok.object u) (at_ok c.args.found c.in-Ok.object _ c.in-Ok.is k))
