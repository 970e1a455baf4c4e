use Rattle.mc_tree.specs.Views.{expression_of, name_of}
use Rattle.types_scopes.specs.Views.{scope_of}
use Rattle.types_scopes.specs.Found.{found_of}
use Rattle.types_declarations.specs.Declarations.{number_judged}
use Rattle.mc_types.proofs.Declarators.{in_valued}
use Rattle.mc_types.proofs.Exits.{at_ok, found_as}
use Rattle.mc_types.proofs.steps.declarators.valued_enumerator.Goals as goal

pub returns-in-Ok : goal.returns-in-Ok
returns-in-Ok c =
    λ v p h.
    let s = scope_of c.args.scope.now in
    found_as c.valued_enumerator-next.result (λ z. number_judged z (scope_of c.valued_enumerator-next.new.scope)) _ _ (rw c.span-at.ensures at c.valued_enumerator-next.ensures)
    (in_valued (name_of c.args.name.now) (expression_of c.args.tree.now) v p (found_of c.in-Ok.found s) (at_ok c.args.found c.in-Ok.found _ c.in-Ok.is h))
