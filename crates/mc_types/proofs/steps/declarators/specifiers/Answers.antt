use Rattle.types_scopes.specs.Types.{type_of}
use Rattle.types_scopes.specs.Found.{judged_of}
use Rattle.mc_types.proofs.Exits.{at_ok}
use Rattle.mc_types.proofs.Parts.{specifiers_turn}
use Rattle.mc_types.proofs.steps.declarators.specifiers.Goals as goal

pub returns-in-Ok : goal.returns-in-Ok
returns-in-Ok c =
    λ x s u k rest.
    specifiers_turn (judged_of type_of c.args.found s) (judged_of type_of c.specifiers.result u) (judged_of type_of c.in-Ok.more u) x rest (at_ok c.args.more c.in-Ok.more _ c.in-Ok.is k) (c.specifiers.ensures u)
