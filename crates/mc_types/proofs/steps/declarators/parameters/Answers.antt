use Rattle.std.proofs.lemmas.Result.{IfOk-weaker}
use Rattle.types_declarations.specs.Declarations.{listed_parameters}
use Rattle.mc_types.proofs.Exits.{at_ok}
use Rattle.mc_types.proofs.Parts.{parameters_turn}
use Rattle.mc_types.proofs.steps.declarators.parameters.Goals as goal

pub returns-in-Ok : goal.returns-in-Ok
returns-in-Ok c =
    λ x s u k.
    IfOk-weaker c.join_parameters.result _ _ (λ z h rest. parameters_turn (listed_parameters c.args.list s) (listed_parameters z u) (listed_parameters c.in-Ok.more u) x rest (at_ok c.args.more c.in-Ok.more _ c.in-Ok.is k) (h u u)) c.join_parameters.ensures
