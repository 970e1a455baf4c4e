use Rattle.types_scopes.specs.Found.{found_of}
use Rattle.mc_types.proofs.Exits.{at_ok, found_with}
use Rattle.mc_types.proofs.Arms.{in_postfix}
use Rattle.mc_types.proofs.steps.expressions.postfix_step.Goals as goal

pub returns-in-Ok : goal.returns-in-Ok
returns-in-Ok c =
    λ a p u k.
    found_with c.postfix_step.result found_of u _ _ c.postfix_step.ensures
    (in_postfix c.args.operator c.args.span a p (found_of c.in-Ok.operand u) (at_ok c.args.found c.in-Ok.operand _ c.in-Ok.is k))
