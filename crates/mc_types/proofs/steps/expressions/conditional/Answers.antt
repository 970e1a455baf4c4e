use Rattle.types_scopes.specs.Found.{found_of}
use Rattle.mc_types.proofs.Exits.{at_ok, found_with}
use Rattle.mc_types.proofs.Arms.{in_conditional}
use Rattle.mc_types.proofs.steps.expressions.conditional.Goals as goal

pub returns-in-Ok : goal.returns-in-Ok
returns-in-Ok c =
    λ a b e p q r u h k m.
    found_with c.conditional.result found_of u _ _ c.conditional.ensures
    (in_conditional c.args.span a b e p (found_of c.args.test q) (found_of c.args.chosen r) (found_of c.in-Ok.other u) h k (at_ok c.args.other c.in-Ok.other _ c.in-Ok.is m))
