use Rattle.types_scopes.specs.Found.{found_of, judged_of}
use Rattle.types_scopes.specs.Statements.{statements_of}
use Rattle.mc_types.proofs.Exits.{at_ok, found_with}
use Rattle.mc_types.proofs.StatementArms.{in_if}
use Rattle.mc_types.proofs.steps.statements.if_then.Goals as goal

pub returns-in-Ok : goal.returns-in-Ok
returns-in-Ok c =
    λ a e one p q u h k.
    found_with c.if_statement.result (λ z v. judged_of statements_of z v) u _ _ c.if_statement.ensures
    (in_if a e one c.args.span p (found_of c.args.test q) (judged_of statements_of c.in-Ok.chosen u) h (at_ok c.args.chosen c.in-Ok.chosen _ c.in-Ok.is k))
