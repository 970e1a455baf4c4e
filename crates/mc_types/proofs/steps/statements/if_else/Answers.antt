use Rattle.types_scopes.specs.Found.{found_of, judged_of}
use Rattle.types_scopes.specs.Statements.{statements_of}
use Rattle.mc_types.proofs.Exits.{at_ok, found_with}
use Rattle.mc_types.proofs.StatementArms.{in_if_else}
use Rattle.mc_types.proofs.steps.statements.if_else.Goals as goal

pub returns-in-Ok : goal.returns-in-Ok
returns-in-Ok c =
    λ a e one two p q r u h k l.
    found_with c.if_else_statement.result (λ z v. judged_of statements_of z v) u _ _ c.if_else_statement.ensures
    (in_if_else a e one two c.args.span p (found_of c.args.tested.test q) (judged_of statements_of c.args.tested.chosen r) (judged_of statements_of c.in-Ok.other u) h k (at_ok c.args.other c.in-Ok.other _ c.in-Ok.is l))
