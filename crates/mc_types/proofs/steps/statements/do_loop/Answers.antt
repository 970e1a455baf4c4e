use Rattle.types_scopes.specs.Found.{found_of, judged_of}
use Rattle.types_scopes.specs.Statements.{statements_of}
use Rattle.mc_types.proofs.Exits.{at_ok, found_with}
use Rattle.mc_types.proofs.StatementArms.{in_do}
use Rattle.mc_types.proofs.steps.statements.do_loop.Goals as goal

pub returns-in-Ok : goal.returns-in-Ok
returns-in-Ok c =
    λ a e one p q u h k.
    found_with c.do_statement.result (λ z v. judged_of statements_of z v) u _ _ c.do_statement.ensures
    (in_do a one e c.args.span p (judged_of statements_of c.args.body q) (found_of c.in-Ok.test u) h (at_ok c.args.test c.in-Ok.test _ c.in-Ok.is k))
