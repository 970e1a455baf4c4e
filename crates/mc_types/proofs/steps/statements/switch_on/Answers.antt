use Rattle.mc_tree.specs.Units.{statement_of}
use Rattle.types_scopes.specs.Found.{found_of, judged_of}
use Rattle.types_scopes.specs.Statements.{statements_of}
use Rattle.mc_types.proofs.Exits.{at_ok, found_with}
use Rattle.mc_types.proofs.StatementArms.{in_switch_statement}
use Rattle.mc_types.proofs.steps.statements.switch_on.Goals as goal

pub returns-in-Ok : goal.returns-in-Ok
returns-in-Ok c =
    λ a e p q u h k.
    found_with c.switch_statement.result (λ z v. judged_of statements_of z v) u _ _ c.switch_statement.ensures
    (in_switch_statement a e (statement_of c.args.body.now) c.args.span p (found_of c.args.value q) (judged_of statements_of c.in-Ok.found u) h (at_ok c.args.found c.in-Ok.found _ c.in-Ok.is k))
