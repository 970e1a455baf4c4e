use Rattle.types_scopes.specs.Found.{judged_of}
use Rattle.types_scopes.specs.Statements.{statements_of}
use Rattle.mc_types.proofs.Exits.{at_ok, found_with}
use Rattle.mc_types.proofs.StatementArms.{in_compound}
use Rattle.mc_types.proofs.steps.statements.compound.Goals as goal

pub returns-in-Ok : goal.returns-in-Ok
returns-in-Ok c =
    λ a items p u k.
    found_with c.compound_statement.result (λ z v. judged_of statements_of z v) u _ _ c.compound_statement.ensures
    (in_compound a items c.args.span p (judged_of statements_of c.in-Ok.found u) (at_ok c.args.found c.in-Ok.found _ c.in-Ok.is k))
