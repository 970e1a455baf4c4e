use Rattle.std.proofs.Common.{ap}
use Rattle.mc_typed.specs.Tree.{Statements}
use Rattle.types_rules.specs.Values.{Judged}
use Rattle.types_rules.specs.Statements.{followed_judged}
use Rattle.types_scopes.specs.Found.{judged_of}
use Rattle.types_scopes.specs.Statements.{statements_of}
use Rattle.types_scopes.specs.steps.Squeezed.{squeezed_part}
use Rattle.mc_types.proofs.Exits.{at_ok, found_with}
use Rattle.mc_types.proofs.steps.statements.followed.Goals as goal

pub returns-in-Ok : goal.returns-in-Ok
returns-in-Ok c =
    λ x u k.
    found_with c.followed.result (λ z v. judged_of statements_of z v) u _ _ c.followed.ensures
    (ap (λ (v : Judged Statements). squeezed_part (followed_judged (judged_of statements_of c.args.list u) v)) (at_ok c.args.rest c.in-Ok.rest _ c.in-Ok.is k))
