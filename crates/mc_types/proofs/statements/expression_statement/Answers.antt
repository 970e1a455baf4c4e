use Rattle.mc_tree.specs.Views.{expression_of}
use Rattle.mc_typed.specs.Views.{effect_of}
use Rattle.types_scopes.specs.Views.{scope_of}
use Rattle.types_scopes.specs.Found.{judged_of}
use Rattle.types_scopes.specs.Statements.{statements_of}
use Rattle.mc_types.proofs.Exits.{found_with}
use Rattle.mc_types.proofs.StatementArms.{in_effect_statement}
use Rattle.mc_types.proofs.statements.expression_statement.Goals as goal

pub returns-in-Ok : goal.returns-in-Ok
returns-in-Ok c =
    λ a.
    let u = scope_of c.effect.new.scope in
    found_with c.effect_statement.result (λ z v. judged_of statements_of z v) u _ _ c.effect_statement.ensures
    (in_effect_statement a (expression_of c.args.tree.now) c.args.span (scope_of c.args.scope.now) (judged_of effect_of c.in-Ok.found u) c.in-Ok.ensures)
