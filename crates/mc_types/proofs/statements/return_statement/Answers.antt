use Rattle.std.proofs.Common.{refl}
use Rattle.mc_tree.specs.Views.{expression_of}
use Rattle.types_scopes.specs.Views.{scope_of}
use Rattle.types_scopes.specs.Found.{found_of, judged_of}
use Rattle.types_scopes.specs.Statements.{around_of, statements_of}
use Rattle.mc_types.proofs.Exits.{found_as, found_with}
use Rattle.mc_types.proofs.StatementArms.{in_return}
use Rattle.mc_types.proofs.statements.return_statement.Goals as goal

pub returns-in-Ok : goal.returns-in-Ok
returns-in-Ok c =
    let u = scope_of c.expression.new.scope in
    rw c.in-Some.is
    (found_as c.return_statement.result (λ z. judged_of statements_of z u) _ _ c.return_statement.ensures
    (in_return (around_of c.args.around) (expression_of c.in-Some.tree.value) c.args.span (scope_of c.args.scope.now) (found_of c.in-Ok.found u) (rw c.deref.ensures at c.in-Ok.ensures)))

pub returns-in-None : goal.returns-in-None
returns-in-None c =
    rw c.in-None.is
    (found_with c.return_nothing.result (λ z v. judged_of statements_of z v) (scope_of c.args.scope.now) _ _ c.return_nothing.ensures refl)
