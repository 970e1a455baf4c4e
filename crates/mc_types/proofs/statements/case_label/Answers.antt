use Rattle.mc_tree.specs.Views.{expression_of}
use Rattle.types_scopes.specs.Views.{scope_of}
use Rattle.types_scopes.specs.Found.{found_of, judged_of}
use Rattle.types_scopes.specs.Statements.{statements_of}
use Rattle.mc_types.proofs.Exits.{found_as}
use Rattle.mc_types.proofs.StatementArms.{in_case_label}
use Rattle.mc_types.proofs.statements.case_label.Goals as goal

pub returns-in-Ok : goal.returns-in-Ok
returns-in-Ok c =
    let u = scope_of c.expression.new.scope in
    found_as c.case_label.result (λ z. judged_of statements_of z (scope_of c.case_label.new.scope)) _ _ (rw c.span.ensures at c.case_label.ensures)
    (in_case_label (expression_of c.args.tree.now) c.args.label (scope_of c.args.scope.now) (found_of c.in-Ok.found u) c.in-Ok.ensures)
