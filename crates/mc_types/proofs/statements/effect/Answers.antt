use Rattle.std.proofs.Common.{◌∙◌}
use Rattle.mc_tree.specs.Views.{expression_of}
use Rattle.types_scopes.specs.Views.{scope_of}
use Rattle.types_scopes.specs.Found.{found_of}
use Rattle.mc_types.proofs.StatementArms.{in_effect}
use Rattle.mc_types.proofs.statements.effect.Goals as goal

pub returns-in-Ok : goal.returns-in-Ok
returns-in-Ok c =
    let u = scope_of c.expression.new.scope in
    c.effect.ensures u
    ∙ in_effect (expression_of c.args.tree.now) (scope_of c.args.scope.now) (found_of c.in-Ok.found u) c.in-Ok.ensures
