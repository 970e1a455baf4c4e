use Rattle.std.proofs.Common.{◌∙◌}
use Rattle.mc_tree.specs.Views.{expression_of}
use Rattle.types_scopes.specs.Views.{scope_of}
use Rattle.types_scopes.specs.Found.{found_of}
use Rattle.mc_types.proofs.StatementArms.{in_test}
use Rattle.mc_types.proofs.statements.optional_test.Goals as goal

pub returns-in-Ok : goal.returns-in-Ok
returns-in-Ok c =
    let u = scope_of c.expression.new.scope in
    rw c.in-Some.is
    (c.loop_test.ensures u ∙ in_test c.args.at (expression_of c.in-Some.tree.value) (scope_of c.args.scope.now) (found_of c.in-Ok.found u) (rw c.deref.ensures at c.in-Ok.ensures))

pub returns-in-None : goal.returns-in-None
returns-in-None c = rw c.in-None.is (c.no_test.ensures (scope_of c.args.scope.now))
