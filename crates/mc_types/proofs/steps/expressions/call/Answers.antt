use Rattle.std.proofs.Common.{refl}
use Rattle.mc_tree.specs.Views.{name_of}
use Rattle.types_rules.specs.Calls.{parameters_of}
use Rattle.types_scopes.specs.Views.{scope_of}
use Rattle.types_scopes.specs.Found.{found_of}
use Rattle.types_scopes.specs.Given.{arguments_of, given_of}
use Rattle.types_expressions.specs.steps.Callees.{meaning_of_callee}
use Rattle.mc_types.proofs.Arms.{in_call}
use Rattle.mc_types.proofs.Exits.{at_ok, found_as}
use Rattle.mc_types.proofs.steps.expressions.call.Goals as goal

pub returns-in-Ok : goal.returns-in-Ok
returns-in-Ok c =
    λ all p h k l m.
    let s = scope_of c.args.scope.now in
    let callee = meaning_of_callee c.args.callee in
    found_as c.call-found.result (λ z. found_of z (scope_of c.call-found.new.scope)) _ _ c.call-found.ensures
    (in_call (name_of c.args.name.now) c.args.count c.args.span all p callee (parameters_of callee) (given_of arguments_of c.in-Ok.given s) h refl k l (at_ok c.args.given c.in-Ok.given _ c.in-Ok.is m))
