use Rattle.std.proofs.lemmas.Result.{IfOk-weaker}
use Rattle.mc_tree.specs.Views.{expression_of}
use Rattle.mc_typed.specs.Views.{argument_of}
use Rattle.types_scopes.specs.Views.{scope_of}
use Rattle.types_scopes.specs.Found.{found_of}
use Rattle.types_scopes.specs.Given.{given_of, items_of}
use Rattle.mc_types.proofs.Arms.{argument_turn}
use Rattle.mc_types.proofs.Exits.{at_ok}
use Rattle.mc_types.proofs.steps.expressions.argument.Goals as goal

pub returns-in-Ok-argument : goal.returns-in-Ok-argument
returns-in-Ok-argument c =
    λ p h.
    let s = scope_of c.args.scope.now in
    let u = scope_of c.argument.new.scope in
    IfOk-weaker c.gather.result _ _ (λ z g ps later first. argument_turn _ (expression_of c.args.tree.now) p u (found_of c.in-Ok.found s) (given_of items_of c.args.given p) (given_of items_of z u) (given_of argument_of c.in-Ok-argument.one u) ps later (at_ok c.args.found c.in-Ok.found _ c.in-Ok.is h) (rw c.span.ensures at c.in-Ok-argument.ensures) (g u u) first) c.gather.ensures
