use Rattle.std.proofs.Common.{◌≡◌, ◌∙◌, [], Some, IfOk, ap, subst, option_copied, option_map}
use Rattle.mc_typed.specs.Tree.{no_initializers}
use Rattle.mc_typed.specs.Tree as t
use Rattle.mc_typed.specs.Views.{initializer_of}
use Rattle.types_rules.specs.Values.{Judged, judged}
use Rattle.types_rules.specs.Initializers.{single_judged, list_judged}
use Rattle.types_scopes.specs.Types.{type_of}
use Rattle.types_scopes.specs.Views.{scope_of}
use Rattle.types_scopes.specs.Found.{found_of, judged_of}
use Rattle.types_scopes.specs.steps.Squeezed.{squeezed_part}
use Rattle.types_statements.specs.Items.{item_then}
use Rattle.types_statements.proofs.InitializerNodes.{list_of_one}
use Rattle.types_statements.proofs.initializers.lists.list_of_expression.Goals as goal

pub returns-in-Ok : goal.returns-in-Ok
returns-in-Ok c =
    let s = scope_of c.args.scope.now in
    let u = option_map type_of (option_copied c.args.of) in
    let one = single_judged c.args.is_static (option_map type_of (option_copied c.args.item))
    c.args.start (found_of c.args.found s) in
    let none : Judged t.Initializers = judged [] (Some no_initializers) s in
    subst (λ (j : Judged t.Initializer).
    IfOk c.list_of_one.result (λ r. judged_of initializer_of r s ≡ j))
    (ap (λ (x : Judged t.Initializer). squeezed_part (list_judged u c.args.at 1
    (squeezed_part (item_then none x)))) c.in-Ok.ensures
    ∙ list_of_one u c.args.at one s)
    c.list_of_one.ensures
