use Rattle.std.proofs.Common.{◌∙◌, ap, option_copied, option_map}
use Rattle.mc_typed.specs.Tree as t
use Rattle.mc_typed.specs.Views.{initializer_of}
use Rattle.types_rules.specs.Values.{Judged}
use Rattle.types_rules.specs.Initializers.{list_judged}
use Rattle.types_scopes.specs.Types.{type_of}
use Rattle.types_scopes.specs.Views.{scope_of}
use Rattle.types_scopes.specs.Found.{judged_of}
use Rattle.types_scopes.specs.steps.Squeezed.{squeezed_part}
use Rattle.types_statements.specs.Items.{item_then}
use Rattle.types_statements.proofs.initializers.lists.list_of_one.Goals as goal

pub returns-in-Ok : goal.returns-in-Ok
returns-in-Ok c =
    let s = scope_of c.args.scope.now in
    let u = option_map type_of (option_copied c.args.of) in
    let items = c.in-Ok.ensures s
    ∙ ap (λ (x : Judged t.Initializers). squeezed_part (item_then x
    (judged_of initializer_of c.args.one s))) (c.no_items.ensures s) in
    c.list_initializer.ensures
    ∙ ap (λ (x : Judged t.Initializers). squeezed_part (list_judged u c.args.at 1 x)) items
