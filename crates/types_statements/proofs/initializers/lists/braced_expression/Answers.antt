use Rattle.std.proofs.Common.{◌≡◌, ◌∙◌, Bool, [], Some, IfOk, sym, subst, option_copied, option_map, if◌then◌else◌}
use Rattle.mc_typed.specs.Tree.{no_initializers}
use Rattle.mc_typed.specs.Views.{initializer_of}
use Rattle.types_rules.specs.Values.{judged}
use Rattle.types_rules.specs.Initializers.{single_judged, zero_judged, list_judged, items_judged}
use Rattle.types_scopes.specs.Types.{type_of}
use Rattle.types_scopes.specs.Views.{scope_of}
use Rattle.types_scopes.specs.Found.{found_of, judged_of}
use Rattle.types_scopes.specs.steps.Squeezed.{squeezed_part}
use Rattle.types_statements.proofs.initializers.lists.braced_expression.Goals as goal

pub returns-then-zero : goal.returns-then-zero
returns-then-zero c =
    let s = scope_of c.args.scope.now in
    let u = option_map type_of (option_copied c.args.of) in
    let x = found_of c.args.found s in
    let one = single_judged c.args.is_static (option_map type_of (option_copied c.args.item))
    c.args.start x in
    subst (λ (b : Bool). judged_of initializer_of c.zero_initializer.result s
    ≡ squeezed_part (if b then zero_judged u (Some x) s
    else list_judged u c.args.at 1 (items_judged one (judged [] (Some no_initializers) s))))
    (sym c.if-zero.true ∙ c.is_zero_found-zero.ensures s)
    c.zero_initializer.ensures

pub returns-else-zero : goal.returns-else-zero
returns-else-zero c =
    let s = scope_of c.args.scope.now in
    let u = option_map type_of (option_copied c.args.of) in
    let x = found_of c.args.found s in
    let one = single_judged c.args.is_static (option_map type_of (option_copied c.args.item))
    c.args.start x in
    subst (λ (b : Bool). IfOk c.list_of_expression.result (λ r. judged_of initializer_of r s
    ≡ squeezed_part (if b then zero_judged u (Some x) s
    else list_judged u c.args.at 1 (items_judged one (judged [] (Some no_initializers) s)))))
    (sym c.if-zero.false ∙ c.is_zero_found-zero.ensures s)
    c.list_of_expression.ensures
