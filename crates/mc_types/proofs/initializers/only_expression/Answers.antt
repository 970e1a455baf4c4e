use Rattle.std.proofs.Common.{◌∙◌, option_copied, option_map, ap, arith}
use Rattle.mc_tree.specs.Views.{expression_of}
use Rattle.types_rules.specs.Initializers.{first_part, parts_of, target_of}
use Rattle.types_statements.proofs.ItemParts.{from_first}
use Rattle.types_scopes.specs.Types.{type_of}
use Rattle.types_scopes.specs.Views.{scope_of}
use Rattle.mc_typed.specs.Views.{initializer_of}
use Rattle.types_scopes.specs.Found.{found_of, judged_of}
use Rattle.mc_types.proofs.Exits.{found_as}
use Rattle.mc_types.proofs.InitializerArms.{in_braces}
use Rattle.mc_types.proofs.initializers.only_expression.Goals as goal

pub returns-in-Ok : goal.returns-in-Ok
returns-in-Ok c =
    let u = scope_of c.expression.new.scope in
    found_as c.braced_expression.result (λ z. judged_of initializer_of z u) _ _ (rw c.span-start.ensures at c.braced_expression.ensures)
    (in_braces c.args.is_static (option_map type_of (option_copied c.args.of)) (option_map type_of (option_copied c.get.result)) (expression_of c.args.tree.now) c.args.span (scope_of c.args.scope.now) (found_of c.in-Ok.found u) c.in-Ok.ensures (c.get.ensures ∙ c.in_ok-parts.ensures 0 (omega arith)
    ∙ ap first_part (from_first (parts_of (target_of (scope_of c.args.scope.now).structures (option_map type_of (option_copied c.args.of)))))))
