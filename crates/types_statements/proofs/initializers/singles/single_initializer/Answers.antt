use Rattle.std.proofs.Common.{◌∙◌, ◌++◌, refl, ap, option_copied, option_map, option_and_then}
use Rattle.mc_typed.specs.Views.{initializer_of}
use Rattle.types_faults.specs.Faults.{least_of}
use Rattle.types_rules.specs.Values.{kind_found, number_found}
use Rattle.types_rules.specs.Initializers.{item_faults, static_faults, item_value}
use Rattle.types_rules.specs.Initializers as i
use Rattle.types_scopes.specs.Types.{type_of}
use Rattle.types_scopes.specs.Views.{scope_of}
use Rattle.types_scopes.specs.Found.{found_of}
use Rattle.types_faults.specs.Kept.{listed}
use Rattle.types_statements.specs.Initializers.{target_of}
use Rattle.types_scopes.proofs.Leasts.{same_parts}
use Rattle.types_statements.proofs.initializers.singles.single_initializer.Goals as goal

pub returns-in-Ok : goal.returns-in-Ok
returns-in-Ok c =
    let s = scope_of c.args.scope.now in
    let u = option_map type_of (option_copied c.args.of) in
    let x = found_of c.args.found s in
    let own = λ (t : i.Target). item_faults c.args.is_static t c.args.at (kind_found x)
    ++ static_faults c.args.is_static c.args.at c.args.found.constant (number_found x) in
    let target = i.target_of s.structures u in
    same_parts c.after-fault.result (least_of (listed c.args.found.fault ++ own target))
    (option_map initializer_of c.in-Ok.value)
    (option_and_then (item_value s.structures u target) x.value) s s
    (c.after-fault.ensures (own target)
    (c.own_fault-own.ensures s ∙ ap (λ t. least_of (own t)) c.target_for-target.ensures))
    (c.in-Ok.ensures
    ∙ ap (λ t. option_and_then (item_value s.structures u t) x.value) c.target_for-target.ensures)
    refl
