use Rattle.std.proofs.Common.{◌∙◌, ap}
use Rattle.types_faults.specs.Faults.{least_of}
use Rattle.types_rules.specs.Values.{kind_found, number_found}
use Rattle.types_rules.specs.Initializers.{item_faults, static_faults}
use Rattle.types_scopes.specs.Found.{found_of}
use Rattle.types_statements.specs.Initializers.{target_of}
use Rattle.types_scopes.proofs.Leasts.{lesser_joined}
use Rattle.types_statements.proofs.initializers.singles.own_fault.Goals as goal

pub returns : goal.returns
returns c = λ s.
    let x = found_of c.args.found.now s in
    lesser_joined c.lesser.result c.item_fault-item.result c.static_fault-constant.result
    (item_faults c.args.is_static (target_of c.args.target) c.args.at (kind_found x))
    (static_faults c.args.is_static c.args.at c.args.found.now.constant (number_found x))
    c.lesser.ensures
    (c.item_fault-item.ensures
    ∙ ap (λ k. least_of (item_faults c.args.is_static (target_of c.args.target) c.args.at k))
    c.kind_found.ensures)
    (c.static_fault-constant.ensures s)
