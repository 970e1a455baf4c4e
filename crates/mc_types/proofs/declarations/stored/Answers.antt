use Rattle.std.proofs.Common.{option_map, option_copied}
use Rattle.mc_tree.specs.Units as units
use Rattle.mc_tree.specs.Views.{name_of}
use Rattle.types_scopes.specs.Types.{type_of}
use Rattle.types_scopes.specs.Views.{scope_of}
use Rattle.types_scopes.specs.Found.{judged_of}
use Rattle.types_scopes.specs.Statements.{declarators_of}
use Rattle.types_faults.specs.Kept.{listed}
use Rattle.types_declarations.specs.Declarations.{optional_of, written}
use Rattle.types_declarations.specs.Halves.{stored_of}
use Rattle.mc_types.proofs.Exits.{found_each}
use Rattle.mc_types.proofs.DeclarationArms.{in_static}
use Rattle.mc_types.proofs.declarations.stored.Goals as goal

pub returns-in-Ok : goal.returns-in-Ok
returns-in-Ok c =
    let r = scope_of c.begin_static.new.scope in
    let u = scope_of c.optional_initializer.new.scope in
    found_each c.end_static.result (λ z. judged_of declarators_of z (scope_of c.end_static.new.scope)) u _ _ c.end_static.ensures
    (in_static (listed c.args.fault) (name_of c.args.name.now) (written c.args.all.now) (option_map type_of c.args.base.now) (option_map type_of c.args.of.now) (option_map units.initializer_of (option_copied c.args.value)) (scope_of c.args.scope.now) u c.count_listed-count.result (stored_of c.in_ok-begun.begun r) (judged_of optional_of c.in-Ok.value u) c.count_listed-count.ensures c.in_ok-begun.ensures (rw c.type_to_fit-fit.ensures at c.in-Ok.ensures))
