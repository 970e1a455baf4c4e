use Rattle.std.proofs.Common.{◌∙◌, option_map, option_copied}
use Rattle.mc_tree.specs.Units as units
use Rattle.mc_tree.specs.Views.{name_of}
use Rattle.types_scopes.specs.Types.{type_of}
use Rattle.types_scopes.specs.Views.{scope_of}
use Rattle.types_scopes.specs.Found.{judged_of}
use Rattle.types_faults.specs.Kept.{listed}
use Rattle.types_declarations.specs.Declarations.{optional_of, written}
use Rattle.types_declarations.specs.Halves.{begun}
use Rattle.mc_types.proofs.DeclarationArms.{in_typedef}
use Rattle.mc_types.proofs.declarations.typedef.Goals as goal

pub returns-in-Ok : goal.returns-in-Ok
returns-in-Ok c =
    let r = scope_of c.begin_typedef.new.scope in
    let u = scope_of c.optional_initializer.new.scope in
    c.end_declared.ensures u ∙ in_typedef (listed c.args.fault) (name_of c.args.name.now) (written c.args.all.now) (option_map type_of c.args.base.now) (option_map type_of c.args.of.now) (option_map units.initializer_of (option_copied c.args.value)) (scope_of c.args.scope.now) (begun c.in_ok-begun.begun r) (judged_of optional_of c.in-Ok.value u) c.in_ok-begun.ensures c.in-Ok.ensures
