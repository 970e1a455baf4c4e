use Rattle.std.proofs.Common.{◌∙◌, option_map, option_copied}
use Rattle.mc_tree.specs.Units as units
use Rattle.mc_tree.specs.Views.{name_of}
use Rattle.types_scopes.specs.Types.{type_of}
use Rattle.types_scopes.specs.Views.{scope_of}
use Rattle.types_scopes.specs.Found.{judged_of}
use Rattle.types_declarations.specs.Declarations.{listed_parameters, optional_of, storage_from}
use Rattle.types_declarations.specs.Halves.{begun}
use Rattle.mc_types.proofs.DeclarationArms.{in_function}
use Rattle.mc_types.proofs.declarations.function.Goals as goal

pub returns-in-Ok : goal.returns-in-Ok
returns-in-Ok c =
    let r = scope_of c.begin_function.new.scope in
    let u = scope_of c.optional_initializer.new.scope in
    λ v. c.end_declared.ensures u ∙ in_function (storage_from c.args.storage) (name_of c.args.name.now) (option_map type_of c.args.base.now) (listed_parameters c.args.parameters.now v) (option_map units.initializer_of (option_copied c.args.value)) (scope_of c.args.scope.now) (begun c.in_ok-begun.begun r) (judged_of optional_of c.in-Ok.value u) (c.in_ok-begun.ensures v) c.in-Ok.ensures
