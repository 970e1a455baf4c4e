use Rattle.std.proofs.Common.{◌∙◌, option_map, option_copied}
use Rattle.mc_tree.specs.Tree as tree
use Rattle.mc_tree.specs.Units as units
use Rattle.mc_typed.specs.Views.{initializer_of}
use Rattle.types_scopes.specs.Types.{type_of}
use Rattle.types_scopes.specs.Views.{scope_of}
use Rattle.types_scopes.specs.Found.{judged_of}
use Rattle.mc_types.proofs.DeclarationArms.{in_optional}
use Rattle.mc_types.proofs.declarations.optional_initializer.Goals as goal

pub returns-in-Ok : goal.returns-in-Ok
returns-in-Ok c =
    let u = scope_of c.initializer.new.scope in
    rw c.in-Some.is
    (c.optional_initializer.ensures u ∙ in_optional c.args.is_static (option_map type_of (option_copied c.args.of)) (units.initializer_of c.in-Some.tree.now) (scope_of c.args.scope.now) (judged_of initializer_of c.in-Ok.found u) c.in-Ok.ensures)

pub returns-in-None : goal.returns-in-None
returns-in-None c = rw c.in-None.is (c.no_initializer.ensures (scope_of c.args.scope.now))
