use Rattle.std.proofs.Common.{option_map, option_copied}
use Rattle.mc_tree.specs.Units as units
use Rattle.mc_tree.specs.Views.{name_of}
use Rattle.types_rules.specs.Declarations.{TypedefStorage, StaticStorage, AutomaticStorage}
use Rattle.types_scopes.specs.Types.{type_of}
use Rattle.types_scopes.specs.Views.{scope_of}
use Rattle.types_scopes.specs.Found.{judged_of}
use Rattle.types_scopes.specs.Statements.{declarators_of}
use Rattle.types_declarations.specs.Declarations.{lengths_in, written}
use Rattle.mc_types.proofs.Exits.{found_as}
use Rattle.mc_types.proofs.DeclarationArms.{in_object}
use Rattle.mc_types.proofs.declarations.object.Goals as goal

pub returns-in-Typedef : goal.returns-in-Typedef
returns-in-Typedef c =
    λ stars span.
    let r = scope_of c.lengths.new.scope in
    rw c.in-Typedef.is
    (found_as c.typedef.result (λ z. judged_of declarators_of z (scope_of c.typedef.new.scope)) _ _ c.typedef.ensures
    (in_object TypedefStorage stars (name_of c.args.name.now) (written c.args.all.now) span (option_map type_of c.args.base.now) (option_map units.initializer_of (option_copied c.args.value)) (scope_of c.args.scope.now) (judged_of lengths_in c.in_ok-given.given r) (option_map type_of c.in_ok-of.of) c.in_ok-given.ensures (rw c.count_listed-count.ensures at c.in_ok-of.ensures)))

pub returns-in-Static : goal.returns-in-Static
returns-in-Static c =
    λ stars span.
    let r = scope_of c.lengths.new.scope in
    rw c.in-Static.is
    (found_as c.stored.result (λ z. judged_of declarators_of z (scope_of c.stored.new.scope)) _ _ c.stored.ensures
    (in_object StaticStorage stars (name_of c.args.name.now) (written c.args.all.now) span (option_map type_of c.args.base.now) (option_map units.initializer_of (option_copied c.args.value)) (scope_of c.args.scope.now) (judged_of lengths_in c.in_ok-given.given r) (option_map type_of c.in_ok-of.of) c.in_ok-given.ensures (rw c.count_listed-count.ensures at c.in_ok-of.ensures)))

pub returns : goal.returns
returns c =
    λ stars span.
    let r = scope_of c.lengths.new.scope in
    rw c.in-Automatic.is
    (found_as c.local.result (λ z. judged_of declarators_of z (scope_of c.local.new.scope)) _ _ c.local.ensures
    (in_object AutomaticStorage stars (name_of c.args.name.now) (written c.args.all.now) span (option_map type_of c.args.base.now) (option_map units.initializer_of (option_copied c.args.value)) (scope_of c.args.scope.now) (judged_of lengths_in c.in_ok-given.given r) (option_map type_of c.in_ok-of.of) c.in_ok-given.ensures (rw c.count_listed-count.ensures at c.in_ok-of.ensures)))
