use Rattle.std.proofs.Common.{◌++◌, option_map, refl}
use Rattle.mc_tree.specs.Views.{name_of}
use Rattle.types_rules.specs.Declarations.{object_faults}
use Rattle.types_scopes.specs.Types.{type_of}
use Rattle.types_scopes.specs.Views.{scope_of}
use Rattle.types_declarations.specs.Declarations.{written}
use Rattle.types_faults.specs.Kept.{listed}
use Rattle.types_faults.specs.Faults.{unless_faulty}
use Rattle.types_declarations.proofs.Begun.{begun_local}
use Rattle.types_declarations.proofs.locals.begin_local.Goals as goal

pub returns-in-Ok-add_counted : goal.returns-in-Ok-add_counted
returns-in-Ok-add_counted c =
    let name = name_of c.args.name.now in
    let lengths = written c.args.lengths.now in
    let base = option_map type_of c.args.base.now in
    let u = option_map type_of c.args.of.now in
    let s = scope_of c.args.scope.now in
    let fs = object_faults name lengths c.args.count base u s in
    let first = c.after-fault.ensures fs c.object_fault-own.ensures in
    begun_local c.args.faults name lengths c.args.count base u s c.object_fault-own.result c.after-fault.result
    c.in-Ok.slot c.in-Ok-add_counted.cells u (unless_faulty (listed c.args.faults ++ fs) u)
    (scope_of c.declare_automatic.new.scope) (scope_of c.add_counted.new.scope) c.object_fault-own.ensures first c.in-Ok.ensures.slot
    refl refl (c.in-Ok.ensures.scope (listed c.args.faults ++ fs) first)
    c.in-Ok-add_counted.ensures.cells c.in-Ok-add_counted.ensures.scope
