use Rattle.std.proofs.Common.{◌≡◌, subst, sym, ap, List}
use Rattle.mc_tree.specs.Units as units
use Rattle.mc_typed.specs.Tree.{Program}
use Rattle.mc_typed.specs.Views.{program_of}
use Rattle.mc_typed.specs.Layout.{ObjectType}
use Rattle.types_rules.specs.Typing.{IsTypingOf, program_from}
use Rattle.types_scopes.specs.Views.{scope_of}
use Rattle.types_declarations.specs.Declarations.{functions_of}
use Rattle.laws_soundness.proofs.Counts.{units_are_few}
use Rattle.laws_soundness.proofs.Units.{units_sound}
use Rattle.mc_types.proofs.Exits.{at_ok}
use Rattle.mc_types.proofs.units.program.Goals as goal

pub new-requires-in-Ok : goal.new-requires-in-Ok
new-requires-in-Ok c =
    let items = units.items_of c.args.unit.now.items.items in
    let s = scope_of c.args.scope.now in
    let p = program_of (record { functions = c.args.functions.items; statics = c.args.scope.now.statics.items; structures = c.in-Ok.structures.items }) in
    let found = rw c.deref.ensures.value at (at_ok c.structure_types.result c.in-Ok.structures _ c.in-Ok.is c.structure_types.ensures) in
    let same : program_from s (functions_of c.args.functions) ≡ p =
    ap (λ (all : List ObjectType). let q : Program = record { functions = functions_of c.args.functions; statics = s.statics; structures = all } in q) (sym found) in
    let typed = subst (λ q. IsTypingOf items q) same c.requires.typed in
    rw c.replace-statics.ensures.value
    (units_sound items p c.requires.accepted typed (units_are_few items p typed c.args.unit.now.short))
