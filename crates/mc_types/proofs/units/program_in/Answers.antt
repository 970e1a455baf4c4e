use Rattle.std.proofs.Common.{ap, option_map, subst, sym}
use Rattle.mc_tree.specs.Units as units
use Rattle.types_rules.specs.Typing.{IsTypingOf, program_from}
use Rattle.types_scopes.specs.Views.{scope_of}
use Rattle.types_scopes.specs.Found.{judged_of}
use Rattle.types_faults.specs.Kept.{listed}
use Rattle.types_declarations.specs.Declarations.{functions_of}
use Rattle.mc_types.specs.Faults.{IsFirstIn}
use Rattle.mc_types.proofs.UnitArms.{typed_program, typed_value, unit_first}
use Rattle.mc_types.proofs.units.program_in.Goals as goal

pub returns-in-Some-clause-refused : goal.returns-in-Some-clause-refused
returns-in-Some-clause-refused c =
    let items = units.items_of c.args.unit.now.items.items in
    subst (λ o. IsFirstIn items o) (sym c.first.ensures)
    (unit_first items (judged_of functions_of c.in_ok-found.found (scope_of c.items.new.scope)) c.in-Some.fault
    (rw (c.requires.begins, c.deref.ensures.value) at c.in_ok-found.ensures)
    (ap listed c.in-Some.is))

pub unreachable-requires : goal.unreachable-requires
unreachable-requires c =
    let items = units.items_of c.args.unit.now.items.items in
    typed_value items (judged_of functions_of c.in_ok-found.found (scope_of c.items.new.scope)) c.requires.accepted
    (rw (c.requires.begins, c.deref.ensures.value) at c.in_ok-found.ensures)
    (ap listed c.in_default.is) (ap (option_map functions_of) c.in_default-value.is)

pub program-requires-clause-typed : goal.program-requires-clause-typed
program-requires-clause-typed c =
    let items = units.items_of c.args.unit.now.items.items in
    subst (λ v. IsTypingOf items (program_from (scope_of c.items.new.scope) (functions_of v))) (sym c.in-Some-value.functions-is)
    (typed_program items (judged_of functions_of c.in_ok-found.found (scope_of c.items.new.scope)) (functions_of c.in-Some-value.functions)
    (rw (c.requires.begins, c.deref.ensures.value) at c.in_ok-found.ensures)
    (ap listed c.in_default.is) (ap (option_map functions_of) c.in-Some-value.is))
