use Rattle.std.proofs.Common.{◌∙◌, map, List, ap, inl, inr}
use Rattle.mc_tree.specs.Units as units
use Rattle.mc_tree.specs.Views.{name_of, specifier_of, specifiers_from}
use Rattle.mc_typed.specs.Tree.{Declarator, Function}
use Rattle.types_rules.specs.Values.{Judged}
use Rattle.types_rules.specs.Typing.{declared_only}
use Rattle.types_scopes.specs.Views.{scope_of}
use Rattle.types_scopes.specs.Found.{judged_of}
use Rattle.types_declarations.specs.Declarations.{functions_of}
use Rattle.mc_types.proofs.Exits.{found_as}
use Rattle.mc_types.proofs.Trees.{declarator_of-EmptyFunction, declarator_of-Function, declarator_of-Object, declarator_of-VoidFunction}
use Rattle.mc_types.proofs.UnitArms.{in_empty, in_void}
use Rattle.mc_types.proofs.units.item.Goals as goal

pub returns-in_ok-found-in-Declared : goal.returns-in_ok-found-in-Declared
returns-in_ok-found-in-Declared c =
    let u = scope_of c.declaration.new.scope in
    rw c.in-Declared.is
    (c.declared_item.ensures u ∙ ap (λ (x : Judged (List Declarator)). let v : Judged (List Function) = declared_only x in v) c.in_ok-found-in-Declared.ensures)

pub returns-in-Object : goal.returns-in-Object
returns-in-Object c =
    let f = c.in-Object in
    rw (c.in-Defined.is, f.is, declarator_of-Object f.stars f.name f.lengths f.span)
    (c.wrong_definition.ensures (scope_of c.args.scope.now))

pub returns-in-EmptyFunction : goal.returns-in-EmptyFunction
returns-in-EmptyFunction c =
    let w = c.in-Defined in
    let f = c.in-EmptyFunction in
    let s = scope_of c.args.scope.now in
    let all = specifiers_from (map specifier_of w.all.items) in
    let body = units.block_from (map units.block_item_of w.body.items) in
    elim f.is [
      | inl x ↦ rw (w.is, x.3, declarator_of-EmptyFunction x.0 f.name x.1 x.2)
          (found_as c.definition-in-EmptyFunction.result (λ z. judged_of functions_of z (scope_of c.definition-in-EmptyFunction.new.scope)) _ _
          (rw (c.deref-in-EmptyFunction.ensures.value, c.deref-in-EmptyFunction-2.ensures.value) at (c.definition-in-EmptyFunction.ensures x.1))
          (in_empty all (name_of f.name) body w.span x.1 s))
      | inr x ↦ rw (w.is, x.3, declarator_of-VoidFunction x.0 f.name x.1 x.2)
          (found_as c.definition-in-EmptyFunction.result (λ z. judged_of functions_of z (scope_of c.definition-in-EmptyFunction.new.scope)) _ _
          (rw (c.deref-in-EmptyFunction.ensures.value, c.deref-in-EmptyFunction-2.ensures.value) at (c.definition-in-EmptyFunction.ensures x.1))
          (in_void all (name_of f.name) body w.span x.1 s))
    ]

pub returns-in-Function : goal.returns-in-Function
returns-in-Function c =
    let f = c.in-Function in
    rw (c.in-Defined.is, f.is, declarator_of-Function f.stars f.name f.list f.list_span f.span)
    (rw (c.deref.ensures.value, c.deref-in-Function.ensures.value, c.deref-in-Function-2.ensures.value) at (c.definition.ensures f.list_span))
