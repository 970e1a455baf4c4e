use Rattle.std.proofs.Common.{◌∙◌, map}
use Rattle.mc_tree.specs.Units as units
use Rattle.mc_tree.specs.Views.{specifier_of, specifiers_from}
use Rattle.types_scopes.specs.Types.{type_of}
use Rattle.types_scopes.specs.Views.{scope_of}
use Rattle.types_scopes.specs.Found.{judged_of}
use Rattle.types_scopes.specs.Statements.{declarators_of}
use Rattle.types_faults.specs.Kept.{listed}
use Rattle.mc_types.proofs.DeclarationArms.{in_declaration}
use Rattle.mc_types.proofs.declarations.declaration.Goals as goal

pub returns : goal.returns
returns c =
    let d = c.args.tree.now in
    let r = scope_of c.typed.new.scope in
    let u = scope_of c.init_declarators.new.scope in
    let all = specifiers_from (map specifier_of d.specifiers.items) in
    let ds = map units.init_declarator_of d.declarators.items in
    c.declaration.ensures u
    ∙ in_declaration all ds d.span (scope_of c.args.scope.now) (judged_of type_of c.in_ok-of.of r) (listed c.empty_fault-empty.result) (judged_of declarators_of c.in_ok-list.list u)
    (rw (c.is_tag_alone-alone.ensures, c.deref.ensures.value, c.deref-2.ensures.value, c.deref-4.ensures.value) at c.in_ok-of.ensures)
    (rw (c.deref-5.ensures.value, c.deref-6.ensures.value) at c.empty_fault-empty.ensures)
    (rw (c.storage_of-storage.ensures, c.deref-3.ensures.value, c.deref-7.ensures.value) at c.in_ok-list.ensures)
