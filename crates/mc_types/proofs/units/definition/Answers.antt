use Rattle.std.proofs.Common.{◌∙◌, map, ap}
use Rattle.mc_tree.specs.Tree as tree
use Rattle.mc_tree.specs.Units as units
use Rattle.mc_tree.specs.Views.{name_of, parameter_of, parameters_from, specifier_of, specifiers_from}
use Rattle.types_rules.specs.Scopes.{Scope}
use Rattle.types_rules.specs.Judgement.{judge_parameter_list}
use Rattle.types_scopes.specs.Blocks.{Around, around_of}
use Rattle.types_scopes.specs.Types.{type_of}
use Rattle.types_scopes.specs.Views.{entry_of, scope_of}
use Rattle.types_scopes.specs.Found.{judged_of}
use Rattle.types_scopes.specs.Statements.{statements_of}
use Rattle.types_declarations.specs.Bodies.{body_of}
use Rattle.types_declarations.specs.Declarations.{functions_of, listed_parameters, squeezed_listed}
use Rattle.mc_types.proofs.Exits.{found_each}
use Rattle.mc_types.proofs.UnitArms.{in_definition, names_stay, within}
use Rattle.mc_types.proofs.units.definition.Goals as goal

pub begin_definition-requires : goal.begin_definition-requires
begin_definition-requires c =
    let r = scope_of c.typed.new.scope in
    let q = scope_of c.parameters.new.scope in
    let list = parameters_from (map parameter_of c.args.list.now) in
    let ps = tree.Listed list c.args.span in
    let y = listed_parameters c.in_ok-found.found q in
    let hy = c.in_ok-found.ensures ∙ ap (λ (v : Scope). squeezed_listed (judge_parameter_list list v)) c.enter_prototype-outer.ensures.entered in
    within entry_of _ r.names c.parameters.new.scope.names
    (ap (λ (a : Around). a.names) c.enter_prototype-outer.ensures.block) (names_stay ps r y hy)

pub returns : goal.returns
returns c =
    λ at.
    let s = scope_of c.args.scope.now in
    let r = scope_of c.typed.new.scope in
    let q = scope_of c.parameters.new.scope in
    let o = scope_of c.begin_definition.new.scope in
    let u = scope_of c.block.new.scope in
    let all = specifiers_from (map specifier_of c.args.all.now) in
    let list = parameters_from (map parameter_of c.args.list.now) in
    let ps = tree.Listed list at in
    let body = units.block_from (map units.block_item_of c.args.body.now) in
    let x = judged_of type_of c.in_ok-of.of r in
    let y = listed_parameters c.in_ok-found.found q in
    let hy = c.in_ok-found.ensures ∙ ap (λ (v : Scope). squeezed_listed (judge_parameter_list list v)) c.enter_prototype-outer.ensures.entered in
    found_each c.end_definition.result (λ z. judged_of functions_of z (scope_of c.end_definition.new.scope)) u _ _ c.end_definition.ensures
    (in_definition all (name_of c.args.name.now) ps body c.args.span s u x y (body_of c.in_ok-begun.begun o) (around_of c.in_ok-begun.begun.block) (judged_of statements_of c.in_ok-statements.statements u)
    c.in_ok-of.ensures hy
    (c.in_ok-begun.ensures.body r ps c.in_ok-heading.ensures c.names_fault-unnamed.ensures c.enter_prototype-outer.ensures.block (names_stay ps r y hy))
    (c.in_ok-begun.ensures.block r c.enter_prototype-outer.ensures.block)
    (rw (c.outermost-around.ensures, c.result_of.ensures) at c.in_ok-statements.ensures))
