use Rattle.std.proofs.Common.{◌∙◌, map, option_map, option_copied, Option, ap, inl, inr}
use Rattle.mc_tree.specs.Units as units
use Rattle.mc_tree.specs.Views.{name_of, parameter_of, parameters_from}
use Rattle.types_rules.specs.Types.{ParameterKind}
use Rattle.types_rules.specs.Scopes.{Scope, prototype}
use Rattle.types_rules.specs.Declarators.{Listed}
use Rattle.types_rules.specs.Declarations.{function_judged}
use Rattle.types_rules.specs.Judgement.{judge_parameter_list}
use Rattle.types_scopes.specs.Types.{type_of}
use Rattle.types_scopes.specs.Views.{scope_of}
use Rattle.types_scopes.specs.Found.{judged_of}
use Rattle.types_scopes.specs.Statements.{declarators_of}
use Rattle.types_scopes.specs.steps.Squeezed.{squeezed_part}
use Rattle.types_declarations.specs.Declarations.{listed_parameters, storage_from}
use Rattle.mc_types.proofs.Exits.{found_as}
use Rattle.mc_types.proofs.Trees.{declarator_of-EmptyFunction, declarator_of-Function, declarator_of-Object, declarator_of-VoidFunction}
use Rattle.mc_types.proofs.DeclarationArms.{function_of_least}
use Rattle.mc_types.proofs.declarations.declarator.Goals as goal

pub returns-in-Object : goal.returns-in-Object
returns-in-Object c =
    let w = c.in-Object in
    rw (w.is, declarator_of-Object w.stars w.name w.all w.span)
    (rw c.deref.ensures.value at (c.object.ensures w.stars w.span))

pub returns-in-EmptyFunction : goal.returns-in-EmptyFunction
returns-in-EmptyFunction c =
    let w = c.in-EmptyFunction in
    let s = scope_of c.args.scope.now in
    elim w.is [
      | inl x ↦ rw (x.3, declarator_of-EmptyFunction x.0 w.name x.1 x.2)
          (found_as c.function-in-EmptyFunction.result (λ z. judged_of declarators_of z (scope_of c.function-in-EmptyFunction.new.scope)) _ _ (c.function-in-EmptyFunction.ensures s)
          (ap (λ (l : Listed (Option ParameterKind)). squeezed_part (function_judged (storage_from c.args.storage) (name_of w.name) (option_map type_of c.args.base.now) l (option_map units.initializer_of (option_copied c.args.value)) s)) (c.no_parameters-none.ensures s)))
      | inr x ↦ rw (x.3, declarator_of-VoidFunction x.0 w.name x.1 x.2)
          (found_as c.function-in-EmptyFunction.result (λ z. judged_of declarators_of z (scope_of c.function-in-EmptyFunction.new.scope)) _ _ (c.function-in-EmptyFunction.ensures s)
          (ap (λ (l : Listed (Option ParameterKind)). squeezed_part (function_judged (storage_from c.args.storage) (name_of w.name) (option_map type_of c.args.base.now) l (option_map units.initializer_of (option_copied c.args.value)) s)) (c.no_parameters-none.ensures s)))
    ]

pub returns-in-Ok : goal.returns-in-Ok
returns-in-Ok c =
    let w = c.in-Function in
    let s = scope_of c.args.scope.now in
    let all = parameters_from (map parameter_of w.list.items) in
    let found = listed_parameters c.in-Ok.found s in
    let whole : Listed (Option ParameterKind) = record (judge_parameter_list all (prototype s)) { scope = s } in
    rw (w.is, declarator_of-Function w.stars w.name w.list w.list_span w.span)
    (found_as c.function.result (λ z. judged_of declarators_of z (scope_of c.function.new.scope)) _ _ (c.function.ensures s)
    (ap (λ (v : Scope). squeezed_part (function_judged (storage_from c.args.storage) (name_of w.name) (option_map type_of c.args.base.now) found (option_map units.initializer_of (option_copied c.args.value)) v)) c.in-Ok.ensures.scope
    ∙ ap (λ (l : Listed (Option ParameterKind)). squeezed_part (function_judged (storage_from c.args.storage) (name_of w.name) (option_map type_of c.args.base.now) l (option_map units.initializer_of (option_copied c.args.value)) s)) (rw c.deref-in-Function.ensures.value at (c.in-Ok.ensures.found s))
    ∙ function_of_least (storage_from c.args.storage) (name_of w.name) (option_map type_of c.args.base.now) whole (option_map units.initializer_of (option_copied c.args.value)) s))
