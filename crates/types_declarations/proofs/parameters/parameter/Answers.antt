use Rattle.std.proofs.Common.{◌∙◌, ◌++◌, ◌∷◌, [], List, Option, Result, Ok, Err, ap, map, option_map}
use Rattle.std.specs.Prelude.{IsOk, OnOk}
use Rattle.std.specs.declared.alloc.AllocError.{AllocError}
use Rattle.mc_tree.specs.Views.{tag_of}
use Rattle.types_rules.specs.Declarators as d
use Rattle.types_rules.specs.Scopes as s
use Rattle.types_scopes.specs.Types.{kind_of, type_of}
use Rattle.types_scopes.specs.Views.{scope_of, structure_of}
use Rattle.types_scopes.specs.declared.members.Structure.{Structure}
use Rattle.types_scopes.specs.declared.types.ParameterKind.{ParameterKind}
use Rattle.types_rules.specs.Values.{judged}
use Rattle.types_declarations.specs.Declarations.{kind_found, lengths_in, squeezed_listed, written}
use Rattle.types_faults.specs.Kept.{listed}
use Rattle.types_declarations.proofs.Begun.{parameter_found}
use Rattle.types_declarations.proofs.parameters.parameter.Goals as goal

ok_holds : {A : Type 0} (r : Result A AllocError) (P : Type 0) → IsOk r → OnOk r P → P
ok_holds (Ok v) P i h = h
ok_holds (Err e) P i h = absurd (cc)

pub returns-in-Ok-one_kind : goal.returns-in-Ok-one_kind
returns-in-Ok-one_kind c =
    let name = tag_of c.args.name.now in
    let lengths = written c.args.lengths.now in
    let base = option_map type_of c.args.base.now in
    let given = option_map lengths_in c.args.given.value in
    let t = scope_of c.cut_objects.new.self in
    let u = option_map type_of c.in-Ok.of in
    let fs = listed c.args.fault ++ (listed c.args.given.fault ++ d.parameter_faults name c.args.at lengths base u t) in
    let kinds = c.in-Ok-parameter_kind.ensures
    ∙ ap (λ (xs : List Structure). d.parameter_kind (map structure_of xs) u) c.deref.ensures.value in
    let kept = c.in-Ok-one_kind.ensures ∙ ap (λ (k : Option ParameterKind). kind_found k ∷ []) c.in-Ok-where_done.ensures.same in
    parameter_found name c.args.at lengths base c.args.fault c.args.given.fault c.parameter_fault-fault.result given t
    (scope_of c.declare_parameter-declared.new.scope) u (option_map type_of c.unless-of.result) (option_map kind_of c.in-Ok-parameter_kind.kind)
    (option_map kind_of c.kind_unless-kind.result) (map kind_found c.in-Ok-one_kind.kinds.items)
    c.in-Ok.ensures kinds c.parameter_fault-fault.ensures (c.unless-of.ensures fs c.parameter_fault-fault.ensures)
    c.kind_unless-kind.ensures (ok_holds _ _ c.in-Ok-where_done.ensures.done c.declare_parameter-declared.ensures) kept
    ∙ ap (λ (z : s.Scope). squeezed_listed (d.parameter_listed name c.args.at lengths base (listed c.args.fault)
    (judged (listed c.args.given.fault) given z))) c.cut_objects.ensures
