use Rattle.std.proofs.Common.{◌≡◌, ◌∙◌, ℕ, Option, ap, map, length, option_map, rules, sym}
use Rattle.std.proofs.lemmas.List.{length-map}
use Rattle.mc_tree.specs.Views.{name_of}
use Rattle.types_rules.specs.Declarations as w
use Rattle.types_faults.specs.Faults.{least_of}
use Rattle.types_rules.specs.Scopes as s
use Rattle.types_rules.specs.Types as t
use Rattle.types_rules.specs.Typing as ty
use Rattle.types_scopes.specs.Types.{type_of}
use Rattle.types_declarations.specs.Declarations.{kind_found, listed_parameters, signature_in}
use Rattle.types_declarations.proofs.Begun.{head_joined}
use Rattle.types_declarations.proofs.definitions.head_fault.Goals as goal

pub returns : goal.returns
returns c = λ o u ps hd un sg.
    let name = name_of c.args.name.now in
    let gives = option_map type_of c.args.typed.now.value in
    let f = w.signature_listed gives (listed_parameters c.args.parameters.now u) in
    let kinds = c.args.parameters.now.kinds.items in
    let counted : c.len-count.result ≡ length kinds = search rules in
    let count : c.len-count.result ≡ length (map kind_found kinds) = counted ∙ sym (length-map kinds kind_found) in
    let before = s.meaning_here name o in
    let function = c.function_fault-function.ensures
    ∙ ap (λ (g : Option t.Signature). least_of (w.function_faults name gives c.len-count.result g)) sg
    ∙ ap (λ (n : ℕ). least_of (w.function_faults name gives n f)) count in
    let repeated = c.repeated_fault-repeated.ensures
    ∙ ap least_of (hd.repeated (signature_in c.args.of.now) name.span.start)
    ∙ ap (λ (g : Option t.Signature). least_of (w.repeated_faults before g name.span.start)) sg in
    head_joined c.args.typed.now.fault c.args.parameters.now.fault c.definition_fault-own.result c.function_fault-function.result
    c.repeated_fault-repeated.result c.args.unnamed c.lesser.result c.lesser-2.result c.lesser-own.result c.lesser-3.result
    c.lesser-4.result (ty.names_faults ps) (w.repeated_faults before f name.span.start)
    (w.function_faults name gives (length (map kind_found kinds)) f) (ty.definition_faults name (w.result_of gives) o)
    (c.definition_fault-own.ensures gives o hd) function repeated un c.lesser.ensures c.lesser-2.ensures
    c.lesser-own.ensures c.lesser-3.ensures c.lesser-4.ensures
