-- A function definition is its two halves, and sees of the faults of its parts the least alone.
use Rattle.std.proofs.Common.{◌≡◌, false, List, ◌++◌, length, Option, ap, append_assoc}
use Rattle.mc_span.specs.declared.span.Span.{Span}
use Rattle.mc_tree.specs.Tree.{Name, Specifiers, Parameters, BlockItems}
use Rattle.mc_typed.specs.Tree.{Statements}
use Rattle.types_faults.specs.declared.fault.Fault.{Fault}
use Rattle.types_rules.specs.Types.{CType, ParameterKind, Signature}
use Rattle.types_rules.specs.Scopes.{Scope, meaning_here, prototype, left_function}
use Rattle.types_rules.specs.Values.{Judged, judged}
use Rattle.types_rules.specs.Limits.{frame_faults}
use Rattle.types_rules.specs.Declarators.{Listed}
use Rattle.types_rules.specs.Declarations.{result_of, repeated_faults, function_faults, signature_listed}
use Rattle.types_rules.specs.Judgement.{typed_by, judge_specifiers, judge_parameters}
use Rattle.types_rules.specs.Statements.{outermost}
use Rattle.types_rules.specs.Bodies.{judge_block}
use Rattle.types_rules.specs.Typing.{names_faults, definition_faults, with_function, function_listed, judge_definition}
use Rattle.types_scopes.specs.Blocks.{Around, around}
use Rattle.types_declarations.specs.Bodies.{BodyBegun, squeezed_body, definition_begun, definition_ended}
use Rattle.types_declarations.specs.Declarations.{squeezed_listed}
use Rattle.types_scopes.specs.steps.Squeezed.{squeezed_part}
use Rattle.types_scopes.proofs.Squeezed.{least_two}

regrouped : (x y n r f d z frame : List Fault)
    → x ++ (y ++ (n ++ (r ++ (f ++ (d ++ (z ++ frame)))))) ≡ (x ++ (y ++ (n ++ (r ++ (f ++ d))))) ++ (z ++ frame)
regrouped x y n r f d z frame = simp append_assoc

halves : (name : Name) (parameters : Parameters) (span : Span) (x : Judged CType) (y : Listed (Option ParameterKind))
    (z : Judged Statements)
    → judged (x.faults ++ (y.faults ++ (names_faults parameters
    ++ (repeated_faults (meaning_here name x.scope) (signature_listed x.value y) name.span.start
    ++ (function_faults name x.value (length y.items) (signature_listed x.value y)
    ++ (definition_faults name (result_of x.value) x.scope ++ (z.faults ++ frame_faults z.scope.frame (length z.scope.objects) name.span.start)))))))
    (function_listed name span (signature_listed x.value y) z)
    (left_function (with_function name (signature_listed x.value y) x.scope) z.scope)
    ≡ definition_ended name span (definition_begun name parameters x y)
    (around (with_function name (signature_listed x.value y) x.scope)) z
halves name parameters span x y z =
    let f = signature_listed x.value y in
    ap (λ (fs : List Fault). judged fs (function_listed name span f z) (left_function (with_function name f x.scope) z.scope))
    (regrouped x.faults y.faults (names_faults parameters) (repeated_faults (meaning_here name x.scope) f name.span.start)
    (function_faults name x.value (length y.items) f) (definition_faults name (result_of x.value) x.scope)
    z.faults (frame_faults z.scope.frame (length z.scope.objects) name.span.start))

pub definition_halves : (all : Specifiers) (name : Name) (parameters : Parameters) (body : BlockItems) (span : Span) (s : Scope)
    → (x : Judged CType) → x ≡ typed_by span.start all (judge_specifiers false all s)
    → judge_definition all name parameters body span s
    ≡ definition_ended name span (definition_begun name parameters x (judge_parameters parameters (prototype x.scope)))
    (around (with_function name (definition_begun name parameters x (judge_parameters parameters (prototype x.scope))).signature x.scope))
    (judge_block (outermost (result_of x.value)) body
    (definition_begun name parameters x (judge_parameters parameters (prototype x.scope))).scope)
definition_halves all name parameters body span s x is =
    let w = typed_by span.start all (judge_specifiers false all s) in
    let y = judge_parameters parameters (prototype w.scope) in
    let z = judge_block (outermost (result_of w.value)) body (definition_begun name parameters w y).scope in
    rw is (halves name parameters span w y z)

abbrev body_by : List Fault → Option Signature → Scope → BodyBegun
body_by fs f s = record { faults = fs; signature = f; scope = s }

pub definition_begun_node : (name : Name) (parameters : Parameters) (x : Judged CType) (y : Listed (Option ParameterKind))
    → squeezed_body (definition_begun name parameters (squeezed_part x) (squeezed_listed y))
    ≡ squeezed_body (definition_begun name parameters x y)
definition_begun_node name parameters x y =
    let b = definition_begun name parameters x y in
    let f = signature_listed x.value y in
    ap (λ (fs : List Fault). body_by fs b.signature b.scope)
    (least_two x.faults y.faults (names_faults parameters ++ (repeated_faults (meaning_here name x.scope) f name.span.start
    ++ (function_faults name x.value (length y.items) f ++ definition_faults name (result_of x.value) x.scope))))

pub definition_ended_node : (name : Name) (span : Span) (b : BodyBegun) (a : Around) (z : Judged Statements)
    → squeezed_part (definition_ended name span (squeezed_body b) a (squeezed_part z))
    ≡ squeezed_part (definition_ended name span b a z)
definition_ended_node name span b a z =
    let e = definition_ended name span b a z in
    ap (λ (fs : List Fault). judged fs e.value e.scope) (least_two b.faults z.faults (frame_faults z.scope.frame (length z.scope.objects) name.span.start))
