-- Calls (C17 6.5.2.2).
use Rattle.std.specs.Prelude.{ℕ, ◌+◌, ◌==◌, Bool, true, false, not, ◌&&◌, ◌||◌, if◌then◌else◌, List, [], ◌∷◌, ◌++◌, length, Option, Some, None, option_map, option_and_then, is_none}
use Rattle.mc_span.specs.declared.span.Span.{Span}
use Rattle.mc_tree.specs.Tree.{Name, Expressions}
use Rattle.mc_tree.specs.Tree as tree
use Rattle.mc_typed.specs.Layout.{ObjectType}
use Rattle.mc_typed.specs.Tree.{Place, Argument, Arguments}
use Rattle.mc_typed.specs.Tree as typed
use Rattle.types_faults.specs.declared.fault.Fault.{Fault}
use Rattle.types_faults.specs.declared.fault.FaultKind.TheVariants.{Undeclared, Mismatch, NoBody}
use Rattle.types_faults.specs.Faults.{fault, fault_if}
use Rattle.types_rules.specs.Profile.{sum_of}
use Rattle.types_rules.specs.Types.{Base, Void, Integer, Tagged, CType, plain, Structure, is_complete, layout_of, same_unqualified, ParameterKind, ByValue, ByArray, Signature}
use Rattle.types_rules.specs.Scopes.{Meaning, Function, Scope, function_number, is_input, is_output, is_external, next_slot, with_object, with_counted, cells_counted, uncounted}
use Rattle.types_rules.specs.Values.{judged, Value, Number, Stored, Borrowed, Returned, Done, Kind, IsStructure, IsArray, Found, kind_found, is_integer, fails, number_in, structure_in, lift2, found}
use Rattle.types_rules.specs.Expressions.{convert_to}

-- ---- arguments

-- An array goes to a parameter with the same element type, and a `const` one to a `const` one only.
abbrev pub array_fits : CType → CType → Bool
array_fits parameter element =
    same_unqualified parameter element && (parameter.is_const || not element.is_const)

-- an integer for an integer, the same structure for a structure, an array for an array
abbrev pub argument_fits : ParameterKind → Kind → Bool
argument_fits (ByValue (Integer a)) k = is_integer k
argument_fits (ByValue (Tagged j)) (IsStructure k) = j == k
argument_fits (ByArray u) (IsArray v) = array_fits u v
argument_fits _ _ = false

abbrev pub argument_faults : ℕ → Option ParameterKind → Option Kind → List Fault
argument_faults at None k = []
argument_faults at (Some p) k = fault_if (fails (argument_fits p) k) Mismatch at

abbrev pub stored_array : CType → Place → CType → List ℕ → Option Argument
stored_array u place v [] = None
stored_array u place v (n ∷ ns) =
    if array_fits u (record v { lengths = ns }) then Some (typed.ArrayArgument place n) else None

abbrev pub array_argument : CType → Value → Option Argument
array_argument u (Stored place v) = stored_array u place v v.lengths
array_argument u (Borrowed array v span) =
    if array_fits u v then Some (typed.AgainArgument array span) else None
array_argument u _ = None

-- an integer is converted to the parameter's type (C17 6.5.2.2p7); a structure is copied to an
-- object of its own
abbrev pub argument_of : Scope → ParameterKind → Value → Option Argument
argument_of s (ByValue (Integer a)) v =
    option_map (λ e. typed.NumberArgument (convert_to a e)) (number_in v)
argument_of s (ByValue (Tagged k)) v =
    option_map (λ w. typed.StructureArgument w (next_slot s)) (structure_in k v)
argument_of s (ByValue Void) v = None
argument_of s (ByArray u) v = array_argument u v

abbrev pub layout_of_structure : Scope → ℕ → ObjectType
layout_of_structure s k = layout_of s.structures (plain (Tagged k))

-- the copy of a structure that an argument gives
abbrev pub copy_of : Scope → Option ParameterKind → Option Argument → Option ObjectType
copy_of s (Some (ByValue (Tagged k))) (Some a) = Some (layout_of_structure s k)
copy_of s _ _ = None

abbrev pub argument_value : Scope → Option ParameterKind → Option Value → Option Argument
argument_value s None v = None
argument_value s (Some p) v = option_and_then (argument_of s p) v

-- what is found of arguments: also, how many cells the copies of their structures have
pub record Given (A : Type 0) : Type 0 where
  pub faults : List Fault
  pub value : Option A
  pub copied : ℕ
  pub scope : Scope

abbrev pub judged_given : {A : Type 0} → List Fault → Option A → ℕ → Scope → Given A
judged_given faults value n s = record { faults = faults; value = value; copied = n; scope = s }

-- an argument that starts here, for its parameter where there is one
abbrev pub argument_judged : ℕ → Option ParameterKind → Found → Given Argument
argument_judged at p x =
    let a = argument_value x.scope p x.value in
    let copy = copy_of x.scope p a in
    judged_given (x.faults ++ argument_faults at p (kind_found x)) a (cells_counted copy)
    (with_counted copy x.scope)

abbrev pub first_of : List ParameterKind → Option ParameterKind
first_of [] = None
first_of (p ∷ ps) = Some p

abbrev pub rest_of : List ParameterKind → List ParameterKind
rest_of [] = []
rest_of (p ∷ ps) = ps

-- no more arguments, for these parameters
abbrev pub no_more : List ParameterKind → Option Arguments
no_more [] = Some typed.no_arguments
no_more (p ∷ ps) = None

abbrev pub arguments_judged : Given Argument → Given Arguments → Given Arguments
arguments_judged x y =
    judged_given (x.faults ++ y.faults) (lift2 typed.arguments x.value y.value)
    (sum_of x.copied y.copied) y.scope

-- ---- calls

abbrev pub parameters_of : Option Meaning → List ParameterKind
parameters_of (Some (Function (Some f) has_body)) = f.parameters
parameters_of _ = []

abbrev pub argument_count : Expressions → ℕ
argument_count tree.no_expressions = 0
argument_count (tree.expressions e rest) = argument_count rest + 1

-- a function gives nothing or a complete type (C17 6.5.2.2p1)
abbrev pub gives : List Structure → Base → Bool
gives all Void = true
gives all (Integer a) = true
gives all (Tagged k) = is_complete all (Tagged k)

-- as many arguments as parameters
abbrev pub signature_faults : ℕ → ℕ → List Structure → Option Signature → List Fault
signature_faults at count all None = []
signature_faults at count all (Some f) =
    fault_if (not (count == length f.parameters) || not (gives all f.result)) Mismatch at

abbrev pub body_faults : ℕ → Name → Scope → List Fault
body_faults at name s =
    fault_if (not (is_external name) && is_none (function_number name s)) NoBody at

-- what is called is a function
abbrev pub callee_faults : Name → ℕ → ℕ → Scope → Option Meaning → List Fault
callee_faults name at count s None = fault Undeclared name.span.start
callee_faults name at count s (Some (Function signature has_body)) =
    signature_faults at count s.structures signature ++ body_faults name.span.start name s
callee_faults name at count s (Some _) = fault Mismatch at

abbrev pub output_of : Span → Arguments → Option Value
output_of span (typed.arguments (typed.NumberArgument e) typed.no_arguments) = Some
    (Done (typed.Output e span))
output_of span _ = None

abbrev pub returned : Scope → ℕ → Arguments → Span → Base → Option Value
returned s f given span Void = Some (Done (typed.CallEffect (typed.call f given None span)))
returned s f given span (Integer a) = Some (Number (typed.Call (typed.call f given None span) a))
returned s f given span (Tagged k) =
    if is_complete s.structures (Tagged k)
    then Some (Returned (typed.call f given (Some (next_slot s)) span) k)
    else None

abbrev pub called : Name → Span → Scope → Base → Arguments → Option Value
called name span s result given =
    if is_input name then Some (Number (typed.Input span))
    else if is_output name then output_of span given
    else option_and_then (λ f. returned s f given span result) (function_number name s)

abbrev pub call_value : Name → Span → Option Meaning → Scope → Option Arguments → Option Value
call_value name span (Some (Function (Some f) has_body)) s given =
    option_and_then (called name span s f.result) given
call_value name span _ s given = None

-- A structure that a call returns has an object of its own (C17 6.2.4p8). The copies of the
-- arguments of a call without a type, so many cells, count no more.
abbrev pub after_call : Option Value → ℕ → Scope → Scope
after_call None n s = uncounted n s
after_call (Some (Returned c k)) n s = with_object (layout_of_structure s k) s
after_call (Some _) n s = s

-- a call with so many arguments, where the name has this meaning
abbrev pub call_found : Name → ℕ → Span → Option Meaning → Given Arguments → Found
call_found name count span meaning x =
    let v = call_value name span meaning x.scope x.value in
    found false false
    (judged (x.faults ++ callee_faults name span.start count x.scope meaning) v
    (after_call v x.copied x.scope))

-- a comma operator: elsewhere than between the clauses of a `for` it is an outside form
abbrev pub comma_found : ℕ → Given Arguments → Found
comma_found at x = found false false (judged (x.faults ++ fault Mismatch at) None x.scope)
