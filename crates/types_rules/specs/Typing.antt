-- The faults of a unit, and its typed program (C17 6.9).
use Rattle.std.specs.Prelude.{◌≡◌, ℕ, ◌-◌, Bool, true, false, not, ◌||◌, List, [], ◌∷◌, ◌++◌, length, map, Option, Some, None, option_map}
use Rattle.mc_span.specs.declared.span.Span.{Span}
use Rattle.mc_tree.specs.Tree.{Name, Specifiers, Declarator, Parameters, ParameterList, Parameter, BlockItems, Item}
use Rattle.mc_tree.specs.Tree as tree
use Rattle.mc_typed.specs.Tree.{Statements, ParameterType, ResultType, Program}
use Rattle.mc_typed.specs.Tree as typed
use Rattle.types_faults.specs.declared.fault.Fault.{Fault}
use Rattle.types_faults.specs.declared.fault.FaultKind.TheVariants.{Redeclared, Mismatch}
use Rattle.types_faults.specs.Faults.{fault, fault_if, IsFirst, least_of}
use Rattle.types_rules.specs.Types.{Base, Void, Integer, Tagged, plain, Structure, is_complete, layout_of, structures_from, ParameterKind, ByValue, ByArray, Signature}
use Rattle.types_rules.specs.Scopes.{Function, Scope, file_scope, meaning_here, is_external, with_name, prototype, body_scope, left_function}
use Rattle.types_rules.specs.Values.{Judged, judged, lift2}
use Rattle.types_rules.specs.Limits.{frame_faults}
use Rattle.types_rules.specs.Judgement.{typed_by, judge_specifiers, judge_parameters}
use Rattle.types_rules.specs.Declarations.{both_lists, has_body, result_of, repeated_faults, function_faults, signature_listed, judge_declaration}
use Rattle.types_rules.specs.Statements.{outermost}
use Rattle.types_rules.specs.Bodies.{judge_block}

-- ---- functions (C17 6.9.1)

abbrev pub parameter_names_faults : Parameter → List Fault
parameter_names_faults (tree.parameter all stars None all_lengths span) = fault Mismatch span.start
parameter_names_faults (tree.parameter all stars (Some name) all_lengths span) = []

abbrev pub list_names_faults : ParameterList → List Fault
list_names_faults tree.no_parameters = []
list_names_faults (tree.parameters p rest) = parameter_names_faults p ++ list_names_faults rest

-- a definition names its parameters (C17 6.9.1p5)
abbrev pub names_faults : Parameters → List Fault
names_faults (tree.Listed all span) = list_names_faults all
names_faults _ = []

abbrev pub is_incomplete : List Structure → Option Base → Bool
is_incomplete all (Some (Tagged k)) = not (is_complete all (Tagged k))
is_incomplete all _ = false

-- a definition gives nothing or a complete type (C17 6.9.1p3); a function has one body, and the two
-- external ones have none
abbrev pub definition_faults : Name → Option Base → Scope → List Fault
definition_faults name result s =
    fault_if (is_incomplete s.structures result) Mismatch name.span.start
    ++ fault_if (has_body (meaning_here name s) || is_external name) Redeclared name.span.start

abbrev pub parameter_type : List Structure → ParameterKind → ParameterType
parameter_type all (ByValue (Integer a)) = typed.NumberParameter a
parameter_type all (ByValue b) = typed.StructureParameter (layout_of all (plain b))
parameter_type all (ByArray u) = typed.ArrayParameter (layout_of all u)

abbrev pub result_type : List Structure → Base → ResultType
result_type all Void = typed.NoResult
result_type all (Integer a) = typed.NumberResult a
result_type all (Tagged k) = typed.StructureResult (layout_of all (plain (Tagged k)))

-- the closing brace of a definition
abbrev pub closing : Span → Span
closing span = record { start = span.end - 1; end = span.end }

abbrev pub function_from : Name → Span → Scope → Signature → Statements → typed.Function
function_from name span s f body = record {
  name = name.text;
  name_span = name.span;
  parameters = map (parameter_type s.structures) f.parameters;
  result = result_type s.structures f.result;
  objects = s.objects;
  body = body;
  closing = closing span;
}

-- the scope after a definition's declarator, where the function's name is in scope
abbrev pub with_function : Name → Option Signature → Scope → Scope
with_function name f s = with_name name (Function f true) s

abbrev pub function_listed : Name → Span → Option Signature → Judged Statements
    → Option (List typed.Function)
function_listed name span f x =
    lift2 (λ g body. function_from name span x.scope g body ∷ []) f x.value

-- A definition: its specifiers, its parameters and its body. Its frame holds all its objects.
abbrev pub judge_definition : Specifiers → Name → Parameters → BlockItems → Span → Scope
    → Judged (List typed.Function)
judge_definition all name parameters body span s =
    let x = typed_by span.start all (judge_specifiers false all s) in
    let y = judge_parameters parameters (prototype x.scope) in
    let f = signature_listed x.value y in
    let file = with_function name f x.scope in
    let z = judge_block (outermost (result_of x.value)) body (body_scope x.scope file y.scope) in
    record {
      faults = x.faults ++ (y.faults ++ (names_faults parameters
          ++ (repeated_faults (meaning_here name x.scope) f name.span.start
          ++ (function_faults name x.value (length y.items) f
          ++ (definition_faults name (result_of x.value) x.scope
          ++ (z.faults
          ++ frame_faults z.scope.frame (length z.scope.objects) name.span.start))))));
      value = function_listed name span f z;
      scope = left_function file z.scope;
    }

-- ---- units

abbrev pub declared_only : {A B : Type 0} → Judged A → Judged (List B)
declared_only x = judged x.faults (option_map (λ ds. []) x.value) x.scope

abbrev pub judge_item : Item → Scope → Judged (List typed.Function)
judge_item (tree.Declared d) s = declared_only (judge_declaration d s)
judge_item (tree.Defined all (tree.function stars name parameters at) body span) s =
    judge_definition all name parameters body span s
-- no text is read where another declarator stands before a body
judge_item (tree.Defined all (tree.object stars name all_lengths at) body span) s =
    judged (fault Mismatch span.start) None s

abbrev pub judge_unit : List Item → Scope → Judged (List typed.Function)
judge_unit [] s = judged [] (Some []) s
judge_unit (i ∷ rest) s = let x = judge_item i s in both_lists x (judge_unit rest x.scope)

-- the names of the functions that have a body, in the order of their definitions
abbrev pub bodies_of : List Item → List (List ℕ)
bodies_of [] = []
bodies_of (tree.Declared d ∷ rest) = bodies_of rest
bodies_of (tree.Defined all d body span ∷ rest) = (tree.name_of d).text ∷ bodies_of rest

abbrev pub found_of : List Item → Judged (List typed.Function)
found_of items = judge_unit items (file_scope (bodies_of items))

-- ---- what is said of a unit

-- the faults of a unit
abbrev pub faults_of : List Item → List Fault
faults_of items = (found_of items).faults

-- A unit has a typing exactly where it has no fault.
abbrev pub HasTyping : List Item → Type 0
HasTyping items = faults_of items ≡ []

abbrev pub program_from : Scope → List typed.Function → Program
program_from s functions = record {
  functions = functions;
  statics = s.statics;
  structures = structures_from 0 s.structures;
}

-- its typed program
abbrev pub typing_of : List Item → Option Program
typing_of items = option_map (program_from (found_of items).scope) (found_of items).value

-- A unit with a typing has this typed program, and one without has this as its first fault. Units
-- with an outside form are another matter: pointers, `const` members, empty lists, `extern` objects
-- and function declarators in a block are judged here as if they had none.
abbrev pub IsTypingOf : List Item → Program → Type 0
IsTypingOf items program = HasTyping items × (typing_of items ≡ Some program)

abbrev pub IsFirstFaultOf : List Item → Fault → Type 0
IsFirstFaultOf items f = IsFirst (faults_of items) f

-- the fault that answers, where there is one
abbrev pub first_fault_of : List Item → Option Fault
first_fault_of items = least_of (faults_of items)
