-- How what is found of the parts of a declaration makes what is found of the whole.
use Rattle.std.specs.Prelude.{◌≡◌, ℕ, false, true, List, length, take, Option}
use Rattle.mc_span.specs.declared.span.Span.{Span}
use Rattle.mc_tree.specs.Tree.{Name, ArrayLengths, BlockItems, Initializer, Parameters, Specifiers}
use Rattle.types_faults.specs.declared.fault.Fault.{Fault}
use Rattle.types_faults.specs.Faults.{unless_faulty}
use Rattle.types_rules.specs.Types.{CType, ParameterKind}
use Rattle.types_rules.specs.Scopes.{Scope, prototype, with_objects_of}
use Rattle.types_rules.specs.Values.{Found, Judged}
use Rattle.types_rules.specs.Declarators.{Listed, joined, lengths_judged}
use Rattle.types_rules.specs.Declarations.{both_lists, count_listed, judge_optional_initializer, automatic_judged, static_judged, result_of}
use Rattle.types_rules.specs.Judgement.{judge_lengths, judge_parameters, judge_specifiers, specifiers_judged, typed_by}
use Rattle.types_rules.specs.Statements.{outermost}
use Rattle.types_rules.specs.Bodies.{judge_block}
use Rattle.types_rules.specs.Typing.{judge_definition, with_function}
use Rattle.types_scopes.specs.Blocks.{around}
use Rattle.types_scopes.specs.Prototypes.{counted, cut_to, around_prototype, prototype_left_by}
use Rattle.types_scopes.specs.steps.Squeezed.{squeezed, squeezed_part}
use Rattle.types_declarations.specs.Bodies.{definition_begun, definition_ended}
use Rattle.types_declarations.specs.Declarations.{length_then, squeezed_listed}
use Rattle.types_declarations.specs.Halves.{automatic_begun, automatic_ended, static_begun, static_ended}

-- ---- an object, before its initializer and after it

abbrev pub AutomaticInHalves : Type 0
AutomaticInHalves =
    (faults : List Fault) (name : Name) (lengths : ArrayLengths) (base u : Option CType)
    (value : Option Initializer) (s : Scope)
    → automatic_judged faults name lengths base u value s
    ≡ automatic_ended (automatic_begun faults name lengths (count_listed value) base u s) name
    (judge_optional_initializer false
    (unless_faulty (automatic_begun faults name lengths (count_listed value) base u s).own u) value
    (automatic_begun faults name lengths (count_listed value) base u s).scope)

abbrev pub StaticInHalves : Type 0
StaticInHalves =
    (faults : List Fault) (name : Name) (lengths : ArrayLengths) (base u : Option CType)
    (value : Option Initializer) (s : Scope)
    → static_judged faults name lengths base u value s
    ≡ static_ended (static_begun faults name lengths (count_listed value) base u s) name u
    (judge_optional_initializer true
    (unless_faulty (static_begun faults name lengths (count_listed value) base u s).own u) value
    (static_begun faults name lengths (count_listed value) base u s).scope)

-- A function, before the statements of its body and after them.
abbrev pub DefinitionInHalves : Type 0
DefinitionInHalves =
    (all : Specifiers) (name : Name) (parameters : Parameters) (body : BlockItems) (span : Span)
    (s : Scope) (x : Judged CType) → x ≡ typed_by span.start all (judge_specifiers false all s)
    → judge_definition all name parameters body span s
    ≡ definition_ended name span
    (definition_begun name parameters x (judge_parameters parameters (prototype x.scope)))
    (around (with_function name
    (definition_begun name parameters x
    (judge_parameters parameters (prototype x.scope))).signature x.scope))
    (judge_block (outermost (result_of x.value)) body
    (definition_begun name parameters x (judge_parameters parameters (prototype x.scope))).scope)

-- ---- lists, from the left

abbrev pub SpecifiersFromLeft : Type 0
SpecifiersFromLeft =
    (x y z : Judged CType)
    → squeezed_part (specifiers_judged (squeezed_part (specifiers_judged x y)) z)
    ≡ squeezed_part (specifiers_judged x (specifiers_judged y z))

abbrev pub LengthsFromLeft : Type 0
LengthsFromLeft =
    (x : Judged (List ℕ)) (at : ℕ) (y : Found) (z : Judged (List ℕ))
    → squeezed_part (both_lists (squeezed_part (length_then x at (squeezed y))) z)
    ≡ squeezed_part (both_lists x (lengths_judged at y z))

abbrev pub ParametersFromLeft : Type 0
ParametersFromLeft =
    (x y z : Listed (Option ParameterKind))
    → squeezed_listed (joined (squeezed_listed (joined x y)) z)
    ≡ squeezed_listed (joined x (joined y z))

-- ---- scopes

-- After parameters the scope is that of before, but for those of a definition.
abbrev pub ParametersLeaveNothing : Type 0
ParametersLeaveNothing =
    (ps : Parameters) (s : Scope)
    → prototype_left_by (around_prototype s) (judge_parameters ps (prototype s)).scope ≡ s

abbrev pub NamesStay : Type 0
NamesStay =
    (ps : Parameters) (s : Scope)
    → take (length s.names) (judge_parameters ps (prototype s)).scope.names ≡ s.names

-- Calls in a parameter make no objects.
abbrev pub ParametersCallNothing : Type 0
ParametersCallNothing =
    (all : Specifiers) (lengths : ArrayLengths) (s : Scope)
    → cut_to (counted s) (judge_lengths lengths (judge_specifiers false all s).scope).scope
    ≡ with_objects_of s (judge_lengths lengths (judge_specifiers false all s).scope).scope
