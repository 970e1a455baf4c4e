-- A tree without probes is well-formed where the program is sound.
use Rattle.std.proofs.Common.{◌≡◌, ◌∙◌, ℕ, Bool, true, false, List, [], ◌∷◌, map, option_map, Option, Some, None, refl, sym, ap, subst}
use Rattle.mc_value.specs.declared.object_type.ObjType.{ObjType}
use Rattle.mc_typed.specs.declared.functions.Function.{Function}
use Rattle.mc_typed.specs.declared.objects.StaticObject.{StaticObject}
use Rattle.mc_typed.specs.Layout.{object_type_of}
use Rattle.mc_typed.specs.Views.{Parts}
use Rattle.mc_typed.specs.Views as plain
use Rattle.mc_typed.specs.Sound.{IsSound}
use Rattle.mc_typed.specs.Tree as t
use Rattle.mc_steps.specs.Points.{has_default, initializes}
use Rattle.mc_probe.specs.Views as probed
use Rattle.mc_probe.specs.Tree as p
use Rattle.mc_probe.specs.Erase.{erase, erase_declarator, erase_statements}
use Rattle.mc_probe.specs.Bare.{bare_place, bare_expression, bare_structure, bare_call, bare_argument, bare_arguments, bare_effect, bare_initializer, bare_initializers, bare_declarator, bare_start, bare_return, bare_statement, bare_statements, bare_function, bare_tree}
use Rattle.mc_probe.specs.WellFormed.{IsBarePlace, IsBare, IsBareStructure, IsBareCall, IsBareArgument, AreBareArguments, FitsPlace, Fits, FitsStructure, FitsCall, FitsArgument, FitArguments, FitsEffect, FitEffects, FitsInitializer, FitInitializers, FitsInitial, FitDeclarators, FitsStart, FitsTest, FitsReturn, FitsDeclaration, FitsAbsent, FitsStatement, FitStatements, FitFunctions, IsWellFormed}
use Rattle.mc_probe.specs.Trees.{tree_of}
use Rattle.mc_probe.proofs.Backs.{program_back}
use Rattle.mc_probe.proofs.ErasedPrograms.{programs_erase}

mutual
  place_bare : (x : t.Place) → IsBarePlace (bare_place x)
  place_bare (t.Local slot span) = tt
  place_bare (t.Static slot span) = tt
  place_bare (t.Parameter array stride index span) = expression_bare index
  place_bare (t.Item array m stride index span) = (place_bare array, expression_bare index)
  place_bare (t.Member structure k offset span) = place_bare structure

  expression_bare : (x : t.Expression) → IsBare (bare_expression x)
  expression_bare (t.Constant v a span) = tt
  expression_bare (t.Read place a) = place_bare place
  expression_bare (t.Unary operator a x span) = expression_bare x
  expression_bare (t.Convert a written x span) = expression_bare x
  expression_bare (t.Not x span) = expression_bare x
  expression_bare (t.Binary operator a x y span) = (expression_bare x, expression_bare y)
  expression_bare (t.Logic operator x y span) = (expression_bare x, expression_bare y)
  expression_bare (t.Choice x y z a span) = (expression_bare x, expression_bare y, expression_bare z)
  expression_bare (t.Call k a) = call_bare k
  expression_bare (t.Input span) = tt

  structure_bare : (x : t.StructureValue) → IsBareStructure (bare_structure x)
  structure_bare (t.Stored place) = place_bare place
  structure_bare (t.Returned k) = call_bare k

  call_bare : (x : t.FunctionCall) → IsBareCall (bare_call x)
  call_bare (t.call f given result span) = arguments_bare given

  argument_bare : (x : t.Argument) → IsBareArgument (bare_argument x)
  argument_bare (t.NumberArgument x) = expression_bare x
  argument_bare (t.StructureArgument value copy) = structure_bare value
  argument_bare (t.ArrayArgument place m) = place_bare place
  argument_bare (t.AgainArgument array span) = tt

  arguments_bare : (x : t.Arguments) → AreBareArguments (bare_arguments x)
  arguments_bare t.no_arguments = tt
  arguments_bare (t.arguments a rest) = (argument_bare a, arguments_bare rest)

mutual
  place_fits : (n : ℕ) (x : t.Place) → FitsPlace n (bare_place x)
  place_fits n (t.Local slot span) = tt
  place_fits n (t.Static slot span) = tt
  place_fits n (t.Parameter array stride index span) = expression_fits n index
  place_fits n (t.Item array m stride index span) = (place_fits n array, expression_fits n index)
  place_fits n (t.Member structure k offset span) = place_fits n structure

  expression_fits : (n : ℕ) (x : t.Expression) → Fits n (bare_expression x)
  expression_fits n (t.Constant v a span) = tt
  expression_fits n (t.Read place a) = place_fits n place
  expression_fits n (t.Unary operator a x span) = expression_fits n x
  expression_fits n (t.Convert a written x span) = expression_fits n x
  expression_fits n (t.Not x span) = expression_fits n x
  expression_fits n (t.Binary operator a x y span) = (expression_fits n x, expression_fits n y)
  expression_fits n (t.Logic operator x y span) = (expression_fits n x, expression_fits n y)
  expression_fits n (t.Choice x y z a span) = (expression_fits n x, expression_fits n y, expression_fits n z)
  expression_fits n (t.Call k a) = call_fits n k
  expression_fits n (t.Input span) = tt

  structure_fits : (n : ℕ) (x : t.StructureValue) → FitsStructure n (bare_structure x)
  structure_fits n (t.Stored place) = place_fits n place
  structure_fits n (t.Returned k) = call_fits n k

  call_fits : (n : ℕ) (x : t.FunctionCall) → FitsCall n (bare_call x)
  call_fits n (t.call f given result span) = arguments_fits n given

  argument_fits : (n : ℕ) (x : t.Argument) → FitsArgument n (bare_argument x)
  argument_fits n (t.NumberArgument x) = expression_fits n x
  argument_fits n (t.StructureArgument value copy) = structure_fits n value
  argument_fits n (t.ArrayArgument place m) = place_fits n place
  argument_fits n (t.AgainArgument array span) = tt

  arguments_fits : (n : ℕ) (x : t.Arguments) → FitArguments n (bare_arguments x)
  arguments_fits n t.no_arguments = tt
  arguments_fits n (t.arguments a rest) = (argument_fits n a, arguments_fits n rest)

effect_fits : (n : ℕ) (x : t.Effect) → FitsEffect n (bare_effect x)
effect_fits n (t.Assign target a x span) = (place_fits n target, expression_fits n x)
effect_fits n (t.Update target a operator common x span) = (place_fits n target, expression_fits n x)
effect_fits n (t.Copy target value m span) = (place_fits n target, structure_fits n value)
effect_fits n (t.NumberEffect x whole) = expression_fits n x
effect_fits n (t.StructureEffect value whole) = structure_fits n value
effect_fits n (t.CallEffect k) = call_fits n k
effect_fits n (t.Output x span) = expression_fits n x
effect_fits n (t.ChoiceEffect x a b span) = (expression_fits n x, effect_fits n a, effect_fits n b)
effect_fits n (t.Discard a span) = effect_fits n a

effects_fit : (n : ℕ) (xs : List t.Effect) → FitEffects n (map bare_effect xs)
effects_fit n [] = tt
effects_fit n (x ∷ xs) = (effect_fits n x, effects_fit n xs)

mutual
  initializer_fits : (n : ℕ) (x : t.Initializer) → FitsInitializer n (bare_initializer x)
  initializer_fits n (t.NumberInitializer x) = expression_fits n x
  initializer_fits n (t.StructureInitializer value m) = structure_fits n value
  initializer_fits n (t.ListInitializer items m) = initializers_fit n items
  initializer_fits n (t.ZeroInitializer x m) = expression_bare x

  initializers_fit : (n : ℕ) (x : t.Initializers) → FitInitializers n (bare_initializers x)
  initializers_fit n t.no_initializers = tt
  initializers_fit n (t.initializers x rest) = (initializer_fits n x, initializers_fit n rest)

initial_fits : (n : ℕ) (x : Option t.Initializer) → FitsInitial n (option_map bare_initializer x)
initial_fits n None = tt
initial_fits n (Some x) = initializer_fits n x

declarators_fit : (n : ℕ) (xs : List t.Declarator) → FitDeclarators n (map bare_declarator xs)
declarators_fit n [] = tt
declarators_fit n (x ∷ xs) = (initial_fits n x.value, declarators_fit n xs)

start_fits : (n : ℕ) (x : t.ForStart) → FitsStart n (bare_start x)
start_fits n (t.StartEffects effects) = effects_fit n effects
start_fits n (t.StartDeclaration declarators) = declarators_fit n declarators

test_fits : (n : ℕ) (x : Option t.Expression) → FitsTest n (option_map bare_expression x)
test_fits n None = tt
test_fits n (Some x) = expression_fits n x

return_fits : (n : ℕ) (x : t.ReturnValue) → FitsReturn n (bare_return x)
return_fits n t.ReturnNothing = tt
return_fits n (t.ReturnNumber x) = expression_fits n x
return_fits n (t.ReturnStructure value m) = structure_fits n value

no_bit : (n : ℕ) (b : Bool) → FitsDeclaration n b None
no_bit n true = tt
no_bit n false = refl

no_mark : (n : ℕ) (b : Bool) → FitsAbsent n b None
no_mark n true = refl
no_mark n false = tt

mutual
  statement_fits : (n : ℕ) (x : t.Statement) → FitsStatement n (bare_statement x)
  statement_fits n (t.Compound items span) = statements_fit n items
  statement_fits n (t.Label v span) = tt
  statement_fits n (t.Declaration declarators span) =
      (declarators_fit n declarators, no_bit n (initializes (map erase_declarator (map bare_declarator declarators))))
  statement_fits n (t.Null span) = tt
  statement_fits n (t.EffectStatement effect span) = effect_fits n effect
  statement_fits n (t.If x s keyword span) = (expression_fits n x, statement_fits n s)
  statement_fits n (t.IfElse x s u keyword span) = (expression_fits n x, statement_fits n s, statement_fits n u)
  statement_fits n (t.Switch x items keyword span) =
      (expression_fits n x, statements_fit n items, no_mark n (has_default (erase_statements (bare_statements items))))
  statement_fits n (t.For start test step s keyword span) =
      (start_fits n start, test_fits n test, effects_fit n step, statement_fits n s)
  statement_fits n (t.DoWhile s x keyword span) = (statement_fits n s, expression_fits n x)
  statement_fits n (t.Break span) = tt
  statement_fits n (t.Continue span) = tt
  statement_fits n (t.Return value span) = return_fits n value

  statements_fit : (n : ℕ) (x : t.Statements) → FitStatements n (bare_statements x)
  statements_fit n t.no_statements = tt
  statements_fit n (t.statements s rest) = (statement_fits n s, statements_fit n rest)

functions_fit : (xs : List t.Function) → FitFunctions (map bare_function xs)
functions_fit [] = tt
functions_fit (x ∷ xs) = (statements_fit 0 x.body, functions_fit xs)

pub bare_fits : (x : t.Program) → IsSound x → IsWellFormed (bare_tree x)
bare_fits x h = record { sound = subst IsSound (sym (program_back x)) h; probes = functions_fit x.functions }

-- what was copied without its probes is the program again
copied : (parts : Parts) (x : t.Program) → probed.program_of parts ≡ (bare_tree x).program →
    plain.program_of parts ≡ x
copied parts x e = sym (programs_erase parts) ∙ (ap erase e ∙ program_back x)

pub copied_sound : (parts : Parts) (x : t.Program) → IsSound x →
    probed.program_of parts ≡ (bare_tree x).program → IsSound (plain.program_of parts)
copied_sound parts x h e = subst IsSound (sym (copied parts x e)) h

abbrev with_no_bits : p.Program → p.Tree
with_no_bits q = record { program = q; bits = 0 }

abbrev pub IsFit : Parts → Type 0
IsFit parts = IsWellFormed (tree_of (record { program = parts; bits = 0 }))

pub copied_fits : (parts : Parts) (x : t.Program) → IsSound x →
    probed.program_of parts ≡ (bare_tree x).program → IsFit parts
copied_fits parts x h e =
    subst IsWellFormed (ap with_no_bits (sym e)) (bare_fits x h)

-- the parts of a copy
pub copied_parts : (p : Parts) (fs : List Function) (os : List StaticObject) (us : List ObjType) →
    map probed.function_of fs ≡ map bare_function (map plain.function_of p.functions) →
    map plain.static_of os ≡ map plain.static_of p.statics →
    map object_type_of us ≡ map object_type_of p.structures →
    probed.program_of (record { functions = fs; statics = os; structures = us }) ≡ (bare_tree (plain.program_of p)).program
copied_parts p fs os us f o u = λ i. record { functions = f i; statics = o i; structures = u i }
