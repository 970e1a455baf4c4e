-- A tree without probes erases to its program.
use Rattle.std.proofs.Common.{◌≡◌, List, [], ◌∷◌, map, option_map, Option, Some, None, refl}
use Rattle.mc_typed.specs.Tree as t
use Rattle.mc_probe.specs.Erase.{erase_place, erase_expression, erase_structure, erase_call, erase_argument, erase_arguments, erase_effect, erase_initializer, erase_initializers, erase_declarator, erase_start, erase_return, erase_statement, erase_statements, erase_function, erase}
use Rattle.mc_probe.specs.Bare.{bare_place, bare_expression, bare_structure, bare_call, bare_argument, bare_arguments, bare_effect, bare_initializer, bare_initializers, bare_declarator, bare_start, bare_return, bare_statement, bare_statements, bare_function, bare_tree}

mutual
  pub place_back : (x : t.Place) → erase_place (bare_place x) ≡ x
  place_back (t.Local slot span) = refl
  place_back (t.Static slot span) = refl
  place_back (t.Parameter array stride index span) = λ i. t.Parameter array stride (expression_back index i) span
  place_back (t.Item array n stride index span) = λ i. t.Item (place_back array i) n stride (expression_back index i) span
  place_back (t.Member structure k offset span) = λ i. t.Member (place_back structure i) k offset span

  pub expression_back : (x : t.Expression) → erase_expression (bare_expression x) ≡ x
  expression_back (t.Constant v a span) = refl
  expression_back (t.Read place a) = λ i. t.Read (place_back place i) a
  expression_back (t.Unary operator a e span) = λ i. t.Unary operator a (expression_back e i) span
  expression_back (t.Convert a written e span) = λ i. t.Convert a written (expression_back e i) span
  expression_back (t.Not e span) = λ i. t.Not (expression_back e i) span
  expression_back (t.Binary operator a e f span) = λ i. t.Binary operator a (expression_back e i) (expression_back f i) span
  expression_back (t.Logic operator e f span) = λ i. t.Logic operator (expression_back e i) (expression_back f i) span
  expression_back (t.Choice e f g a span) = λ i. t.Choice (expression_back e i) (expression_back f i) (expression_back g i) a span
  expression_back (t.Call k a) = λ i. t.Call (call_back k i) a
  expression_back (t.Input span) = refl

  pub structure_back : (x : t.StructureValue) → erase_structure (bare_structure x) ≡ x
  structure_back (t.Stored place) = λ i. t.Stored (place_back place i)
  structure_back (t.Returned k) = λ i. t.Returned (call_back k i)

  pub call_back : (x : t.FunctionCall) → erase_call (bare_call x) ≡ x
  call_back (t.call f given result span) = λ i. t.call f (arguments_back given i) result span

  pub argument_back : (x : t.Argument) → erase_argument (bare_argument x) ≡ x
  argument_back (t.NumberArgument e) = λ i. t.NumberArgument (expression_back e i)
  argument_back (t.StructureArgument value copy) = λ i. t.StructureArgument (structure_back value i) copy
  argument_back (t.ArrayArgument place n) = λ i. t.ArrayArgument (place_back place i) n
  argument_back (t.AgainArgument array span) = refl

  pub arguments_back : (x : t.Arguments) → erase_arguments (bare_arguments x) ≡ x
  arguments_back t.no_arguments = refl
  arguments_back (t.arguments a rest) = λ i. t.arguments (argument_back a i) (arguments_back rest i)

pub effect_back : (x : t.Effect) → erase_effect (bare_effect x) ≡ x
effect_back (t.Assign target a e span) = λ i. t.Assign (place_back target i) a (expression_back e i) span
effect_back (t.Update target a operator common e span) = λ i. t.Update (place_back target i) a operator common (expression_back e i) span
effect_back (t.Copy target value n span) = λ i. t.Copy (place_back target i) (structure_back value i) n span
effect_back (t.NumberEffect e whole) = λ i. t.NumberEffect (expression_back e i) whole
effect_back (t.StructureEffect value whole) = λ i. t.StructureEffect (structure_back value i) whole
effect_back (t.CallEffect k) = λ i. t.CallEffect (call_back k i)
effect_back (t.Output e span) = λ i. t.Output (expression_back e i) span
effect_back (t.ChoiceEffect e a b span) = λ i. t.ChoiceEffect (expression_back e i) (effect_back a i) (effect_back b i) span
effect_back (t.Discard a span) = λ i. t.Discard (effect_back a i) span

effects_back : (xs : List t.Effect) → map erase_effect (map bare_effect xs) ≡ xs
effects_back [] = refl
effects_back (x ∷ xs) = λ i. effect_back x i ∷ effects_back xs i

mutual
  pub initializer_back : (x : t.Initializer) → erase_initializer (bare_initializer x) ≡ x
  initializer_back (t.NumberInitializer e) = λ i. t.NumberInitializer (expression_back e i)
  initializer_back (t.StructureInitializer value n) = λ i. t.StructureInitializer (structure_back value i) n
  initializer_back (t.ListInitializer items n) = λ i. t.ListInitializer (initializers_back items i) n
  initializer_back (t.ZeroInitializer e n) = λ i. t.ZeroInitializer (expression_back e i) n

  pub initializers_back : (x : t.Initializers) → erase_initializers (bare_initializers x) ≡ x
  initializers_back t.no_initializers = refl
  initializers_back (t.initializers x rest) = λ i. t.initializers (initializer_back x i) (initializers_back rest i)

initial_back : (x : Option t.Initializer) → option_map erase_initializer (option_map bare_initializer x) ≡ x
initial_back None = refl
initial_back (Some x) = λ i. Some (initializer_back x i)

test_back : (x : Option t.Expression) → option_map erase_expression (option_map bare_expression x) ≡ x
test_back None = refl
test_back (Some x) = λ i. Some (expression_back x i)

declarators_back : (xs : List t.Declarator) → map erase_declarator (map bare_declarator xs) ≡ xs
declarators_back [] = refl
declarators_back (x ∷ xs) =
    λ i. record { slot = x.slot; cells = x.cells; value = initial_back x.value i } ∷ declarators_back xs i

start_back : (x : t.ForStart) → erase_start (bare_start x) ≡ x
start_back (t.StartEffects effects) = λ i. t.StartEffects (effects_back effects i)
start_back (t.StartDeclaration declarators) = λ i. t.StartDeclaration (declarators_back declarators i)

return_back : (x : t.ReturnValue) → erase_return (bare_return x) ≡ x
return_back t.ReturnNothing = refl
return_back (t.ReturnNumber e) = λ i. t.ReturnNumber (expression_back e i)
return_back (t.ReturnStructure value n) = λ i. t.ReturnStructure (structure_back value i) n

mutual
  pub statement_back : (x : t.Statement) → erase_statement (bare_statement x) ≡ x
  statement_back (t.Compound items span) = λ i. t.Compound (statements_back items i) span
  statement_back (t.Label v span) = refl
  statement_back (t.Declaration declarators span) = λ i. t.Declaration (declarators_back declarators i) span
  statement_back (t.Null span) = refl
  statement_back (t.EffectStatement effect span) = λ i. t.EffectStatement (effect_back effect i) span
  statement_back (t.If e s keyword span) = λ i. t.If (expression_back e i) (statement_back s i) keyword span
  statement_back (t.IfElse e s u keyword span) = λ i. t.IfElse (expression_back e i) (statement_back s i) (statement_back u i) keyword span
  statement_back (t.Switch e items keyword span) = λ i. t.Switch (expression_back e i) (statements_back items i) keyword span
  statement_back (t.For start test step s keyword span) = λ i. t.For (start_back start i) (test_back test i) (effects_back step i) (statement_back s i) keyword span
  statement_back (t.DoWhile s e keyword span) = λ i. t.DoWhile (statement_back s i) (expression_back e i) keyword span
  statement_back (t.Break span) = refl
  statement_back (t.Continue span) = refl
  statement_back (t.Return value span) = λ i. t.Return (return_back value i) span

  pub statements_back : (x : t.Statements) → erase_statements (bare_statements x) ≡ x
  statements_back t.no_statements = refl
  statements_back (t.statements s rest) = λ i. t.statements (statement_back s i) (statements_back rest i)

functions_back : (xs : List t.Function) → map erase_function (map bare_function xs) ≡ xs
functions_back [] = refl
functions_back (x ∷ xs) = λ i. record {
  name = x.name;
  name_span = x.name_span;
  parameters = x.parameters;
  result = x.result;
  objects = x.objects;
  body = statements_back x.body i;
  closing = x.closing;
} ∷ functions_back xs i

pub program_back : (x : t.Program) → erase (bare_tree x).program ≡ x
program_back x = λ i. record {
  functions = functions_back x.functions i;
  statics = x.statics;
  structures = x.structures;
}
