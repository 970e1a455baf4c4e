-- A program where it stands no place: it is the same from wherever it is taken there.
use Rattle.std.proofs.Common.{◌≡◌, ℕ, true, false, List, [], ◌∷◌, map, Option, Some, None, option_map, refl, sym, ap, ap₂, ◌∙◌}
use Rattle.mc_typed.specs.Tree as t
use Rattle.reread_law_texts.specs.alike.Moves.{Move}
use Rattle.reread_law_places.specs.natural.Moved.{moved_place, moved_number, moved_structure, moved_call, moved_argument, moved_arguments, moved_effect, moved_effects, moved_filling, moved_fillings, moved_object, moved_objects, moved_for_start, moved_return_value, moved_typed_statement, moved_typed_statements, moved_function, moved_functions, moved_program}
use Rattle.reread_law_places.specs.natural.Settled.{nowhere, settled_operand, settled_effect, settled_effects, settled_for_start, settled_statement, settled_statements, settled_function, settled_functions, settled}
use Rattle.reread_law_places.proofs.Still.Put.{still}

-- ---- after a move

mutual
  place_twice : (m : Move) (x : t.Place) → moved_place still (moved_place m x) ≡ moved_place still x
  place_twice m (t.Local slot span) = refl
  place_twice m (t.Static slot span) = refl
  place_twice m (t.Parameter array stride index span) = ap (λ i. t.Parameter array stride i nowhere) (number_twice m index)
  place_twice m (t.Item array k stride index span) =
      ap₂ (λ a i. t.Item a k stride i nowhere) (place_twice m array) (number_twice m index)
  place_twice m (t.Member structure i offset span) = ap (λ a. t.Member a i offset nowhere) (place_twice m structure)

  number_twice : (m : Move) (e : t.Expression) → moved_number still (moved_number m e) ≡ moved_number still e
  number_twice m (t.Constant v a span) = refl
  number_twice m (t.Read place a) = ap (λ x. t.Read x a) (place_twice m place)
  number_twice m (t.Unary operator a e span) = ap (λ x. t.Unary operator a x nowhere) (number_twice m e)
  number_twice m (t.Convert a written e span) = ap (λ x. t.Convert a written x nowhere) (number_twice m e)
  number_twice m (t.Not e span) = ap (λ x. t.Not x nowhere) (number_twice m e)
  number_twice m (t.Binary operator a e f span) = ap₂ (λ x y. t.Binary operator a x y nowhere) (number_twice m e) (number_twice m f)
  number_twice m (t.Logic operator e f span) = ap₂ (λ x y. t.Logic operator x y nowhere) (number_twice m e) (number_twice m f)
  number_twice m (t.Choice e f g a span) =
      ap₂ (λ x y. t.Choice x y (moved_number still (moved_number m g)) a nowhere) (number_twice m e) (number_twice m f)
      ∙ ap (λ z. t.Choice (moved_number still e) (moved_number still f) z a nowhere) (number_twice m g)
  number_twice m (t.Call k a) = ap (λ x. t.Call x a) (call_twice m k)
  number_twice m (t.Input span) = refl

  structure_twice : (m : Move) (x : t.StructureValue) → moved_structure still (moved_structure m x) ≡ moved_structure still x
  structure_twice m (t.Stored place) = ap t.Stored (place_twice m place)
  structure_twice m (t.Returned k) = ap t.Returned (call_twice m k)

  call_twice : (m : Move) (k : t.FunctionCall) → moved_call still (moved_call m k) ≡ moved_call still k
  call_twice m (t.call f given result span) = ap (λ x. t.call f x result nowhere) (arguments_twice m given)

  argument_twice : (m : Move) (a : t.Argument) → moved_argument still (moved_argument m a) ≡ moved_argument still a
  argument_twice m (t.NumberArgument e) = ap t.NumberArgument (number_twice m e)
  argument_twice m (t.StructureArgument value slot) = ap (λ x. t.StructureArgument x slot) (structure_twice m value)
  argument_twice m (t.ArrayArgument place k) = ap (λ x. t.ArrayArgument x k) (place_twice m place)
  argument_twice m (t.AgainArgument array span) = refl

  arguments_twice : (m : Move) (all : t.Arguments) → moved_arguments still (moved_arguments m all) ≡ moved_arguments still all
  arguments_twice m t.no_arguments = refl
  arguments_twice m (t.arguments a rest) = ap₂ (λ x y. t.arguments x y) (argument_twice m a) (arguments_twice m rest)

effect_twice : (m : Move) (a : t.Effect) → moved_effect still (moved_effect m a) ≡ moved_effect still a
effect_twice m (t.Assign target a e span) = ap₂ (λ x y. t.Assign x a y nowhere) (place_twice m target) (number_twice m e)
effect_twice m (t.Update target a operator common e span) =
    ap₂ (λ x y. t.Update x a operator common y nowhere) (place_twice m target) (number_twice m e)
effect_twice m (t.Copy target value k span) = ap₂ (λ x y. t.Copy x y k nowhere) (place_twice m target) (structure_twice m value)
effect_twice m (t.NumberEffect e whole) = ap (λ x. t.NumberEffect x whole) (number_twice m e)
effect_twice m (t.StructureEffect value whole) = ap (λ x. t.StructureEffect x whole) (structure_twice m value)
effect_twice m (t.CallEffect k) = ap t.CallEffect (call_twice m k)
effect_twice m (t.Output e span) = ap (λ x. t.Output x nowhere) (number_twice m e)
effect_twice m (t.ChoiceEffect e a b span) =
    ap₂ (λ x y. t.ChoiceEffect x y (moved_effect still (moved_effect m b)) nowhere) (number_twice m e) (effect_twice m a)
    ∙ ap (λ z. t.ChoiceEffect (moved_number still e) (moved_effect still a) z nowhere) (effect_twice m b)
effect_twice m (t.Discard a span) = ap (λ x. t.Discard x nowhere) (effect_twice m a)

each_twice : {A : Type 0} (f g h : A → A) → ((a : A) → f (g a) ≡ h a) → (all : List A) → map f (map g all) ≡ map h all
each_twice f g h same [] = refl
each_twice f g h same (a ∷ all) = ap₂ (λ x y. x ∷ y) (same a) (each_twice f g h same all)

option_twice : {A : Type 0} (f g h : A → A) → ((a : A) → f (g a) ≡ h a) → (o : Option A) → option_map f (option_map g o) ≡ option_map h o
option_twice f g h same None = refl
option_twice f g h same (Some a) = ap Some (same a)

effects_twice : (m : Move) (all : List t.Effect) → moved_effects still (moved_effects m all) ≡ moved_effects still all
effects_twice m = each_twice (moved_effect still) (moved_effect m) (moved_effect still) (effect_twice m)

mutual
  filling_twice : (m : Move) (i : t.Initializer) → moved_filling still (moved_filling m i) ≡ moved_filling still i
  filling_twice m (t.NumberInitializer e) = ap t.NumberInitializer (number_twice m e)
  filling_twice m (t.StructureInitializer value k) = ap (λ x. t.StructureInitializer x k) (structure_twice m value)
  filling_twice m (t.ListInitializer items k) = ap (λ x. t.ListInitializer x k) (fillings_twice m items)
  filling_twice m (t.ZeroInitializer e k) = ap (λ x. t.ZeroInitializer x k) (number_twice m e)

  fillings_twice : (m : Move) (all : t.Initializers) → moved_fillings still (moved_fillings m all) ≡ moved_fillings still all
  fillings_twice m t.no_initializers = refl
  fillings_twice m (t.initializers i rest) = ap₂ (λ x y. t.initializers x y) (filling_twice m i) (fillings_twice m rest)

object_twice : (m : Move) (d : t.Declarator) → moved_object still (moved_object m d) ≡ moved_object still d
object_twice m d =
    ap (λ (v : Option t.Initializer). record { slot = d.slot; cells = d.cells; value = v })
    (option_twice (moved_filling still) (moved_filling m) (moved_filling still) (filling_twice m) d.value)

objects_twice : (m : Move) (all : List t.Declarator) → moved_objects still (moved_objects m all) ≡ moved_objects still all
objects_twice m = each_twice (moved_object still) (moved_object m) (moved_object still) (object_twice m)

start_twice : (m : Move) (s : t.ForStart) → moved_for_start still (moved_for_start m s) ≡ moved_for_start still s
start_twice m (t.StartEffects effects) = ap t.StartEffects (effects_twice m effects)
start_twice m (t.StartDeclaration all) = ap t.StartDeclaration (objects_twice m all)

return_twice : (m : Move) (v : t.ReturnValue) → moved_return_value still (moved_return_value m v) ≡ moved_return_value still v
return_twice m t.ReturnNothing = refl
return_twice m (t.ReturnNumber e) = ap t.ReturnNumber (number_twice m e)
return_twice m (t.ReturnStructure value k) = ap (λ x. t.ReturnStructure x k) (structure_twice m value)

mutual
  statement_twice : (m : Move) (s : t.Statement) → moved_typed_statement still (moved_typed_statement m s) ≡ moved_typed_statement still s
  statement_twice m (t.Compound items span) = ap (λ x. t.Compound x nowhere) (statements_twice m items)
  statement_twice m (t.Label v span) = refl
  statement_twice m (t.Declaration all span) = ap (λ x. t.Declaration x nowhere) (objects_twice m all)
  statement_twice m (t.Null span) = refl
  statement_twice m (t.EffectStatement effect span) = ap (λ x. t.EffectStatement x nowhere) (effect_twice m effect)
  statement_twice m (t.If e s keyword span) =
      ap₂ (λ x y. t.If x y nowhere nowhere) (number_twice m e) (statement_twice m s)
  statement_twice m (t.IfElse e s u keyword span) =
      ap₂ (λ x y. t.IfElse x y (moved_typed_statement still (moved_typed_statement m u)) nowhere nowhere) (number_twice m e) (statement_twice m s)
      ∙ ap (λ z. t.IfElse (moved_number still e) (moved_typed_statement still s) z nowhere nowhere) (statement_twice m u)
  statement_twice m (t.Switch e items keyword span) =
      ap₂ (λ x y. t.Switch x y nowhere nowhere) (number_twice m e) (statements_twice m items)
  statement_twice m (t.For start test step s keyword span) =
      ap₂ (λ x y. t.For x y (moved_effects still (moved_effects m step)) (moved_typed_statement still (moved_typed_statement m s)) nowhere nowhere)
      (start_twice m start) (option_twice (moved_number still) (moved_number m) (moved_number still) (number_twice m) test)
      ∙ ap₂ (λ x y. t.For (moved_for_start still start) (option_map (moved_number still) test) x y nowhere nowhere) (effects_twice m step) (statement_twice m s)
  statement_twice m (t.DoWhile s e keyword span) =
      ap₂ (λ x y. t.DoWhile x y nowhere nowhere) (statement_twice m s) (number_twice m e)
  statement_twice m (t.Break span) = refl
  statement_twice m (t.Continue span) = refl
  statement_twice m (t.Return value span) = ap (λ x. t.Return x nowhere) (return_twice m value)

  statements_twice : (m : Move) (all : t.Statements) → moved_typed_statements still (moved_typed_statements m all) ≡ moved_typed_statements still all
  statements_twice m t.no_statements = refl
  statements_twice m (t.statements s rest) = ap₂ (λ x y. t.statements x y) (statement_twice m s) (statements_twice m rest)

function_twice : (m : Move) (f : t.Function) → moved_function still (moved_function m f) ≡ moved_function still f
function_twice m f = ap (λ (b : t.Statements). record f { name_span = nowhere; body = b; closing = nowhere }) (statements_twice m f.body)

functions_twice : (m : Move) (fs : List t.Function) → moved_functions still (moved_functions m fs) ≡ moved_functions still fs
functions_twice m = each_twice (moved_function still) (moved_function m) (moved_function still) (function_twice m)

-- ---- without the places that are cut out of others

pub operand_settled : (e : t.Expression) → moved_number still (settled_operand e) ≡ moved_number still e
operand_settled (t.Constant v a span) = refl
operand_settled (t.Read place a) = refl
operand_settled (t.Unary operator a e span) = refl
operand_settled (t.Convert a true e span) = refl
operand_settled (t.Convert a false (t.Constant v b at) span) = refl
operand_settled (t.Convert a false (t.Read place b) span) = refl
operand_settled (t.Convert a false (t.Unary operator b e at) span) = refl
operand_settled (t.Convert a false (t.Convert b written e at) span) = refl
operand_settled (t.Convert a false (t.Not e at) span) = refl
operand_settled (t.Convert a false (t.Binary operator b e f at) span) = refl
operand_settled (t.Convert a false (t.Logic operator e f at) span) = refl
operand_settled (t.Convert a false (t.Choice e f g b at) span) = refl
operand_settled (t.Convert a false (t.Call k b) span) = refl
operand_settled (t.Convert a false (t.Input at) span) = refl
operand_settled (t.Not e span) = refl
operand_settled (t.Binary operator a e f span) = refl
operand_settled (t.Logic operator e f span) = refl
operand_settled (t.Choice e f g a span) = refl
operand_settled (t.Call k a) = refl
operand_settled (t.Input span) = refl

pub effect_settled : (a : t.Effect) → moved_effect still (settled_effect a) ≡ moved_effect still a
effect_settled (t.Assign target a e span) = refl
effect_settled (t.Update target a operator common e span) =
    ap (λ x. t.Update (moved_place still target) a operator common x nowhere) (operand_settled e)
effect_settled (t.Copy target value k span) = refl
effect_settled (t.NumberEffect e whole) = refl
effect_settled (t.StructureEffect value whole) = refl
effect_settled (t.CallEffect k) = refl
effect_settled (t.Output e span) = refl
effect_settled (t.ChoiceEffect e a b span) =
    ap₂ (λ x y. t.ChoiceEffect (moved_number still e) x y nowhere) (effect_settled a) (effect_settled b)
effect_settled (t.Discard a span) = ap (λ x. t.Discard x nowhere) (effect_settled a)

pub effects_settled : (all : List t.Effect) → moved_effects still (settled_effects all) ≡ moved_effects still all
effects_settled = each_twice (moved_effect still) settled_effect (moved_effect still) effect_settled

pub start_settled : (s : t.ForStart) → moved_for_start still (settled_for_start s) ≡ moved_for_start still s
start_settled (t.StartEffects effects) = ap t.StartEffects (effects_settled effects)
start_settled (t.StartDeclaration all) = refl

mutual
  pub statement_settled : (s : t.Statement) → moved_typed_statement still (settled_statement s) ≡ moved_typed_statement still s
  statement_settled (t.Compound items span) = ap (λ x. t.Compound x nowhere) (statements_settled items)
  statement_settled (t.Label v span) = refl
  statement_settled (t.Declaration all span) = refl
  statement_settled (t.Null span) = refl
  statement_settled (t.EffectStatement effect span) = ap (λ x. t.EffectStatement x nowhere) (effect_settled effect)
  statement_settled (t.If e s keyword span) = ap (λ y. t.If (moved_number still e) y nowhere nowhere) (statement_settled s)
  statement_settled (t.IfElse e s u keyword span) =
      ap₂ (λ x y. t.IfElse (moved_number still e) x y nowhere nowhere) (statement_settled s) (statement_settled u)
  statement_settled (t.Switch e items keyword span) = ap (λ y. t.Switch (moved_number still e) y nowhere nowhere) (statements_settled items)
  statement_settled (t.For start test step s keyword span) =
      ap (λ x. t.For x (option_map (moved_number still) test) (moved_effects still (settled_effects step)) (moved_typed_statement still (settled_statement s)) nowhere nowhere)
      (start_settled start)
      ∙ ap₂ (λ x y. t.For (moved_for_start still start) (option_map (moved_number still) test) x y nowhere nowhere) (effects_settled step) (statement_settled s)
  statement_settled (t.DoWhile s e keyword span) = ap (λ x. t.DoWhile x (moved_number still e) nowhere nowhere) (statement_settled s)
  statement_settled (t.Break span) = refl
  statement_settled (t.Continue span) = refl
  statement_settled (t.Return value span) = refl

  pub statements_settled : (all : t.Statements) → moved_typed_statements still (settled_statements all) ≡ moved_typed_statements still all
  statements_settled t.no_statements = refl
  statements_settled (t.statements s rest) = ap₂ (λ x y. t.statements x y) (statement_settled s) (statements_settled rest)

pub function_settled : (f : t.Function) → moved_function still (settled_function f) ≡ moved_function still f
function_settled f = ap (λ (b : t.Statements). record f { name_span = nowhere; body = b; closing = nowhere }) (statements_settled f.body)

pub functions_settled : (fs : List t.Function) → moved_functions still (settled_functions fs) ≡ moved_functions still fs
functions_settled = each_twice (moved_function still) settled_function (moved_function still) function_settled

-- ---- two programs

-- where one is the other, moved
pub functions_still : (m : Move) (p q : t.Program) → settled q ≡ settled (moved_program m p) →
    moved_functions still q.functions ≡ moved_functions still p.functions
functions_still m p q e =
    sym (functions_settled q.functions)
    ∙ ap (λ (x : t.Program). moved_functions still x.functions) e
    ∙ functions_settled (moved_functions m p.functions)
    ∙ functions_twice m p.functions
