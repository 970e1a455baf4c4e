-- The objects with automatic storage duration that a function's body names, and the cells of a
-- frame.
use Rattle.std.specs.Prelude.{ℕ, sum, map, List, [], ◌∷◌, ◌++◌, Option, Some, None}
use Rattle.mc_typed.specs.declared.expressions.Slot.{Slot}
use Rattle.mc_typed.specs.Tree.{Place, Expression, StructureValue, FunctionCall, Argument, Arguments, Effect, Initializer, Initializers, Declarator, ForStart, ReturnValue, Statement, Statements, Object, StaticObject, Function, Program}
use Rattle.mc_typed.specs.Tree as typed

-- ---- the objects that a body makes, in the order of the text

-- A declared object stands before its initializer, the copy of a structure argument after that
-- argument, and the structure that a call returns after the arguments of the call.
abbrev pub optional : Option Slot → List Slot
optional None = []
optional (Some s) = s ∷ []

abbrev mutual
  pub slots_place : Place → List Slot
  slots_place (typed.Local slot span) = []
  slots_place (typed.Static slot span) = []
  slots_place (typed.Parameter array stride index span) = slots index
  slots_place (typed.Item array length stride index span) = slots_place array ++ slots index
  slots_place (typed.Member structure i offset span) = slots_place structure

  pub slots : Expression → List Slot
  slots (typed.Constant v a span) = []
  slots (typed.Read place a) = slots_place place
  slots (typed.Unary operator a e span) = slots e
  slots (typed.Convert a written e span) = slots e
  slots (typed.Not e span) = slots e
  slots (typed.Binary operator a e f span) = slots e ++ slots f
  slots (typed.Logic operator e f span) = slots e ++ slots f
  slots (typed.Choice e f g a span) = slots e ++ slots f ++ slots g
  slots (typed.Call k a) = slots_call k
  slots (typed.Input span) = []

  pub slots_structure : StructureValue → List Slot
  slots_structure (typed.Stored place) = slots_place place
  slots_structure (typed.Returned k) = slots_call k

  pub slots_call : FunctionCall → List Slot
  slots_call (typed.call f given result span) = slots_arguments given ++ optional result

  pub slots_argument : Argument → List Slot
  slots_argument (typed.NumberArgument e) = slots e
  slots_argument (typed.StructureArgument value copy) = slots_structure value ++ (copy ∷ [])
  slots_argument (typed.ArrayArgument place length) = slots_place place
  slots_argument (typed.AgainArgument array span) = []

  pub slots_arguments : Arguments → List Slot
  slots_arguments typed.no_arguments = []
  slots_arguments (typed.arguments a rest) = slots_argument a ++ slots_arguments rest

abbrev pub slots_effect : Effect → List Slot
slots_effect (typed.Assign target a e span) = slots_place target ++ slots e
slots_effect (typed.Update target a operator common e span) = slots_place target ++ slots e
slots_effect (typed.Copy target value n span) = slots_place target ++ slots_structure value
slots_effect (typed.NumberEffect e whole) = slots e
slots_effect (typed.StructureEffect value whole) = slots_structure value
slots_effect (typed.CallEffect k) = slots_call k
slots_effect (typed.Output e span) = slots e
slots_effect (typed.ChoiceEffect e a b span) = slots e ++ slots_effect a ++ slots_effect b
slots_effect (typed.Discard a span) = slots_effect a

abbrev pub slots_effects : List Effect → List Slot
slots_effects [] = []
slots_effects (a ∷ rest) = slots_effect a ++ slots_effects rest

abbrev mutual
  pub slots_initializer : Initializer → List Slot
  slots_initializer (typed.NumberInitializer e) = slots e
  slots_initializer (typed.StructureInitializer value n) = slots_structure value
  slots_initializer (typed.ListInitializer items n) = slots_initializers items
  slots_initializer (typed.ZeroInitializer e n) = slots e

  pub slots_initializers : Initializers → List Slot
  slots_initializers typed.no_initializers = []
  slots_initializers (typed.initializers i rest) = slots_initializer i ++ slots_initializers rest

abbrev pub slots_value : Option Initializer → List Slot
slots_value None = []
slots_value (Some i) = slots_initializer i

abbrev pub slots_declarators : List Declarator → List Slot
slots_declarators [] = []
slots_declarators (d ∷ rest) = d.slot ∷ slots_value d.value ++ slots_declarators rest

abbrev pub slots_optional : Option Expression → List Slot
slots_optional None = []
slots_optional (Some e) = slots e

abbrev pub slots_start : ForStart → List Slot
slots_start (typed.StartEffects effects) = slots_effects effects
slots_start (typed.StartDeclaration declarators) = slots_declarators declarators

abbrev pub slots_return : ReturnValue → List Slot
slots_return typed.ReturnNothing = []
slots_return (typed.ReturnNumber e) = slots e
slots_return (typed.ReturnStructure value n) = slots_structure value

abbrev mutual
  pub slots_statement : Statement → List Slot
  slots_statement (typed.Compound items span) = slots_statements items
  slots_statement (typed.Label value span) = []
  slots_statement (typed.Declaration declarators span) = slots_declarators declarators
  slots_statement (typed.Null span) = []
  slots_statement (typed.EffectStatement effect span) = slots_effect effect
  slots_statement (typed.If e s keyword span) = slots e ++ slots_statement s
  slots_statement (typed.IfElse e s u keyword span) = slots e ++ slots_statement s
      ++ slots_statement u
  slots_statement (typed.Switch e items keyword span) = slots e ++ slots_statements items
  slots_statement (typed.For start test step s keyword span) =
      slots_start start ++ slots_optional test ++ slots_effects step ++ slots_statement s
  slots_statement (typed.DoWhile s e keyword span) = slots_statement s ++ slots e
  slots_statement (typed.Break span) = []
  slots_statement (typed.Continue span) = []
  slots_statement (typed.Return value span) = slots_return value

  pub slots_statements : Statements → List Slot
  slots_statements typed.no_statements = []
  slots_statements (typed.statements s rest) = slots_statement s ++ slots_statements rest

-- ---- cells

-- the cells of a frame: those of the parameters that are no arrays, of the locals, and, for each
-- call in the body, of the structure that it returns and of each structure among its arguments
abbrev pub frame_of : Function → ℕ
frame_of f = sum (map (λ o. o.cells) f.objects)

-- the cells of all objects with static storage duration
abbrev pub static_cells : Program → ℕ
static_cells p = sum (map (λ s. s.object.cells) p.statics)
