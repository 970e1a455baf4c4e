-- A typed program at other places: the same nodes, types, numbers and objects, and each span moved.
use Rattle.std.specs.Prelude.{List, map, option_map}
use Rattle.mc_typed.specs.Tree.{Place, Expression, StructureValue, FunctionCall, Argument, Arguments, Effect, Initializer, Initializers, Declarator, ForStart, ReturnValue, Statement, Statements, Function, Program}
use Rattle.mc_typed.specs.Tree as typed
use Rattle.types_faults.specs.declared.fault.Fault.{Fault}
use Rattle.reread_law_texts.specs.alike.Moves.{Move, moved_span}

-- ---- faults, which stand at the start of something

abbrev pub moved_fault : Move → Fault → Fault
moved_fault m f = record { kind = f.kind; at = m.start f.at }

abbrev pub moved_faults : Move → List Fault → List Fault
moved_faults m faults = map (moved_fault m) faults

-- ---- expressions

abbrev mutual
  pub moved_place : Move → Place → Place
  moved_place m (typed.Local slot span) = typed.Local slot (moved_span m span)
  moved_place m (typed.Static slot span) = typed.Static slot (moved_span m span)
  moved_place m (typed.Parameter array stride index span) =
      typed.Parameter array stride (moved_number m index) (moved_span m span)
  moved_place m (typed.Item array n stride index span) =
      typed.Item (moved_place m array) n stride (moved_number m index) (moved_span m span)
  moved_place m (typed.Member structure i offset span) =
      typed.Member (moved_place m structure) i offset (moved_span m span)

  -- what has an integer as its value
  pub moved_number : Move → Expression → Expression
  moved_number m (typed.Constant v a span) = typed.Constant v a (moved_span m span)
  moved_number m (typed.Read place a) = typed.Read (moved_place m place) a
  moved_number m (typed.Unary operator a e span) =
      typed.Unary operator a (moved_number m e) (moved_span m span)
  moved_number m (typed.Convert a written e span) =
      typed.Convert a written (moved_number m e) (moved_span m span)
  moved_number m (typed.Not e span) = typed.Not (moved_number m e) (moved_span m span)
  moved_number m (typed.Binary operator a e f span) =
      typed.Binary operator a (moved_number m e) (moved_number m f) (moved_span m span)
  moved_number m (typed.Logic operator e f span) =
      typed.Logic operator (moved_number m e) (moved_number m f) (moved_span m span)
  moved_number m (typed.Choice e f g a span) =
      typed.Choice (moved_number m e) (moved_number m f) (moved_number m g) a (moved_span m span)
  moved_number m (typed.Call c a) = typed.Call (moved_call m c) a
  moved_number m (typed.Input span) = typed.Input (moved_span m span)

  pub moved_structure : Move → StructureValue → StructureValue
  moved_structure m (typed.Stored place) = typed.Stored (moved_place m place)
  moved_structure m (typed.Returned c) = typed.Returned (moved_call m c)

  pub moved_call : Move → FunctionCall → FunctionCall
  moved_call m (typed.call f given result span) =
      typed.call f (moved_arguments m given) result (moved_span m span)

  pub moved_argument : Move → Argument → Argument
  moved_argument m (typed.NumberArgument e) = typed.NumberArgument (moved_number m e)
  moved_argument m (typed.StructureArgument value slot) =
      typed.StructureArgument (moved_structure m value) slot
  moved_argument m (typed.ArrayArgument place n) = typed.ArrayArgument (moved_place m place) n
  moved_argument m (typed.AgainArgument array span) =
      typed.AgainArgument array (moved_span m span)

  pub moved_arguments : Move → Arguments → Arguments
  moved_arguments m typed.no_arguments = typed.no_arguments
  moved_arguments m (typed.arguments a rest) =
      typed.arguments (moved_argument m a) (moved_arguments m rest)

-- ---- effects and initializers

abbrev pub moved_effect : Move → Effect → Effect
moved_effect m (typed.Assign target a e span) =
    typed.Assign (moved_place m target) a (moved_number m e) (moved_span m span)
moved_effect m (typed.Update target a operator common e span) =
    typed.Update (moved_place m target) a operator common (moved_number m e) (moved_span m span)
moved_effect m (typed.Copy target value n span) =
    typed.Copy (moved_place m target) (moved_structure m value) n (moved_span m span)
moved_effect m (typed.NumberEffect e whole) = typed.NumberEffect (moved_number m e) whole
moved_effect m (typed.StructureEffect value whole) =
    typed.StructureEffect (moved_structure m value) whole
moved_effect m (typed.CallEffect c) = typed.CallEffect (moved_call m c)
moved_effect m (typed.Output e span) = typed.Output (moved_number m e) (moved_span m span)
moved_effect m (typed.ChoiceEffect e a b span) =
    typed.ChoiceEffect (moved_number m e) (moved_effect m a) (moved_effect m b)
    (moved_span m span)
moved_effect m (typed.Discard effect span) =
    typed.Discard (moved_effect m effect) (moved_span m span)

abbrev pub moved_effects : Move → List Effect → List Effect
moved_effects m effects = map (moved_effect m) effects

abbrev mutual
  pub moved_filling : Move → Initializer → Initializer
  moved_filling m (typed.NumberInitializer e) = typed.NumberInitializer (moved_number m e)
  moved_filling m (typed.StructureInitializer value n) =
      typed.StructureInitializer (moved_structure m value) n
  moved_filling m (typed.ListInitializer items n) =
      typed.ListInitializer (moved_fillings m items) n
  moved_filling m (typed.ZeroInitializer e n) = typed.ZeroInitializer (moved_number m e) n

  pub moved_fillings : Move → Initializers → Initializers
  moved_fillings m typed.no_initializers = typed.no_initializers
  moved_fillings m (typed.initializers i rest) =
      typed.initializers (moved_filling m i) (moved_fillings m rest)

-- ---- statements

-- an object that is declared
abbrev pub moved_object : Move → Declarator → Declarator
moved_object m d =
    record { slot = d.slot; cells = d.cells; value = option_map (moved_filling m) d.value }

abbrev pub moved_objects : Move → List Declarator → List Declarator
moved_objects m all = map (moved_object m) all

abbrev pub moved_for_start : Move → ForStart → ForStart
moved_for_start m (typed.StartEffects effects) = typed.StartEffects (moved_effects m effects)
moved_for_start m (typed.StartDeclaration all) = typed.StartDeclaration (moved_objects m all)

abbrev pub moved_return_value : Move → ReturnValue → ReturnValue
moved_return_value m typed.ReturnNothing = typed.ReturnNothing
moved_return_value m (typed.ReturnNumber e) = typed.ReturnNumber (moved_number m e)
moved_return_value m (typed.ReturnStructure value n) =
    typed.ReturnStructure (moved_structure m value) n

abbrev mutual
  pub moved_typed_statement : Move → Statement → Statement
  moved_typed_statement m (typed.Compound items span) =
      typed.Compound (moved_typed_statements m items) (moved_span m span)
  moved_typed_statement m (typed.Label v span) = typed.Label v (moved_span m span)
  moved_typed_statement m (typed.Declaration all span) =
      typed.Declaration (moved_objects m all) (moved_span m span)
  moved_typed_statement m (typed.Null span) = typed.Null (moved_span m span)
  moved_typed_statement m (typed.EffectStatement effect span) =
      typed.EffectStatement (moved_effect m effect) (moved_span m span)
  moved_typed_statement m (typed.If e one keyword span) =
      typed.If (moved_number m e) (moved_typed_statement m one) (moved_span m keyword)
      (moved_span m span)
  moved_typed_statement m (typed.IfElse e one other keyword span) =
      typed.IfElse (moved_number m e) (moved_typed_statement m one)
      (moved_typed_statement m other) (moved_span m keyword) (moved_span m span)
  moved_typed_statement m (typed.Switch e items keyword span) =
      typed.Switch (moved_number m e) (moved_typed_statements m items) (moved_span m keyword)
      (moved_span m span)
  moved_typed_statement m (typed.For start test step one keyword span) =
      typed.For (moved_for_start m start) (option_map (moved_number m) test)
      (moved_effects m step) (moved_typed_statement m one) (moved_span m keyword)
      (moved_span m span)
  moved_typed_statement m (typed.DoWhile one e keyword span) =
      typed.DoWhile (moved_typed_statement m one) (moved_number m e) (moved_span m keyword)
      (moved_span m span)
  moved_typed_statement m (typed.Break span) = typed.Break (moved_span m span)
  moved_typed_statement m (typed.Continue span) = typed.Continue (moved_span m span)
  moved_typed_statement m (typed.Return value span) =
      typed.Return (moved_return_value m value) (moved_span m span)

  pub moved_typed_statements : Move → Statements → Statements
  moved_typed_statements m typed.no_statements = typed.no_statements
  moved_typed_statements m (typed.statements one rest) =
      typed.statements (moved_typed_statement m one) (moved_typed_statements m rest)

-- ---- programs

abbrev pub moved_function : Move → Function → Function
moved_function m f = record f {
  name_span = moved_span m f.name_span;
  body = moved_typed_statements m f.body;
  closing = moved_span m f.closing;
}

abbrev pub moved_functions : Move → List Function → List Function
moved_functions m all = map (moved_function m) all

abbrev pub moved_program : Move → Program → Program
moved_program m p = record p { functions = moved_functions m p.functions }
