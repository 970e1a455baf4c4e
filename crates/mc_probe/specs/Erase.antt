-- A tree without its probes.
use Rattle.std.specs.Prelude.{map, option_map}
use Rattle.mc_typed.specs.Tree as typed
use Rattle.mc_probe.specs.Tree.{Place, Expression, StructureValue, FunctionCall, Argument, Arguments, Effect, Initializer, Initializers, Declarator, ForStart, ReturnValue, Statement, Statements, Function, Program}
use Rattle.mc_probe.specs.Tree as probed

abbrev mutual
  pub erase_place : Place → typed.Place
  erase_place (probed.Local slot span) = typed.Local slot span
  erase_place (probed.Static slot span) = typed.Static slot span
  erase_place (probed.Parameter array stride index span) =
      typed.Parameter array stride (erase_expression index) span
  erase_place (probed.Item array n stride index span) =
      typed.Item (erase_place array) n stride (erase_expression index) span
  erase_place (probed.Member structure i offset span) = typed.Member (erase_place structure) i
      offset span

  pub erase_expression : Expression → typed.Expression
  erase_expression (probed.Constant v a span) = typed.Constant v a span
  erase_expression (probed.Read place a) = typed.Read (erase_place place) a
  erase_expression (probed.Unary operator a e span) = typed.Unary operator a (erase_expression e)
      span
  erase_expression (probed.Convert a written e span) = typed.Convert a written
      (erase_expression e) span
  erase_expression (probed.Not e span) = typed.Not (erase_expression e) span
  erase_expression (probed.Binary operator a e f span) =
      typed.Binary operator a (erase_expression e) (erase_expression f) span
  erase_expression (probed.Logic operator e f span) =
      typed.Logic operator (erase_expression e) (erase_expression f) span
  erase_expression (probed.Choice e f g a span) =
      typed.Choice (erase_expression e) (erase_expression f) (erase_expression g) a span
  erase_expression (probed.Call k a) = typed.Call (erase_call k) a
  erase_expression (probed.Input span) = typed.Input span
  erase_expression (probed.Probe probe e) = erase_expression e

  pub erase_structure : StructureValue → typed.StructureValue
  erase_structure (probed.Stored place) = typed.Stored (erase_place place)
  erase_structure (probed.Returned k) = typed.Returned (erase_call k)

  pub erase_call : FunctionCall → typed.FunctionCall
  erase_call (probed.call f given result span) = typed.call f (erase_arguments given) result span

  pub erase_argument : Argument → typed.Argument
  erase_argument (probed.NumberArgument e) = typed.NumberArgument (erase_expression e)
  erase_argument (probed.StructureArgument value copy) =
      typed.StructureArgument (erase_structure value) copy
  erase_argument (probed.ArrayArgument place n) = typed.ArrayArgument (erase_place place) n
  erase_argument (probed.AgainArgument array span) = typed.AgainArgument array span

  pub erase_arguments : Arguments → typed.Arguments
  erase_arguments probed.no_arguments = typed.no_arguments
  erase_arguments (probed.arguments a rest) = typed.arguments (erase_argument a)
      (erase_arguments rest)

abbrev pub erase_effect : Effect → typed.Effect
erase_effect (probed.Assign target a e span) =
    typed.Assign (erase_place target) a (erase_expression e) span
erase_effect (probed.Update target a operator common e span) =
    typed.Update (erase_place target) a operator common (erase_expression e) span
erase_effect (probed.Copy target value n span) =
    typed.Copy (erase_place target) (erase_structure value) n span
erase_effect (probed.NumberEffect e whole) = typed.NumberEffect (erase_expression e) whole
erase_effect (probed.StructureEffect value whole) = typed.StructureEffect (erase_structure value)
    whole
erase_effect (probed.CallEffect k) = typed.CallEffect (erase_call k)
erase_effect (probed.Output e span) = typed.Output (erase_expression e) span
erase_effect (probed.ChoiceEffect e a b span) =
    typed.ChoiceEffect (erase_expression e) (erase_effect a) (erase_effect b) span
erase_effect (probed.Discard a span) = typed.Discard (erase_effect a) span

abbrev mutual
  pub erase_initializer : Initializer → typed.Initializer
  erase_initializer (probed.NumberInitializer e) = typed.NumberInitializer (erase_expression e)
  erase_initializer (probed.StructureInitializer value n) =
      typed.StructureInitializer (erase_structure value) n
  erase_initializer (probed.ListInitializer items n) = typed.ListInitializer
      (erase_initializers items) n
  erase_initializer (probed.ZeroInitializer e n) = typed.ZeroInitializer (erase_expression e) n

  pub erase_initializers : Initializers → typed.Initializers
  erase_initializers probed.no_initializers = typed.no_initializers
  erase_initializers (probed.initializers i rest) =
      typed.initializers (erase_initializer i) (erase_initializers rest)

abbrev pub erase_declarator : Declarator → typed.Declarator
erase_declarator d =
    record { slot = d.slot; cells = d.cells; value = option_map erase_initializer d.value }

abbrev pub erase_start : ForStart → typed.ForStart
erase_start (probed.StartEffects effects) = typed.StartEffects (map erase_effect effects)
erase_start (probed.StartDeclaration declarators) =
    typed.StartDeclaration (map erase_declarator declarators)

abbrev pub erase_return : ReturnValue → typed.ReturnValue
erase_return probed.ReturnNothing = typed.ReturnNothing
erase_return (probed.ReturnNumber e) = typed.ReturnNumber (erase_expression e)
erase_return (probed.ReturnStructure value n) = typed.ReturnStructure (erase_structure value) n

abbrev mutual
  pub erase_statement : Statement → typed.Statement
  erase_statement (probed.Compound items span) = typed.Compound (erase_statements items) span
  erase_statement (probed.Label v span mark) = typed.Label v span
  erase_statement (probed.Declaration declarators span bit) =
      typed.Declaration (map erase_declarator declarators) span
  erase_statement (probed.Null span bit) = typed.Null span
  erase_statement (probed.EffectStatement effect span bit) = typed.EffectStatement
      (erase_effect effect) span
  erase_statement (probed.If e s keyword span bit) =
      typed.If (erase_expression e) (erase_statement s) keyword span
  erase_statement (probed.IfElse e s u keyword span bit) =
      typed.IfElse (erase_expression e) (erase_statement s) (erase_statement u) keyword span
  erase_statement (probed.Switch e items keyword span bit absent) =
      typed.Switch (erase_expression e) (erase_statements items) keyword span
  erase_statement (probed.For start test step s keyword span bit) =
      typed.For (erase_start start) (option_map erase_expression test) (map erase_effect step)
      (erase_statement s) keyword span
  erase_statement (probed.DoWhile s e keyword span bit) =
      typed.DoWhile (erase_statement s) (erase_expression e) keyword span
  erase_statement (probed.Break span bit) = typed.Break span
  erase_statement (probed.Continue span bit) = typed.Continue span
  erase_statement (probed.Return value span bit exit) = typed.Return (erase_return value) span

  pub erase_statements : Statements → typed.Statements
  erase_statements probed.no_statements = typed.no_statements
  erase_statements (probed.statements s rest) =
      typed.statements (erase_statement s) (erase_statements rest)

abbrev pub erase_function : Function → typed.Function
erase_function f = record {
  name = f.name;
  name_span = f.name_span;
  parameters = f.parameters;
  result = f.result;
  objects = f.objects;
  body = erase_statements f.body;
  closing = f.closing;
}

-- the program under the probes
abbrev pub erase : Program → typed.Program
erase program = record {
  functions = map erase_function program.functions;
  statics = program.statics;
  structures = program.structures;
}
