-- The tree of a program without probes and registers.
use Rattle.std.specs.Prelude.{map, None, option_map}
use Rattle.mc_typed.specs.Tree as typed
use Rattle.mc_probe.specs.Tree.{Place, Expression, StructureValue, FunctionCall, Argument, Arguments, Effect, Initializer, Initializers, Declarator, ForStart, ReturnValue, Statement, Statements, Function, Tree}
use Rattle.mc_probe.specs.Tree as probed

abbrev mutual
  pub bare_place : typed.Place → Place
  bare_place (typed.Local slot span) = probed.Local slot span
  bare_place (typed.Static slot span) = probed.Static slot span
  bare_place (typed.Parameter array stride index span) =
      probed.Parameter array stride (bare_expression index) span
  bare_place (typed.Item array n stride index span) =
      probed.Item (bare_place array) n stride (bare_expression index) span
  bare_place (typed.Member structure i offset span) = probed.Member (bare_place structure) i
      offset span

  pub bare_expression : typed.Expression → Expression
  bare_expression (typed.Constant v a span) = probed.Constant v a span
  bare_expression (typed.Read place a) = probed.Read (bare_place place) a
  bare_expression (typed.Unary operator a e span) = probed.Unary operator a (bare_expression e) span
  bare_expression (typed.Convert a written e span) = probed.Convert a written (bare_expression e)
      span
  bare_expression (typed.Not e span) = probed.Not (bare_expression e) span
  bare_expression (typed.Binary operator a e f span) =
      probed.Binary operator a (bare_expression e) (bare_expression f) span
  bare_expression (typed.Logic operator e f span) =
      probed.Logic operator (bare_expression e) (bare_expression f) span
  bare_expression (typed.Choice e f g a span) =
      probed.Choice (bare_expression e) (bare_expression f) (bare_expression g) a span
  bare_expression (typed.Call k a) = probed.Call (bare_call k) a
  bare_expression (typed.Input span) = probed.Input span

  pub bare_structure : typed.StructureValue → StructureValue
  bare_structure (typed.Stored place) = probed.Stored (bare_place place)
  bare_structure (typed.Returned k) = probed.Returned (bare_call k)

  pub bare_call : typed.FunctionCall → FunctionCall
  bare_call (typed.call f given result span) = probed.call f (bare_arguments given) result span

  pub bare_argument : typed.Argument → Argument
  bare_argument (typed.NumberArgument e) = probed.NumberArgument (bare_expression e)
  bare_argument (typed.StructureArgument value copy) =
      probed.StructureArgument (bare_structure value) copy
  bare_argument (typed.ArrayArgument place n) = probed.ArrayArgument (bare_place place) n
  bare_argument (typed.AgainArgument array span) = probed.AgainArgument array span

  pub bare_arguments : typed.Arguments → Arguments
  bare_arguments typed.no_arguments = probed.no_arguments
  bare_arguments (typed.arguments a rest) = probed.arguments (bare_argument a) (bare_arguments rest)

abbrev pub bare_effect : typed.Effect → Effect
bare_effect (typed.Assign target a e span) =
    probed.Assign (bare_place target) a (bare_expression e) span
bare_effect (typed.Update target a operator common e span) =
    probed.Update (bare_place target) a operator common (bare_expression e) span
bare_effect (typed.Copy target value n span) =
    probed.Copy (bare_place target) (bare_structure value) n span
bare_effect (typed.NumberEffect e whole) = probed.NumberEffect (bare_expression e) whole
bare_effect (typed.StructureEffect value whole) = probed.StructureEffect (bare_structure value)
    whole
bare_effect (typed.CallEffect k) = probed.CallEffect (bare_call k)
bare_effect (typed.Output e span) = probed.Output (bare_expression e) span
bare_effect (typed.ChoiceEffect e a b span) =
    probed.ChoiceEffect (bare_expression e) (bare_effect a) (bare_effect b) span
bare_effect (typed.Discard a span) = probed.Discard (bare_effect a) span

abbrev mutual
  pub bare_initializer : typed.Initializer → Initializer
  bare_initializer (typed.NumberInitializer e) = probed.NumberInitializer (bare_expression e)
  bare_initializer (typed.StructureInitializer value n) =
      probed.StructureInitializer (bare_structure value) n
  bare_initializer (typed.ListInitializer items n) = probed.ListInitializer
      (bare_initializers items) n
  bare_initializer (typed.ZeroInitializer e n) = probed.ZeroInitializer (bare_expression e) n

  pub bare_initializers : typed.Initializers → Initializers
  bare_initializers typed.no_initializers = probed.no_initializers
  bare_initializers (typed.initializers i rest) =
      probed.initializers (bare_initializer i) (bare_initializers rest)

abbrev pub bare_declarator : typed.Declarator → Declarator
bare_declarator d =
    record { slot = d.slot; cells = d.cells; value = option_map bare_initializer d.value }

abbrev pub bare_start : typed.ForStart → ForStart
bare_start (typed.StartEffects effects) = probed.StartEffects (map bare_effect effects)
bare_start (typed.StartDeclaration declarators) =
    probed.StartDeclaration (map bare_declarator declarators)

abbrev pub bare_return : typed.ReturnValue → ReturnValue
bare_return typed.ReturnNothing = probed.ReturnNothing
bare_return (typed.ReturnNumber e) = probed.ReturnNumber (bare_expression e)
bare_return (typed.ReturnStructure value n) = probed.ReturnStructure (bare_structure value) n

abbrev mutual
  pub bare_statement : typed.Statement → Statement
  bare_statement (typed.Compound items span) = probed.Compound (bare_statements items) span
  bare_statement (typed.Label v span) = probed.Label v span None
  bare_statement (typed.Declaration declarators span) =
      probed.Declaration (map bare_declarator declarators) span None
  bare_statement (typed.Null span) = probed.Null span None
  bare_statement (typed.EffectStatement effect span) =
      probed.EffectStatement (bare_effect effect) span None
  bare_statement (typed.If e s keyword span) =
      probed.If (bare_expression e) (bare_statement s) keyword span None
  bare_statement (typed.IfElse e s u keyword span) =
      probed.IfElse (bare_expression e) (bare_statement s) (bare_statement u) keyword span None
  bare_statement (typed.Switch e items keyword span) =
      probed.Switch (bare_expression e) (bare_statements items) keyword span None None
  bare_statement (typed.For start test step s keyword span) =
      probed.For (bare_start start) (option_map bare_expression test) (map bare_effect step)
      (bare_statement s) keyword span None
  bare_statement (typed.DoWhile s e keyword span) =
      probed.DoWhile (bare_statement s) (bare_expression e) keyword span None
  bare_statement (typed.Break span) = probed.Break span None
  bare_statement (typed.Continue span) = probed.Continue span None
  bare_statement (typed.Return value span) = probed.Return (bare_return value) span None None

  pub bare_statements : typed.Statements → Statements
  bare_statements typed.no_statements = probed.no_statements
  bare_statements (typed.statements s rest) =
      probed.statements (bare_statement s) (bare_statements rest)

abbrev pub bare_function : typed.Function → Function
bare_function f = record {
  name = f.name;
  name_span = f.name_span;
  parameters = f.parameters;
  result = f.result;
  objects = f.objects;
  body = bare_statements f.body;
  closing = f.closing;
  registers = 0;
  entry = None;
  exit = None;
}

-- no bit is its own
abbrev pub bare_tree : typed.Program → Tree
bare_tree program = record {
  program = record {
    functions = map bare_function program.functions;
    statics = program.statics;
    structures = program.structures;
  };
  bits = 0;
}
