-- A tree with probes, with each place set to 0: two trees that differ in places alone become equal.
use Rattle.std.specs.Prelude.{List, map, Option, option_map}
use Rattle.mc_probe.specs.Tree.{Place, Expression, StructureValue, FunctionCall, Argument}
use Rattle.mc_probe.specs.Tree.{Arguments, Effect, Initializer, Initializers, Declarator, ForStart}
use Rattle.mc_probe.specs.Tree.{ReturnValue, Statement, Statements, Function, Tree}
use Rattle.mc_probe.specs.Tree as p
use Rattle.reread_law_places.specs.natural.Settled.{nowhere}

-- ---- expressions

abbrev mutual
  pub unplaced_place : Place → Place
  unplaced_place (p.Local slot span) = p.Local slot nowhere
  unplaced_place (p.Static slot span) = p.Static slot nowhere
  unplaced_place (p.Parameter array stride index span) =
      p.Parameter array stride (unplaced_expression index) nowhere
  unplaced_place (p.Item array n stride index span) =
      p.Item (unplaced_place array) n stride (unplaced_expression index) nowhere
  unplaced_place (p.Member structure i offset span) =
      p.Member (unplaced_place structure) i offset nowhere

  pub unplaced_expression : Expression → Expression
  unplaced_expression (p.Constant v a span) = p.Constant v a nowhere
  unplaced_expression (p.Read place a) = p.Read (unplaced_place place) a
  unplaced_expression (p.Unary operator a e span) =
      p.Unary operator a (unplaced_expression e) nowhere
  unplaced_expression (p.Convert a written e span) =
      p.Convert a written (unplaced_expression e) nowhere
  unplaced_expression (p.Not e span) = p.Not (unplaced_expression e) nowhere
  unplaced_expression (p.Binary operator a e f span) =
      p.Binary operator a (unplaced_expression e) (unplaced_expression f) nowhere
  unplaced_expression (p.Logic operator e f span) =
      p.Logic operator (unplaced_expression e) (unplaced_expression f) nowhere
  unplaced_expression (p.Choice e f g a span) =
      p.Choice (unplaced_expression e) (unplaced_expression f) (unplaced_expression g) a nowhere
  unplaced_expression (p.Call k a) = p.Call (unplaced_call k) a
  unplaced_expression (p.Input span) = p.Input nowhere
  unplaced_expression (p.Probe probe e) = p.Probe probe (unplaced_expression e)

  pub unplaced_structure : StructureValue → StructureValue
  unplaced_structure (p.Stored place) = p.Stored (unplaced_place place)
  unplaced_structure (p.Returned k) = p.Returned (unplaced_call k)

  pub unplaced_call : FunctionCall → FunctionCall
  unplaced_call (p.call f given result span) = p.call f (unplaced_arguments given) result nowhere

  pub unplaced_argument : Argument → Argument
  unplaced_argument (p.NumberArgument e) = p.NumberArgument (unplaced_expression e)
  unplaced_argument (p.StructureArgument value copy) =
      p.StructureArgument (unplaced_structure value) copy
  unplaced_argument (p.ArrayArgument place n) = p.ArrayArgument (unplaced_place place) n
  unplaced_argument (p.AgainArgument array span) = p.AgainArgument array nowhere

  pub unplaced_arguments : Arguments → Arguments
  unplaced_arguments p.no_arguments = p.no_arguments
  unplaced_arguments (p.arguments a rest) =
      p.arguments (unplaced_argument a) (unplaced_arguments rest)

-- ---- effects and initializers

abbrev pub unplaced_effect : Effect → Effect
unplaced_effect (p.Assign target a e span) =
    p.Assign (unplaced_place target) a (unplaced_expression e) nowhere
unplaced_effect (p.Update target a operator common e span) =
    p.Update (unplaced_place target) a operator common (unplaced_expression e) nowhere
unplaced_effect (p.Copy target value n span) =
    p.Copy (unplaced_place target) (unplaced_structure value) n nowhere
unplaced_effect (p.NumberEffect e whole) = p.NumberEffect (unplaced_expression e) whole
unplaced_effect (p.StructureEffect value whole) =
    p.StructureEffect (unplaced_structure value) whole
unplaced_effect (p.CallEffect k) = p.CallEffect (unplaced_call k)
unplaced_effect (p.Output e span) = p.Output (unplaced_expression e) nowhere
unplaced_effect (p.ChoiceEffect e a b span) =
    p.ChoiceEffect (unplaced_expression e) (unplaced_effect a) (unplaced_effect b) nowhere
unplaced_effect (p.Discard a span) = p.Discard (unplaced_effect a) nowhere

abbrev mutual
  pub unplaced_initializer : Initializer → Initializer
  unplaced_initializer (p.NumberInitializer e) = p.NumberInitializer (unplaced_expression e)
  unplaced_initializer (p.StructureInitializer value n) =
      p.StructureInitializer (unplaced_structure value) n
  unplaced_initializer (p.ListInitializer items n) =
      p.ListInitializer (unplaced_initializers items) n
  unplaced_initializer (p.ZeroInitializer e n) = p.ZeroInitializer (unplaced_expression e) n

  pub unplaced_initializers : Initializers → Initializers
  unplaced_initializers p.no_initializers = p.no_initializers
  unplaced_initializers (p.initializers i rest) =
      p.initializers (unplaced_initializer i) (unplaced_initializers rest)

abbrev pub unplaced_declarator : Declarator → Declarator
unplaced_declarator d =
    record { slot = d.slot; cells = d.cells; value = option_map unplaced_initializer d.value }

-- ---- statements

abbrev pub unplaced_start : ForStart → ForStart
unplaced_start (p.StartEffects effects) = p.StartEffects (map unplaced_effect effects)
unplaced_start (p.StartDeclaration declarators) =
    p.StartDeclaration (map unplaced_declarator declarators)

abbrev pub unplaced_return : ReturnValue → ReturnValue
unplaced_return p.ReturnNothing = p.ReturnNothing
unplaced_return (p.ReturnNumber e) = p.ReturnNumber (unplaced_expression e)
unplaced_return (p.ReturnStructure value n) = p.ReturnStructure (unplaced_structure value) n

abbrev mutual
  pub unplaced_statement : Statement → Statement
  unplaced_statement (p.Compound items span) = p.Compound (unplaced_statements items) nowhere
  unplaced_statement (p.Label v span mark) = p.Label v nowhere mark
  unplaced_statement (p.Declaration declarators span bit) =
      p.Declaration (map unplaced_declarator declarators) nowhere bit
  unplaced_statement (p.Null span bit) = p.Null nowhere bit
  unplaced_statement (p.EffectStatement effect span bit) =
      p.EffectStatement (unplaced_effect effect) nowhere bit
  unplaced_statement (p.If e s keyword span bit) =
      p.If (unplaced_expression e) (unplaced_statement s) nowhere nowhere bit
  unplaced_statement (p.IfElse e s u keyword span bit) =
      p.IfElse (unplaced_expression e) (unplaced_statement s) (unplaced_statement u) nowhere
      nowhere bit
  unplaced_statement (p.Switch e items keyword span bit absent) =
      p.Switch (unplaced_expression e) (unplaced_statements items) nowhere nowhere bit absent
  unplaced_statement (p.For start test step s keyword span bit) =
      p.For (unplaced_start start) (option_map unplaced_expression test)
      (map unplaced_effect step) (unplaced_statement s) nowhere nowhere bit
  unplaced_statement (p.DoWhile s e keyword span bit) =
      p.DoWhile (unplaced_statement s) (unplaced_expression e) nowhere nowhere bit
  unplaced_statement (p.Break span bit) = p.Break nowhere bit
  unplaced_statement (p.Continue span bit) = p.Continue nowhere bit
  unplaced_statement (p.Return value span bit exit) =
      p.Return (unplaced_return value) nowhere bit exit

  pub unplaced_statements : Statements → Statements
  unplaced_statements p.no_statements = p.no_statements
  unplaced_statements (p.statements s rest) =
      p.statements (unplaced_statement s) (unplaced_statements rest)

-- ---- functions and trees

abbrev pub unplaced_function : Function → Function
unplaced_function f = record f {
  name_span = nowhere;
  body = unplaced_statements f.body;
  closing = nowhere;
}

abbrev pub unplaced : Tree → Tree
unplaced tree = record tree {
  program = record tree.program { functions = map unplaced_function tree.program.functions };
}
