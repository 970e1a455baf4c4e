-- What a tree of the program stands for, by folds: one node at a time, with what each part stands
-- for in its place. A probe stands for nothing: the view of a tree with probes is that of the
-- program under them.
use Rattle.std.specs.Prelude.{List, [], ◌∷◌, map, option_map}
use Rattle.mc_typed.specs.declared.expressions.Expression.{Expression}
use Rattle.mc_typed.specs.declared.expressions.Place.{Place}
use Rattle.mc_typed.specs.declared.expressions.Structure.{Structure}
use Rattle.mc_typed.specs.declared.expressions.FunctionCall.{FunctionCall}
use Rattle.mc_typed.specs.declared.expressions.Argument.{Argument}
use Rattle.mc_typed.specs.declared.expressions.Argument.TheOpen.{Expression-F, Place-F, Structure-F, FunctionCall-F, Argument-F}
use Rattle.mc_typed.specs.declared.expressions.Argument.TheFolds.{fold-Expression, fold-Place, fold-Structure, fold-FunctionCall, fold-Argument}
use Rattle.mc_typed.specs.declared.effects.Effect.{Effect}
use Rattle.mc_typed.specs.declared.effects.Effect.TheOpen.{Effect-F}
use Rattle.mc_typed.specs.declared.effects.Effect.TheFolds.{fold-Effect}
use Rattle.mc_typed.specs.declared.initializers.Initializer.{Initializer}
use Rattle.mc_typed.specs.declared.initializers.Initializer.TheOpen.{Initializer-F}
use Rattle.mc_typed.specs.declared.initializers.Initializer.TheFolds.{fold-Initializer}
use Rattle.mc_typed.specs.declared.statements.Statement.{Statement}
use Rattle.mc_typed.specs.declared.statements.Statement.TheOpen.{Statement-F}
use Rattle.mc_typed.specs.declared.statements.Statement.TheFolds.{fold-Statement}
use Rattle.mc_typed.specs.declared.statements.Declarator.{Declarator}
use Rattle.mc_typed.specs.declared.statements.ForStart.{ForStart}
use Rattle.mc_typed.specs.declared.statements.ForStart.TheVariants as for_start
use Rattle.mc_typed.specs.declared.statements.ReturnValue.{ReturnValue}
use Rattle.mc_typed.specs.declared.statements.ReturnValue.TheVariants as return_value
use Rattle.mc_typed.specs.declared.functions.Function.{Function}
use Rattle.mc_typed.specs.declared.functions.ParameterType.{ParameterType}
use Rattle.mc_typed.specs.declared.functions.ParameterType.TheVariants as parameter
use Rattle.mc_typed.specs.declared.functions.ResultType.{ResultType}
use Rattle.mc_typed.specs.declared.functions.ResultType.TheVariants as result_type
use Rattle.mc_typed.specs.declared.objects.Object.{Object}
use Rattle.mc_value.specs.declared.object_type.ObjType.{ObjType}
use Rattle.mc_typed.specs.declared.objects.StaticObject.{StaticObject}
use Rattle.mc_typed.specs.Layout.{object_type_of}
use Rattle.mc_typed.specs.Tree as typed

-- ---- expressions

abbrev pub arguments_from : List typed.Argument → typed.Arguments
arguments_from [] = typed.no_arguments
arguments_from (a ∷ rest) = typed.arguments a (arguments_from rest)

abbrev pub node_place :
    Place-F typed.Argument typed.Expression typed.Place typed.StructureValue typed.FunctionCall
    → typed.Place
node_place (Place-F.Local slot span) = typed.Local slot span
node_place (Place-F.Static slot span) = typed.Static slot span
node_place (Place-F.Parameter array stride index span) = typed.Parameter array stride index.value
    span
node_place (Place-F.Item array length stride index span) =
    typed.Item array.value length stride index.value span
node_place (Place-F.Member structure member offset span) =
    typed.Member structure.value member offset span

abbrev pub node_expression :
    Expression-F typed.Argument typed.Expression typed.Place typed.StructureValue
    typed.FunctionCall → typed.Expression
node_expression (Expression-F.Constant value of span) = typed.Constant value of span
node_expression (Expression-F.Read place of) = typed.Read place of
node_expression (Expression-F.Unary operator of operand span) =
    typed.Unary operator of operand.value span
node_expression (Expression-F.Convert to written operand span) =
    typed.Convert to written operand.value span
node_expression (Expression-F.Not operand span) = typed.Not operand.value span
node_expression (Expression-F.Binary operator of left right span) =
    typed.Binary operator of left.value right.value span
node_expression (Expression-F.Logic operator left right span) =
    typed.Logic operator left.value right.value span
node_expression (Expression-F.Choice test chosen other of span) =
    typed.Choice test.value chosen.value other.value of span
node_expression (Expression-F.Call k of) = typed.Call k of
node_expression (Expression-F.Input span) = typed.Input span
node_expression (Expression-F.Probe probe operand) = operand.value

abbrev pub node_structure :
    Structure-F typed.Argument typed.Expression typed.Place typed.StructureValue
    typed.FunctionCall → typed.StructureValue
node_structure (Structure-F.Stored place) = typed.Stored place
node_structure (Structure-F.Returned k) = typed.Returned k

abbrev pub node_call :
    FunctionCall-F typed.Argument typed.Expression typed.Place typed.StructureValue
    typed.FunctionCall → typed.FunctionCall
node_call c = typed.call c.function (arguments_from c.arguments.items) c.result c.span

abbrev pub node_argument :
    Argument-F typed.Argument typed.Expression typed.Place typed.StructureValue typed.FunctionCall
    → typed.Argument
node_argument (Argument-F.Number value) = typed.NumberArgument value
node_argument (Argument-F.Structure value copy) = typed.StructureArgument value copy
node_argument (Argument-F.Array place length) = typed.ArrayArgument place length
node_argument (Argument-F.Again array span) = typed.AgainArgument array span

abbrev pub place_of : Place → typed.Place
place_of =
    fold-Place typed.Argument typed.Expression typed.Place typed.StructureValue typed.FunctionCall
    node_argument
    node_expression node_place node_structure node_call

abbrev pub expression_of : Expression → typed.Expression
expression_of =
    fold-Expression typed.Argument typed.Expression typed.Place typed.StructureValue
    typed.FunctionCall node_argument
    node_expression node_place node_structure node_call

abbrev pub structure_of : Structure → typed.StructureValue
structure_of =
    fold-Structure typed.Argument typed.Expression typed.Place typed.StructureValue
    typed.FunctionCall node_argument
    node_expression node_place node_structure node_call

abbrev pub call_of : FunctionCall → typed.FunctionCall
call_of =
    fold-FunctionCall typed.Argument typed.Expression typed.Place typed.StructureValue
    typed.FunctionCall
    node_argument node_expression node_place node_structure node_call

abbrev pub argument_of : Argument → typed.Argument
argument_of =
    fold-Argument typed.Argument typed.Expression typed.Place typed.StructureValue
    typed.FunctionCall node_argument
    node_expression node_place node_structure node_call

-- ---- effects and initializers

abbrev pub node_effect : Effect-F typed.Effect → typed.Effect
node_effect (Effect-F.Assign target of value span) =
    typed.Assign (place_of target) of (expression_of value) span
node_effect (Effect-F.Update target of operator common value span) =
    typed.Update (place_of target) of operator common (expression_of value) span
node_effect (Effect-F.Copy target value cells span) =
    typed.Copy (place_of target) (structure_of value) cells span
node_effect (Effect-F.Number value whole) = typed.NumberEffect (expression_of value) whole
node_effect (Effect-F.Structure value whole) = typed.StructureEffect (structure_of value) whole
node_effect (Effect-F.Call k) = typed.CallEffect (call_of k)
node_effect (Effect-F.Output value span) = typed.Output (expression_of value) span
node_effect (Effect-F.Choice test chosen other span) =
    typed.ChoiceEffect (expression_of test) chosen.value other.value span
node_effect (Effect-F.Discard operand span) = typed.Discard operand.value span

abbrev pub effect_of : Effect → typed.Effect
effect_of = fold-Effect typed.Effect node_effect

abbrev pub initializers_from : List typed.Initializer → typed.Initializers
initializers_from [] = typed.no_initializers
initializers_from (i ∷ rest) = typed.initializers i (initializers_from rest)

abbrev pub node_initializer : Initializer-F typed.Initializer → typed.Initializer
node_initializer (Initializer-F.Number value) = typed.NumberInitializer (expression_of value)
node_initializer (Initializer-F.Structure value cells) =
    typed.StructureInitializer (structure_of value) cells
node_initializer (Initializer-F.List items cells) =
    typed.ListInitializer (initializers_from items.items) cells
node_initializer (Initializer-F.Zero value cells) = typed.ZeroInitializer (expression_of value)
    cells

abbrev pub initializer_of : Initializer → typed.Initializer
initializer_of = fold-Initializer typed.Initializer node_initializer

-- ---- statements

abbrev pub declarator_of : Declarator → typed.Declarator
declarator_of d =
    record { slot = d.slot; cells = d.cells; value = option_map initializer_of d.value }

abbrev pub start_of : ForStart → typed.ForStart
start_of (for_start.Effects effects) = typed.StartEffects (map effect_of effects.items)
start_of (for_start.Declaration declarators) =
    typed.StartDeclaration (map declarator_of declarators.items)

abbrev pub return_value_of : ReturnValue → typed.ReturnValue
return_value_of return_value.Nothing = typed.ReturnNothing
return_value_of (return_value.Number value) = typed.ReturnNumber (expression_of value)
return_value_of (return_value.Structure value cells) = typed.ReturnStructure (structure_of value)
    cells

abbrev pub statements_from : List typed.Statement → typed.Statements
statements_from [] = typed.no_statements
statements_from (s ∷ rest) = typed.statements s (statements_from rest)

abbrev pub node_statement : Statement-F typed.Statement → typed.Statement
node_statement (Statement-F.Compound items span) = typed.Compound (statements_from items.items) span
node_statement (Statement-F.Label value span mark) = typed.Label value span
node_statement (Statement-F.Declaration declarators span bit) =
    typed.Declaration (map declarator_of declarators.items) span
node_statement (Statement-F.Null span bit) = typed.Null span
node_statement (Statement-F.Effect effect span bit) = typed.EffectStatement (effect_of effect) span
node_statement (Statement-F.If test chosen keyword span bit) =
    typed.If (expression_of test) chosen.value keyword span
node_statement (Statement-F.IfElse test chosen other keyword span bit) =
    typed.IfElse (expression_of test) chosen.value other.value keyword span
node_statement (Statement-F.Switch value items keyword span bit absent) =
    typed.Switch (expression_of value) (statements_from items.items) keyword span
node_statement (Statement-F.For start test step body keyword span bit) =
    typed.For (start_of start) (option_map expression_of test) (map effect_of step.items) body.value
    keyword span
node_statement (Statement-F.DoWhile body test keyword span bit) =
    typed.DoWhile body.value (expression_of test) keyword span
node_statement (Statement-F.Break span bit) = typed.Break span
node_statement (Statement-F.Continue span bit) = typed.Continue span
node_statement (Statement-F.Return value span bit exit) = typed.Return (return_value_of value) span

abbrev pub statement_of : Statement → typed.Statement
statement_of = fold-Statement typed.Statement node_statement

-- ---- programs

abbrev pub parameter_of : ParameterType → typed.ParameterType
parameter_of (parameter.Int a) = typed.NumberParameter a
parameter_of (parameter.Structure u) = typed.StructureParameter (object_type_of u)
parameter_of (parameter.Array element) = typed.ArrayParameter (object_type_of element)

abbrev pub result_of : ResultType → typed.ResultType
result_of result_type.Void = typed.NoResult
result_of (result_type.Int a) = typed.NumberResult a
result_of (result_type.Structure u) = typed.StructureResult (object_type_of u)

abbrev pub object_of : Object → typed.Object
object_of o =
    record { object_type = object_type_of o.object_type; cells = o.cells; start = o.start }

abbrev pub static_of : StaticObject → typed.StaticObject
static_of o = record {
  object = record { object_type = object_type_of o.object_type; cells = o.cells; start = o.start };
  initial = o.initial.items;
}

abbrev pub function_of : Function → typed.Function
function_of f = record {
  name = f.name.now;
  name_span = f.name_span;
  parameters = map parameter_of f.parameters.items;
  result = result_of f.result;
  objects = map object_of f.objects.items;
  body = statements_from (map statement_of f.body.items);
  closing = f.closing;
}

-- the parts of a program
pub record Parts : Type 0 where
  pub functions : List Function
  pub statics : List StaticObject
  pub structures : List ObjType

abbrev pub program_of : Parts → typed.Program
program_of p = record {
  functions = map function_of p.functions;
  statics = map static_of p.statics;
  structures = map object_type_of p.structures;
}
