-- What a tree of the program stands for with its probes, by folds: one node at a time, with what
-- each part stands for in its place.
use Rattle.std.specs.Prelude.{List, [], ◌∷◌, map, option_map}
use Rattle.mc_typed.specs.declared.expressions.Expression.{Expression}
use Rattle.mc_typed.specs.declared.expressions.Place.{Place}
use Rattle.mc_typed.specs.declared.expressions.Structure.{Structure}
use Rattle.mc_typed.specs.declared.expressions.FunctionCall.{FunctionCall}
use Rattle.mc_typed.specs.declared.expressions.Argument.{Argument}
use Rattle.mc_typed.specs.declared.expressions.Argument.TheOpen.{Expression-F, Place-F, Structure-F, FunctionCall-F, Argument-F}
use Rattle.mc_typed.specs.declared.expressions.Argument.TheFolds.{fold-Expression, fold-Place, fold-Structure, fold-FunctionCall, fold-Argument}
use Rattle.mc_typed.specs.declared.effects.Effect.{Effect}
use Rattle.mc_typed.specs.declared.effects.Effect.TheOpen.{Effect-F}
use Rattle.mc_typed.specs.declared.effects.Effect.TheFolds.{fold-Effect}
use Rattle.mc_typed.specs.declared.initializers.Initializer.{Initializer}
use Rattle.mc_typed.specs.declared.initializers.Initializer.TheOpen.{Initializer-F}
use Rattle.mc_typed.specs.declared.initializers.Initializer.TheFolds.{fold-Initializer}
use Rattle.mc_typed.specs.declared.statements.Statement.{Statement}
use Rattle.mc_typed.specs.declared.statements.Statement.TheOpen.{Statement-F}
use Rattle.mc_typed.specs.declared.statements.Statement.TheFolds.{fold-Statement}
use Rattle.mc_typed.specs.declared.statements.Declarator.{Declarator}
use Rattle.mc_typed.specs.declared.statements.ForStart.{ForStart}
use Rattle.mc_typed.specs.declared.statements.ForStart.TheVariants as for_start
use Rattle.mc_typed.specs.declared.statements.ReturnValue.{ReturnValue}
use Rattle.mc_typed.specs.declared.statements.ReturnValue.TheVariants as return_value
use Rattle.mc_typed.specs.declared.functions.Function.{Function}
use Rattle.mc_typed.specs.Layout.{object_type_of}
use Rattle.mc_typed.specs.Views.{parameter_of, result_of, object_of, static_of}
use Rattle.mc_typed.specs.Views as plain
use Rattle.mc_probe.specs.Tree as probed

-- ---- expressions

abbrev pub arguments_from : List probed.Argument → probed.Arguments
arguments_from [] = probed.no_arguments
arguments_from (a ∷ rest) = probed.arguments a (arguments_from rest)

abbrev pub node_place :
    Place-F probed.Argument probed.Expression probed.Place probed.StructureValue
    probed.FunctionCall → probed.Place
node_place (Place-F.Local slot span) = probed.Local slot span
node_place (Place-F.Static slot span) = probed.Static slot span
node_place (Place-F.Parameter array stride index span) = probed.Parameter array stride index.value
    span
node_place (Place-F.Item array length stride index span) =
    probed.Item array.value length stride index.value span
node_place (Place-F.Member structure member offset span) =
    probed.Member structure.value member offset span

abbrev pub node_expression :
    Expression-F probed.Argument probed.Expression probed.Place probed.StructureValue
    probed.FunctionCall → probed.Expression
node_expression (Expression-F.Constant value of span) = probed.Constant value of span
node_expression (Expression-F.Read place of) = probed.Read place of
node_expression (Expression-F.Unary operator of operand span) =
    probed.Unary operator of operand.value span
node_expression (Expression-F.Convert to written operand span) =
    probed.Convert to written operand.value span
node_expression (Expression-F.Not operand span) = probed.Not operand.value span
node_expression (Expression-F.Binary operator of left right span) =
    probed.Binary operator of left.value right.value span
node_expression (Expression-F.Logic operator left right span) =
    probed.Logic operator left.value right.value span
node_expression (Expression-F.Choice test chosen other of span) =
    probed.Choice test.value chosen.value other.value of span
node_expression (Expression-F.Call k of) = probed.Call k of
node_expression (Expression-F.Input span) = probed.Input span
node_expression (Expression-F.Probe probe operand) = probed.Probe probe operand.value

abbrev pub node_structure :
    Structure-F probed.Argument probed.Expression probed.Place probed.StructureValue
    probed.FunctionCall → probed.StructureValue
node_structure (Structure-F.Stored place) = probed.Stored place
node_structure (Structure-F.Returned k) = probed.Returned k

abbrev pub node_call :
    FunctionCall-F probed.Argument probed.Expression probed.Place probed.StructureValue
    probed.FunctionCall → probed.FunctionCall
node_call c = probed.call c.function (arguments_from c.arguments.items) c.result c.span

abbrev pub node_argument :
    Argument-F probed.Argument probed.Expression probed.Place probed.StructureValue
    probed.FunctionCall → probed.Argument
node_argument (Argument-F.Number value) = probed.NumberArgument value
node_argument (Argument-F.Structure value copy) = probed.StructureArgument value copy
node_argument (Argument-F.Array place length) = probed.ArrayArgument place length
node_argument (Argument-F.Again array span) = probed.AgainArgument array span

abbrev pub place_of : Place → probed.Place
place_of =
    fold-Place probed.Argument probed.Expression probed.Place probed.StructureValue
    probed.FunctionCall node_argument
    node_expression node_place node_structure node_call

abbrev pub expression_of : Expression → probed.Expression
expression_of =
    fold-Expression probed.Argument probed.Expression probed.Place probed.StructureValue
    probed.FunctionCall node_argument
    node_expression node_place node_structure node_call

abbrev pub structure_of : Structure → probed.StructureValue
structure_of =
    fold-Structure probed.Argument probed.Expression probed.Place probed.StructureValue
    probed.FunctionCall node_argument
    node_expression node_place node_structure node_call

abbrev pub call_of : FunctionCall → probed.FunctionCall
call_of =
    fold-FunctionCall probed.Argument probed.Expression probed.Place probed.StructureValue
    probed.FunctionCall
    node_argument node_expression node_place node_structure node_call

abbrev pub argument_of : Argument → probed.Argument
argument_of =
    fold-Argument probed.Argument probed.Expression probed.Place probed.StructureValue
    probed.FunctionCall node_argument
    node_expression node_place node_structure node_call

-- ---- effects and initializers

abbrev pub node_effect : Effect-F probed.Effect → probed.Effect
node_effect (Effect-F.Assign target of value span) =
    probed.Assign (place_of target) of (expression_of value) span
node_effect (Effect-F.Update target of operator common value span) =
    probed.Update (place_of target) of operator common (expression_of value) span
node_effect (Effect-F.Copy target value cells span) =
    probed.Copy (place_of target) (structure_of value) cells span
node_effect (Effect-F.Number value whole) = probed.NumberEffect (expression_of value) whole
node_effect (Effect-F.Structure value whole) = probed.StructureEffect (structure_of value) whole
node_effect (Effect-F.Call k) = probed.CallEffect (call_of k)
node_effect (Effect-F.Output value span) = probed.Output (expression_of value) span
node_effect (Effect-F.Choice test chosen other span) =
    probed.ChoiceEffect (expression_of test) chosen.value other.value span
node_effect (Effect-F.Discard operand span) = probed.Discard operand.value span

abbrev pub effect_of : Effect → probed.Effect
effect_of = fold-Effect probed.Effect node_effect

abbrev pub initializers_from : List probed.Initializer → probed.Initializers
initializers_from [] = probed.no_initializers
initializers_from (i ∷ rest) = probed.initializers i (initializers_from rest)

abbrev pub node_initializer : Initializer-F probed.Initializer → probed.Initializer
node_initializer (Initializer-F.Number value) = probed.NumberInitializer (expression_of value)
node_initializer (Initializer-F.Structure value cells) =
    probed.StructureInitializer (structure_of value) cells
node_initializer (Initializer-F.List items cells) =
    probed.ListInitializer (initializers_from items.items) cells
node_initializer (Initializer-F.Zero value cells) = probed.ZeroInitializer (expression_of value)
    cells

abbrev pub initializer_of : Initializer → probed.Initializer
initializer_of = fold-Initializer probed.Initializer node_initializer

-- ---- statements

abbrev pub declarator_of : Declarator → probed.Declarator
declarator_of d =
    record { slot = d.slot; cells = d.cells; value = option_map initializer_of d.value }

abbrev pub start_of : ForStart → probed.ForStart
start_of (for_start.Effects effects) = probed.StartEffects (map effect_of effects.items)
start_of (for_start.Declaration declarators) =
    probed.StartDeclaration (map declarator_of declarators.items)

abbrev pub return_value_of : ReturnValue → probed.ReturnValue
return_value_of return_value.Nothing = probed.ReturnNothing
return_value_of (return_value.Number value) = probed.ReturnNumber (expression_of value)
return_value_of (return_value.Structure value cells) = probed.ReturnStructure (structure_of value)
    cells

abbrev pub statements_from : List probed.Statement → probed.Statements
statements_from [] = probed.no_statements
statements_from (s ∷ rest) = probed.statements s (statements_from rest)

abbrev pub node_statement : Statement-F probed.Statement → probed.Statement
node_statement (Statement-F.Compound items span) = probed.Compound (statements_from items.items)
    span
node_statement (Statement-F.Label value span mark) = probed.Label value span mark
node_statement (Statement-F.Declaration declarators span bit) =
    probed.Declaration (map declarator_of declarators.items) span bit
node_statement (Statement-F.Null span bit) = probed.Null span bit
node_statement (Statement-F.Effect effect span bit) =
    probed.EffectStatement (effect_of effect) span bit
node_statement (Statement-F.If test chosen keyword span bit) =
    probed.If (expression_of test) chosen.value keyword span bit
node_statement (Statement-F.IfElse test chosen other keyword span bit) =
    probed.IfElse (expression_of test) chosen.value other.value keyword span bit
node_statement (Statement-F.Switch value items keyword span bit absent) =
    probed.Switch (expression_of value) (statements_from items.items) keyword span bit absent
node_statement (Statement-F.For start test step body keyword span bit) =
    probed.For (start_of start) (option_map expression_of test) (map effect_of step.items)
    body.value
    keyword span bit
node_statement (Statement-F.DoWhile body test keyword span bit) =
    probed.DoWhile body.value (expression_of test) keyword span bit
node_statement (Statement-F.Break span bit) = probed.Break span bit
node_statement (Statement-F.Continue span bit) = probed.Continue span bit
node_statement (Statement-F.Return value span bit exit) =
    probed.Return (return_value_of value) span bit exit

abbrev pub statement_of : Statement → probed.Statement
statement_of = fold-Statement probed.Statement node_statement

-- ---- programs

abbrev pub function_of : Function → probed.Function
function_of f = record {
  name = f.name.now;
  name_span = f.name_span;
  parameters = map parameter_of f.parameters.items;
  result = result_of f.result;
  objects = map object_of f.objects.items;
  body = statements_from (map statement_of f.body.items);
  closing = f.closing;
  registers = f.registers;
  entry = f.entry;
  exit = f.exit;
}

abbrev pub program_of : plain.Parts → probed.Program
program_of p = record {
  functions = map function_of p.functions;
  statics = map static_of p.statics;
  structures = map object_type_of p.structures;
}
