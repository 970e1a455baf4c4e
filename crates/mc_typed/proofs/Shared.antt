-- Threads may share a typed program: `Sync` of its parts, from the leaves up, since `search` reaches
-- its limits at the whole. Crates above cite `program` where they hand a program to threads.
use denote.Param.Send.{IsSync, recorded_sync, sendable, struct_sync, view_sync}
use denote.Ref.{NamedLft}
use denote.Struct.Declared.{shape}
use Rattle.std.proofs.Crossing.{Vec-sync}
use Rattle.std.proofs.Crossing as std
use Rattle.mc_value.specs.contracts.object_type.ObjType
use Rattle.mc_value.proofs.object_type.ObjType.TheLaws.TheKnot as object_types
use Rattle.mc_typed.specs.contracts.effects.Effect
use Rattle.mc_typed.specs.contracts.expressions.Expression
use Rattle.mc_typed.specs.contracts.functions.Function
use Rattle.mc_typed.specs.contracts.functions.ParameterType
use Rattle.mc_typed.specs.contracts.functions.ResultType
use Rattle.mc_typed.specs.contracts.initializers.Initializer
use Rattle.mc_typed.specs.contracts.objects.Object
use Rattle.mc_typed.specs.contracts.objects.StaticObject
use Rattle.mc_typed.specs.contracts.programs.Program
use Rattle.mc_typed.specs.contracts.programs.Program.TheInside
use Rattle.mc_typed.specs.contracts.statements.Declarator
use Rattle.mc_typed.specs.contracts.statements.ForStart
use Rattle.mc_typed.specs.contracts.statements.ReturnValue
use Rattle.mc_typed.specs.contracts.statements.Statement
use Rattle.mc_typed.proofs.effects.Effect.TheLaws.TheKnot as effects
use Rattle.mc_typed.proofs.expressions.Argument.TheLaws.TheKnot as expressions
use Rattle.mc_typed.proofs.initializers.Initializer.TheLaws.TheKnot as initializers
use Rattle.mc_typed.proofs.statements.Statement.TheLaws.TheKnot as statements

pub object_type : IsSync (ObjType.the_field).row
object_type =
    search (object_types.crosses, object_types.crosses_both, std.crosses, sendable) depth 40

-- ---- expressions and statements

pub expression : IsSync (Expression.the_field).row
expression = search (expressions.crosses, std.crosses, sendable) depth 40 fits 100000

pub effect : IsSync (Effect.the_field).row
effect = search (effects.crosses, expression, expressions.crosses, std.crosses, sendable)
    depth 40 fits 100000

pub initializer : IsSync (Initializer.the_field).row
initializer = search (initializers.crosses, expression, expressions.crosses, std.crosses, sendable)
    depth 40 fits 100000

pub declarator : IsSync (Declarator.the_field).row
declarator = search (initializer, std.crosses, sendable) depth 40

pub for_start : IsSync (ForStart.the_field).row
for_start = search (declarator, effect, std.crosses, sendable) depth 40

pub return_value : IsSync (ReturnValue.the_field).row
return_value = search (expression, expressions.crosses, std.crosses, sendable)
    depth 40 fits 100000

pub statement : IsSync (Statement.the_field).row
statement = search (
  statements.crosses,
  for_start,
  return_value,
  declarator,
  effect,
  expression,
  std.crosses,
  sendable,
) depth 40

-- ---- functions, static objects and programs

pub object : IsSync (Object.the_field).row
object = search (object_type, std.crosses, sendable) depth 40

pub parameter : IsSync (ParameterType.the_field).row
parameter = search (object_type, std.crosses, sendable) depth 40

pub result_type : IsSync (ResultType.the_field).row
result_type = search (object_type, std.crosses, sendable) depth 40

pub function_field : (a : NamedLft) → IsSync (Function.the_field a).row
function_field a =
    search (statement, object, parameter, result_type, std.crosses, sendable) depth 40 fits 100000

pub function : (a : NamedLft) → IsSync (Function.the_row a)
function a =
    recorded_sync (Function.the_field a).row _ _ (Function.the_type a).to_one (function_field a)

pub static_object : IsSync StaticObject.the_row
static_object = search (object_type, std.crosses, sendable) depth 40

pub structure : IsSync ObjType.the_row
structure = search (object_type, sendable)

pub fields : (a : NamedLft) → IsSync (TheInside.the_field a).row
fields a = struct_sync (shape (TheInside.the_type a))
    (Vec-sync _ (function a), (Vec-sync _ static_object, (Vec-sync _ structure, tt)))

pub inside : (a : NamedLft) → IsSync (TheInside.the_row a)
inside a = recorded_sync (TheInside.the_field a).row _ _ (TheInside.the_type a).to_one (fields a)

pub program : (a : NamedLft) → IsSync (Program.the_row a)
program a = view_sync (TheInside.the_row a) _ _ _ _ (inside a)
