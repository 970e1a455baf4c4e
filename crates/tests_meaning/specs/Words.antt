-- Words to write typed programs with. Where their parts stand in a text plays no part in a run.
use Rattle.std.specs.Prelude.{ℕ, zero, suc, pos, true, List, [], ◌∷◌, map, Some, None}
use Rattle.mc_span.specs.declared.span.Span.{Span}
use Rattle.mc_value.specs.declared.int_type.IntType.TheVariants.{Int}
use Rattle.mc_value.specs.declared.operators.BinOp.{BinOp}
use Rattle.mc_value.specs.declared.operators.BinOp.TheVariants.{Add, Sub}
use Rattle.mc_typed.specs.declared.operators.Operator.TheVariants.{Binary}
use Rattle.mc_typed.specs.declared.operators.LogicOperator.TheVariants.{And, Or}
use Rattle.mc_typed.specs.declared.expressions.Slot.{Slot}
use Rattle.mc_typed.specs.Layout.{ObjectType, Scalar, cells}
use Rattle.mc_typed.specs.Tree.{Place, Expression, FunctionCall, Argument, Arguments, Effect, Initializer, Initializers, Declarator, Statement, Statements, ParameterType, ResultType, Object, Function, Program}
use Rattle.mc_typed.specs.Tree as t

abbrev pub here : Span
here = record { start = 0; end = 0 }

-- ---- objects: all that the run looks at are their numbers and cells

abbrev pub slot : ℕ → Slot
slot k = record { object = k; start = k }

abbrev pub local : ℕ → Place
local k = t.Local (slot k) here

abbrev pub static : ℕ → Place
static k = t.Static (slot k) here

abbrev pub object : ObjectType → Object
object u = record { object_type = u; cells = cells u; start = 0 }

abbrev pub int : Object
int = object (Scalar Int)

-- ---- expressions

abbrev pub read : Place → Expression
read p = t.Read p Int

-- the value of the int with this number
abbrev pub var : ℕ → Expression
var k = read (local k)

abbrev pub num : ℕ → Expression
num v = t.Constant (pos v) Int here

abbrev pub two : BinOp → Expression → Expression → Expression
two operator e f = t.Binary (Binary operator) Int e f here

abbrev pub conj : Expression → Expression → Expression
conj e f = t.Logic And e f here

abbrev pub disj : Expression → Expression → Expression
disj e f = t.Logic Or e f here

abbrev pub choice : Expression → Expression → Expression → Expression
choice e f g = t.Choice e f g Int here

abbrev pub item : Place → ℕ → Expression → Place
item p k e = t.Item p k 1 e here

abbrev pub member : Place → ℕ → Place
member p i = t.Member p i i here

abbrev pub args : List Argument → Arguments
args [] = t.no_arguments
args (a ∷ rest) = t.arguments a (args rest)

abbrev pub call : ℕ → List Argument → FunctionCall
call f given = t.call f (args given) None here

abbrev pub nums : List Expression → List Argument
nums = map t.NumberArgument

-- a call of a function of ints
abbrev pub called : ℕ → List Expression → Expression
called f es = t.Call (call f (nums es)) Int

-- ---- statements

abbrev pub body : List Statement → Statements
body [] = t.no_statements
body (s ∷ rest) = t.statements s (body rest)

abbrev pub block : List Statement → Statement
block items = t.Compound (body items) here

abbrev pub does : Effect → Statement
does e = t.EffectStatement e here

abbrev pub set : Place → Expression → Effect
set p e = t.Assign p Int e here

abbrev pub add : Place → Expression → Effect
add p e = t.Update p Int (Binary Add) Int e here

abbrev pub take : Place → Expression → Effect
take p e = t.Update p Int (Binary Sub) Int e here

abbrev pub value : Expression → Effect
value e = t.NumberEffect e true

abbrev pub gives : Expression → Statement
gives e = t.Return (t.ReturnNumber e) here

abbrev pub when : Expression → Statement → Statement
when e s = t.If e s here here

abbrev pub while : Expression → Statement → Statement
while e s = t.For (t.StartEffects []) (Some e) [] s here here

abbrev pub select : Expression → List Statement → Statement
select e items = t.Switch e (body items) here here

abbrev pub case : ℕ → Statement
case v = t.Label (Some (pos v)) here

abbrev pub default : Statement
default = t.Label None here

abbrev pub stop : Statement
stop = t.Break here

-- ---- declarations

abbrev pub plain : ℕ → ℕ → Declarator
plain k n = record { slot = slot k; cells = n; value = None }

abbrev pub with_number : ℕ → Expression → Declarator
with_number k e = record { slot = slot k; cells = 1; value = Some (t.NumberInitializer e) }

abbrev pub items : List Initializer → Initializers
items [] = t.no_initializers
items (i ∷ rest) = t.initializers i (items rest)

abbrev pub with_list : ℕ → ℕ → List Initializer → Declarator
with_list k n is =
    record { slot = slot k; cells = n; value = Some (t.ListInitializer (items is) n) }

abbrev pub declares : List Declarator → Statement
declares ds = t.Declaration ds here

-- ---- functions

abbrev pub function :
    List ParameterType → ResultType → List Object → List Statement → Function
function parameters result objects statements = record {
  name = [];
  name_span = here;
  parameters = parameters;
  result = result;
  objects = objects;
  body = body statements;
  closing = here;
}

abbrev pub ints : ℕ → List ParameterType
ints zero = []
ints (suc n) = t.NumberParameter Int ∷ ints n

abbrev pub objects : ℕ → List Object
objects zero = []
objects (suc n) = int ∷ objects n

-- a function of ints with this many parameters, that gives an int and whose objects are ints
abbrev pub of_ints : ℕ → ℕ → List Statement → Function
of_ints parameters all statements =
    function (ints parameters) (t.NumberResult Int) (objects all) statements

abbrev pub program : List Function → Program
program functions = record { functions = functions; statics = []; structures = [] }
