-- Typed trees of short texts. Each name is one letter; places are those of the text's bytes.
use Rattle.std.specs.Prelude.{ℕ, ◌+◌, pos, List, [], ◌∷◌, Some, None, true, false}
use Rattle.mc_span.specs.declared.span.Span.{Span}
use Rattle.mc_value.specs.declared.int_type.IntType.TheVariants.{Bool, Int, Long}
use Rattle.mc_value.specs.declared.operators.BinOp.{BinOp}
use Rattle.mc_value.specs.declared.operators.UnOp.TheVariants as unary
use Rattle.mc_typed.specs.declared.expressions.Slot.{Slot}
use Rattle.mc_typed.specs.declared.operators.LogicOperator.TheVariants as logic
use Rattle.mc_typed.specs.declared.operators.Operator.TheVariants.{Binary}
use Rattle.mc_typed.specs.Tree.{Argument, Declarator, Effect, Expression, Function, FunctionCall, Initializer, Place, Statement, Statements}
use Rattle.mc_typed.specs.Tree as t
use Rattle.mc_cond.specs.Tree.{Tree, Leaf}
use Rattle.decide_rules.specs.Decisions.{AreDecisions, Decision}

abbrev pub span : ℕ → ℕ → Span
span start end = record { start = start; end = end }

abbrev pub slot : Slot
slot = record { object = 0; start = 0 }

-- ---- places

abbrev pub object : ℕ → Place
object at = t.Local slot (span at (at + 1))

abbrev pub item : Place → Expression → ℕ → ℕ → Place
item array index start end = t.Item array 9 1 index (span start end)

abbrev pub member : Place → ℕ → ℕ → Place
member structure start end = t.Member structure 0 0 (span start end)

-- an element of the array that a parameter names
abbrev pub parameter : Expression → ℕ → ℕ → Place
parameter index start end = t.Parameter 0 1 index (span start end)

-- ---- expressions

abbrev pub read : Place → Expression
read place = t.Read place Int

abbrev pub name : ℕ → Expression
name at = read (object at)

abbrev pub named : ℕ → ℕ → Expression
named start end = read (t.Local slot (span start end))

abbrev pub constant : ℕ → Expression
constant at = t.Constant (pos 1) Int (span at (at + 1))

abbrev pub not_of : Expression → ℕ → ℕ → Expression
not_of e start end = t.Not e (span start end)

abbrev pub and_of : Expression → Expression → ℕ → ℕ → Expression
and_of e f start end = t.Logic logic.And e f (span start end)

abbrev pub or_of : Expression → Expression → ℕ → ℕ → Expression
or_of e f start end = t.Logic logic.Or e f (span start end)

abbrev pub binary : BinOp → Expression → Expression → ℕ → ℕ → Expression
binary operator e f start end = t.Binary (Binary operator) Int e f (span start end)

abbrev pub minus : Expression → ℕ → ℕ → Expression
minus e start end = t.Unary unary.Minus Int e (span start end)

abbrev pub cast : Expression → ℕ → ℕ → Expression
cast e start end = t.Convert Long true e (span start end)

-- an implied conversion
abbrev pub implied : Expression → ℕ → ℕ → Expression
implied e start end = t.Convert Long false e (span start end)

-- an object of type _Bool, promoted
abbrev pub flag : ℕ → Expression
flag at = t.Convert Int false (t.Read (object at) Bool) (span at (at + 1))

abbrev pub flag_cast : Expression → ℕ → ℕ → Expression
flag_cast e start end =
    t.Convert Int false (t.Convert Bool true e (span start end)) (span start end)

abbrev pub choice : Expression → Expression → Expression → ℕ → ℕ → Expression
choice e f g start end = t.Choice e f g Int (span start end)

abbrev pub element : Expression → ℕ → ℕ → Expression
element index start end = read (item (object start) index start end)

-- ---- calls

abbrev pub call_of : Argument → ℕ → ℕ → FunctionCall
call_of a start end = t.call 0 (t.arguments a t.no_arguments) None (span start end)

abbrev pub number_call : Expression → ℕ → ℕ → FunctionCall
number_call e start end = call_of (t.NumberArgument e) start end

-- a call with an array that the caller's parameter names, and a number
abbrev pub call_after_array : Expression → ℕ → ℕ → ℕ → ℕ → FunctionCall
call_after_array e first last start end =
    let later = t.arguments (t.NumberArgument e) t.no_arguments in
    t.call 0 (t.arguments (t.AgainArgument 0 (span first last)) later) None (span start end)

abbrev pub value_of : FunctionCall → Expression
value_of k = t.Call k Int

abbrev pub call_with : Expression → ℕ → ℕ → Expression
call_with e start end = value_of (number_call e start end)

-- the same of a function that returns a _Bool, promoted
abbrev pub flag_call_with : Expression → ℕ → ℕ → Expression
flag_call_with e start end =
    t.Convert Int false (t.Call (number_call e start end) Bool) (span start end)

-- ---- statements, whose own places play no part

abbrev pub effect : Effect → Statement
effect a = t.EffectStatement a (span 0 0)

abbrev pub evaluated : Expression → Statement
evaluated e = effect (t.NumberEffect e true)

abbrev pub assigned : Expression → Statement
assigned e = effect (t.Assign (object 0) Int e (span 0 0))

abbrev pub updated : Place → BinOp → Expression → ℕ → ℕ → Effect
updated target operator e start end =
    t.Update target Int (Binary operator) Int e (span start end)

abbrev pub returned : Expression → Statement
returned e = t.Return (t.ReturnNumber e) (span 0 0)

abbrev pub initialized : Initializer → List Declarator
initialized i = record { slot = slot; cells = 1; value = Some i } ∷ []

abbrev pub declared : Initializer → Statement
declared i = t.Declaration (initialized i) (span 0 0)

abbrev pub list_of : Expression → Expression → Initializer
list_of e f =
    let later = t.initializers (t.NumberInitializer f) t.no_initializers in
    t.ListInitializer (t.initializers (t.NumberInitializer e) later) 2

abbrev pub structure_of : Expression → Initializer
structure_of e = t.StructureInitializer (t.Returned (number_call e 0 0)) 2

abbrev pub empty : Statement
empty = t.Null (span 0 0)

abbrev pub block : Statement → Statement
block s = t.Compound (t.statements s t.no_statements) (span 0 0)

abbrev pub if_of : Expression → Statement → Statement
if_of e s = t.If e s (span 0 0) (span 0 0)

abbrev pub if_else : Expression → Statement → Statement → Statement
if_else e s u = t.IfElse e s u (span 0 0) (span 0 0)

abbrev pub do_of : Statement → Expression → Statement
do_of s e = t.DoWhile s e (span 0 0) (span 0 0)

abbrev pub while_of : Expression → Statement → Statement
while_of e s = t.For (t.StartEffects []) (Some e) [] s (span 0 0) (span 0 0)

abbrev pub for_of : Expression → Expression → Expression → Statement
for_of e f g =
    t.For (t.StartEffects (t.NumberEffect e true ∷ [])) (Some f) (t.NumberEffect g true ∷ []) empty
    (span 0 0) (span 0 0)

abbrev pub for_declared : Initializer → Expression → Expression → Statement → Statement
for_declared i e f s =
    t.For (t.StartDeclaration (initialized i)) (Some e) (t.NumberEffect f true ∷ []) s
    (span 0 0) (span 0 0)

abbrev pub switch_of : Expression → Statement
switch_of e =
    t.Switch e (t.statements (t.Label None (span 0 0)) t.no_statements) (span 0 0) (span 0 0)

-- ---- decisions

-- one with this root, tree and conditions
abbrev pub told : ℕ → ℕ → Tree → List Span → Decision
told start end tree conditions =
    record { root = span start end; function = 0; tree = tree; conditions = conditions }

-- one whose root is its only condition
abbrev pub whole : ℕ → ℕ → Decision
whole start end = told start end (Leaf 0) (span start end ∷ [])

-- ---- rows

-- some statements, and the decisions of a function with them
pub record Row : Type 0 where
  pub body : List Statement
  pub decisions : List Decision

abbrev pub all_of : List Statement → Statements
all_of [] = t.no_statements
all_of (s ∷ ss) = t.statements s (all_of ss)

abbrev pub function_of : List Statement → Function
function_of body = record {
  name = [];
  name_span = span 0 0;
  parameters = [];
  result = t.NoResult;
  objects = [];
  body = all_of body;
  closing = span 0 0;
}

abbrev pub AreRight : List Row → Type 0
AreRight [] = Unit {0}
AreRight (row ∷ rows) =
    AreDecisions (function_of row.body ∷ []) row.decisions × AreRight rows
