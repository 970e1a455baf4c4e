-- The nodes of a typed program, as far as decisions are concerned: the top operator of each
-- expression, and the parts of each node in the order of the text. Parentheses are no nodes.
use Rattle.std.specs.Prelude.{Bool, true, false, ◌&&◌, ◌||◌, if◌then◌else◌, List, [], ◌∷◌, Option, Some, None}
use Rattle.mc_span.specs.declared.span.Span.{Span}
use Rattle.mc_typed.specs.declared.operators.Operator as code
use Rattle.mc_typed.specs.declared.operators.Operator.TheVariants.{Binary, Shift}
use Rattle.mc_value.specs.declared.int_type.IntType.{IntType}
use Rattle.mc_value.specs.declared.int_type.IntType.TheVariants as the
use Rattle.mc_value.specs.declared.operators.BinOp.TheVariants as bits
use Rattle.mc_typed.specs.Sound.{compares}
use Rattle.mc_typed.specs.Tree as typed
use Rattle.decide_rules.specs.declared.operators.FullOperator.{FullOperator}
use Rattle.decide_rules.specs.declared.operators.FullOperator.TheVariants as full
use Rattle.decide_rules.specs.declared.operators.Junction.{Junction}
use Rattle.decide_rules.specs.declared.operators.Junction.TheVariants.{Short, Full}

-- what an expression is, where it is no constant and has none of these operators and no `!` on top
pub data Top : Type 0 where
  -- another operator that a constant expression can have, a conversion or `?:` (C17 6.3, 6.5.3 to
  -- 6.5.12, 6.5.15): `true` for a relational or equality operator (C17 6.5.8, 6.5.9)
  Operator : Bool → Top
  -- an object, or a call
  Other : Top

mutual
  pub data Node : Type 0 where
    -- an integer, enumeration or character constant (C17 6.4.4)
    Constant : Span → Node
    Not : Node → Span → Node
    Logic : Junction → Node → Node → Span → Node
    Expression : Top → Parts → Span → Node
    -- what is no expression: a statement, an initializer, a function, the program
    Whole : Parts → Node

  -- A part is `controlling` where it is the controlling expression of `if`, `while`, `do` or `for`,
  -- or the first operand of `?:`.
  pub data Parts : Type 0 where
    no_parts : Parts
    part : Node → Parts → Parts
    controlling : Node → Parts → Parts

-- where an expression stands: from its first token to its last
abbrev pub span_of : Node → Span
span_of (Constant span) = span
span_of (Not a span) = span
span_of (Logic operator a b span) = span
span_of (Expression top ps span) = span
span_of (Whole ps) = record { start = 0; end = 0 }

-- ---- Boolean operands

abbrev pub is_comparison : code.Operator → Bool
is_comparison (Binary operator) = compares operator
is_comparison (Shift operator) = false

abbrev pub is_flag : IntType → Bool
is_flag the.Bool = true
is_flag _ = false

-- `&`, `|` and `^`
abbrev pub bitwise : code.Operator → Option FullOperator
bitwise (Binary bits.And) = Some full.And
bitwise (Binary bits.Or) = Some full.Or
bitwise (Binary bits.Xor) = Some full.Xor
bitwise _ = None

abbrev pub is_bitwise : code.Operator → Bool
is_bitwise operator = elim (bitwise operator) as (λ _. Bool) [ Some _ ↦ true | None ↦ false ]

-- A Boolean operand has `&&`, `||`, `!`, a relational or an equality operator on top, or `&`, `|` or
-- `^` between two Boolean operands, or is of type _Bool. An implied conversion is no operator of the
-- text: the operand is what is converted.
abbrev pub is_operand : typed.Expression → Bool
is_operand (typed.Constant v a span) = is_flag a
is_operand (typed.Read object a) = is_flag a
is_operand (typed.Unary operator a e span) = is_flag a
is_operand (typed.Convert a true e span) = is_flag a
is_operand (typed.Convert a false e span) = is_operand e
is_operand (typed.Not e span) = true
is_operand (typed.Binary operator a e f span) =
    is_comparison operator || (is_bitwise operator && (is_operand e && is_operand f))
is_operand (typed.Logic operator e f span) = true
is_operand (typed.Choice e f g a span) = is_flag a
is_operand (typed.Call k a) = is_flag a
is_operand (typed.Input span) = false

-- the full operator that this operator is between these operands
abbrev pub full_operator : code.Operator → typed.Expression → typed.Expression → Option FullOperator
full_operator operator e f = if is_operand e && is_operand f then bitwise operator else None

-- ---- expressions (C17 6.5)

-- an operator that evaluates both of its operands
abbrev pub evaluates_both : Option FullOperator → code.Operator → Node → Node → Span → Node
evaluates_both (Some operator) _ a b span = Logic (Full operator) a b span
evaluates_both None operator a b span =
    Expression (Operator (is_comparison operator)) (part a (part b no_parts)) span

abbrev mutual
  pub place : typed.Place → Node
  place (typed.Local slot span) = Expression Other no_parts span
  place (typed.Static slot span) = Expression Other no_parts span
  place (typed.Parameter array stride index span) =
      Expression Other (part (expression index) no_parts) span
  place (typed.Item array length stride index span) =
      Expression Other (part (place array) (part (expression index) no_parts)) span
  place (typed.Member object member offset span) =
      Expression Other (part (place object) no_parts) span

  pub expression : typed.Expression → Node
  expression (typed.Constant value a span) = Constant span
  expression (typed.Read object a) =
      Expression Other (part (place object) no_parts) (typed.span_of_place object)
  expression (typed.Unary operator a e span) =
      Expression (Operator false) (part (expression e) no_parts) span
  expression (typed.Convert a written e span) =
      Expression (Operator false) (part (expression e) no_parts) span
  expression (typed.Not e span) = Not (expression e) span
  expression (typed.Binary operator a e f span) =
      evaluates_both (full_operator operator e f) operator (expression e) (expression f) span
  expression (typed.Logic operator e f span) =
      Logic (Short operator) (expression e) (expression f) span
  expression (typed.Choice e f g a span) =
      Expression (Operator false)
      (controlling (expression e) (part (expression f) (part (expression g) no_parts))) span
  expression (typed.Call k a) = Expression Other (call_parts k) (typed.span_of_call k)
  expression (typed.Input span) = Expression Other no_parts span

  pub structure : typed.StructureValue → Node
  structure (typed.Stored object) = place object
  structure (typed.Returned k) = Expression Other (call_parts k) (typed.span_of_call k)

  pub call_parts : typed.FunctionCall → Parts
  call_parts (typed.call f given result span) = arguments given

  pub argument : typed.Argument → Node
  argument (typed.NumberArgument e) = expression e
  argument (typed.StructureArgument value copy) = structure value
  argument (typed.ArrayArgument array length) = place array
  argument (typed.AgainArgument array span) = Expression Other no_parts span

  pub arguments : typed.Arguments → Parts
  arguments typed.no_arguments = no_parts
  arguments (typed.arguments a rest) = part (argument a) (arguments rest)

-- ---- effects (C17 6.8.3)

abbrev pub effect : typed.Effect → Node
effect (typed.Assign target a e span) = Whole (part (place target) (part (expression e) no_parts))
effect (typed.Update target a operator common e span) =
    Whole (part (place target) (part (expression e) no_parts))
effect (typed.Copy target value n span) =
    Whole (part (place target) (part (structure value) no_parts))
effect (typed.NumberEffect e whole) = expression e
effect (typed.StructureEffect value whole) = structure value
effect (typed.CallEffect k) = Whole (call_parts k)
effect (typed.Output e span) = Whole (part (expression e) no_parts)
effect (typed.ChoiceEffect e a b span) =
    Whole (controlling (expression e) (part (effect a) (part (effect b) no_parts)))
effect (typed.Discard a span) = Whole (part (effect a) no_parts)

abbrev pub effects : List typed.Effect → Parts
effects [] = no_parts
effects (a ∷ rest) = part (effect a) (effects rest)

-- ---- initializers (C17 6.7.9)

abbrev mutual
  pub initializer : typed.Initializer → Node
  initializer (typed.NumberInitializer e) = expression e
  initializer (typed.StructureInitializer value n) = structure value
  initializer (typed.ListInitializer items n) = Whole (initializers items)
  initializer (typed.ZeroInitializer e n) = expression e

  pub initializers : typed.Initializers → Parts
  initializers typed.no_initializers = no_parts
  initializers (typed.initializers i rest) = part (initializer i) (initializers rest)

abbrev pub initial : Option typed.Initializer → Node
initial None = Whole no_parts
initial (Some i) = initializer i

abbrev pub declarators : List typed.Declarator → Parts
declarators [] = no_parts
declarators (d ∷ rest) = part (initial d.value) (declarators rest)

-- ---- statements (C17 6.8)

abbrev pub start : typed.ForStart → Node
start (typed.StartEffects clauses) = Whole (effects clauses)
start (typed.StartDeclaration declared) = Whole (declarators declared)

abbrev pub optional_test : Option typed.Expression → Node
optional_test None = Whole no_parts
optional_test (Some e) = Whole (controlling (expression e) no_parts)

abbrev pub return_value : typed.ReturnValue → Node
return_value typed.ReturnNothing = Whole no_parts
return_value (typed.ReturnNumber e) = expression e
return_value (typed.ReturnStructure value n) = structure value

abbrev mutual
  pub statement : typed.Statement → Node
  statement (typed.Compound items span) = Whole (statements items)
  statement (typed.Label value span) = Whole no_parts
  statement (typed.Declaration declared span) = Whole (declarators declared)
  statement (typed.Null span) = Whole no_parts
  statement (typed.EffectStatement whole span) = Whole (part (effect whole) no_parts)
  statement (typed.If e s keyword span) =
      Whole (controlling (expression e) (part (statement s) no_parts))
  statement (typed.IfElse e s u keyword span) =
      Whole (controlling (expression e) (part (statement s) (part (statement u) no_parts)))
  -- a `switch` asks for the value of its controlling expression, and not for its truth
  statement (typed.Switch e items keyword span) =
      Whole (part (expression e) (part (Whole (statements items)) no_parts))
  statement (typed.For first e step s keyword span) =
      Whole (part (start first) (part (optional_test e)
      (part (Whole (effects step)) (part (statement s) no_parts))))
  statement (typed.DoWhile s e keyword span) =
      Whole (part (statement s) (controlling (expression e) no_parts))
  statement (typed.Break span) = Whole no_parts
  statement (typed.Continue span) = Whole no_parts
  statement (typed.Return value span) = Whole (part (return_value value) no_parts)

  pub statements : typed.Statements → Parts
  statements typed.no_statements = no_parts
  statements (typed.statements s rest) = part (statement s) (statements rest)

-- ---- programs

abbrev pub function : typed.Function → Node
function f = Whole (statements f.body)

abbrev pub functions : List typed.Function → Parts
functions [] = no_parts
functions (f ∷ rest) = part (function f) (functions rest)

-- The parts of a program are its functions, by their numbers. Initial values of objects with static
-- storage duration are constant expressions, whose values alone are kept.
abbrev pub program : List typed.Function → Node
program fs = Whole (functions fs)
