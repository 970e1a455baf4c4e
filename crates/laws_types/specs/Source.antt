-- What a typed program has of its source: a rule for each node of a typed tree. Its operators are
-- those of the source, in their order and with the same operands, and each node stands where that
-- of the source stands. Parentheses leave no node, and nothing is added but conversions that C
-- implies. Which types they have is said elsewhere.
use Rattle.std.specs.Prelude.{◌≡◌, ℕ, ◌+◌, ◌-◌, min, ℤ, pos, Bool, true, false, Option, Some, None}
use Rattle.mc_span.specs.declared.span.Span.{Span}
use Rattle.mc_tree.specs.declared.expressions.unary_operator.UnaryOperator.{UnaryOperator}
use Rattle.mc_tree.specs.declared.expressions.unary_operator.UnaryOperator.TheVariants as unary
use Rattle.mc_tree.specs.declared.expressions.step_operator.StepOperator.{StepOperator}
use Rattle.mc_tree.specs.declared.expressions.step_operator.StepOperator.TheVariants as step
use Rattle.mc_tree.specs.declared.expressions.binary_operator.BinaryOperator.{BinaryOperator}
use Rattle.mc_tree.specs.declared.expressions.binary_operator.BinaryOperator.TheVariants as binary
use Rattle.mc_tree.specs.declared.expressions.assignment_operator.AssignmentOperator.{AssignmentOperator}
use Rattle.mc_tree.specs.declared.expressions.assignment_operator.AssignmentOperator.TheVariants as assign
use Rattle.mc_tree.specs.Tree.{Name, Expression, Expressions, TypeName}
use Rattle.mc_tree.specs.Tree as tree
use Rattle.mc_value.specs.declared.int_type.IntType.{IntType}
use Rattle.mc_value.specs.declared.int_type.IntType.TheVariants.{Int}
use Rattle.mc_value.specs.declared.operators.BinOp.TheVariants as op
use Rattle.mc_value.specs.declared.operators.ShiftOp.TheVariants as shift
use Rattle.mc_value.specs.declared.operators.UnOp.{UnOp}
use Rattle.mc_value.specs.declared.operators.UnOp.TheVariants as un
use Rattle.mc_typed.specs.declared.operators.Operator.{Operator}
use Rattle.mc_typed.specs.declared.operators.Operator.TheVariants.{Binary, Shift}
use Rattle.mc_typed.specs.declared.operators.LogicOperator.{LogicOperator}
use Rattle.mc_typed.specs.declared.operators.LogicOperator.TheVariants as logic
use Rattle.mc_typed.specs.declared.expressions.Slot.{Slot}
use Rattle.mc_typed.specs.Tree.{Place, FunctionCall, StructureValue, Argument, Arguments, Effect}
use Rattle.mc_typed.specs.Tree as typed
use Rattle.types_rules.specs.Scopes.{is_input, is_output}

-- ---- operators (C17 6.5.3.3, 6.5.5 to 6.5.14, 6.5.16.2)

abbrev pub unary_operator : UnaryOperator → Option UnOp
unary_operator unary.Plus = Some un.Plus
unary_operator unary.Minus = Some un.Minus
unary_operator unary.Complement = Some un.Flip
unary_operator unary.Not = None
unary_operator unary.Dereference = None
unary_operator unary.Address = None

-- what works on two numbers
abbrev pub binary_operator : BinaryOperator → Option Operator
binary_operator binary.Multiply = Some (Binary op.Mul)
binary_operator binary.Divide = Some (Binary op.Div)
binary_operator binary.Remainder = Some (Binary op.Rem)
binary_operator binary.Add = Some (Binary op.Add)
binary_operator binary.Subtract = Some (Binary op.Sub)
binary_operator binary.ShiftLeft = Some (Shift shift.Left)
binary_operator binary.ShiftRight = Some (Shift shift.Right)
binary_operator binary.Less = Some (Binary op.Lt)
binary_operator binary.Greater = Some (Binary op.Gt)
binary_operator binary.LessOrEqual = Some (Binary op.Le)
binary_operator binary.GreaterOrEqual = Some (Binary op.Ge)
binary_operator binary.Equal = Some (Binary op.Eq)
binary_operator binary.Unequal = Some (Binary op.Ne)
binary_operator binary.BitAnd = Some (Binary op.And)
binary_operator binary.BitXor = Some (Binary op.Xor)
binary_operator binary.BitOr = Some (Binary op.Or)
binary_operator binary.And = None
binary_operator binary.Or = None

abbrev pub logic_operator : BinaryOperator → Option LogicOperator
logic_operator binary.And = Some logic.And
logic_operator binary.Or = Some logic.Or
logic_operator _ = None

abbrev pub update_operator : AssignmentOperator → Option Operator
update_operator assign.Assign = None
update_operator assign.Multiply = Some (Binary op.Mul)
update_operator assign.Divide = Some (Binary op.Div)
update_operator assign.Remainder = Some (Binary op.Rem)
update_operator assign.Add = Some (Binary op.Add)
update_operator assign.Subtract = Some (Binary op.Sub)
update_operator assign.ShiftLeft = Some (Shift shift.Left)
update_operator assign.ShiftRight = Some (Shift shift.Right)
update_operator assign.BitAnd = Some (Binary op.And)
update_operator assign.BitXor = Some (Binary op.Xor)
update_operator assign.BitOr = Some (Binary op.Or)

-- `++` and `--` are `+= 1` and `-= 1` (C17 6.5.2.4p2, 6.5.3.1p2)
abbrev pub step_operator : StepOperator → Operator
step_operator step.Increment = Binary op.Add
step_operator step.Decrement = Binary op.Sub

-- this 1, perhaps converted, stands where the two bytes of the operator stand
pub data IsOneAt : Span → typed.Expression → Type 0 where
  one : {span : Span} → IsOneAt span (typed.Constant (pos 1) Int span)
  converted_one : {span : Span} {t : IntType}
      → IsOneAt span (typed.Convert t false (typed.Constant (pos 1) Int span) span)

abbrev pub last_two : Span → Span
last_two span = record { start = span.end - 2; end = span.end }

abbrev pub first_two : Span → Span
first_two span = record { start = span.start; end = min (span.start + 2) span.end }

-- ---- expressions (C17 6.5)

-- a name, perhaps in parentheses, which stands here
pub data IsNameOf : Expression → Span → Type 0 where
  name_bare : {name : Name} → IsNameOf (tree.Named name) name.span
  name_inside : {a : Expression} {span at : Span} → IsNameOf a at
      → IsNameOf (tree.Parenthesized a span) at

mutual
  -- a number
  pub data IsNumberOf : Expression → typed.Expression → Type 0 where
    inside : {a : Expression} {e : typed.Expression} {span : Span}
        → IsNumberOf a e → IsNumberOf (tree.Parenthesized a span) e
    enumerator : {name : Name} {v : ℤ}
        → IsNumberOf (tree.Named name) (typed.Constant v Int name.span)
    constant : {v longs : ℕ} {decimal unsigned : Bool} {t : IntType} {span : Span}
        → IsNumberOf (tree.Constant v decimal unsigned longs span) (typed.Constant (pos v) t span)
    character : {v : ℤ} {t : IntType} {span : Span}
        → IsNumberOf (tree.Character v span) (typed.Constant v t span)
    read : {a : Expression} {place : Place} {t : IntType}
        → IsPlaceOf a place → IsNumberOf a (typed.Read place t)
    one_operand : {operator : UnaryOperator} {o : UnOp} {a : Expression} {e : typed.Expression}
        {t : IntType} {span : Span}
        → unary_operator operator ≡ Some o → IsOperandOf a e
        → IsNumberOf (tree.Unary operator a span) (typed.Unary o t e span)
    negation : {a : Expression} {e : typed.Expression} {span : Span}
        → IsNumberOf a e → IsNumberOf (tree.Unary unary.Not a span) (typed.Not e span)
    cast : {type : TypeName} {a : Expression} {e : typed.Expression} {t : IntType} {span : Span}
        → IsNumberOf a e → IsNumberOf (tree.Cast type a span) (typed.Convert t true e span)
    two_operands : {operator : BinaryOperator} {o : Operator} {a b : Expression}
        {e f : typed.Expression} {t : IntType} {span : Span}
        → binary_operator operator ≡ Some o → IsOperandOf a e → IsOperandOf b f
        → IsNumberOf (tree.Binary operator a b span) (typed.Binary o t e f span)
    logical : {operator : BinaryOperator} {o : LogicOperator} {a b : Expression}
        {e f : typed.Expression} {span : Span}
        → logic_operator operator ≡ Some o → IsNumberOf a e → IsNumberOf b f
        → IsNumberOf (tree.Binary operator a b span) (typed.Logic o e f span)
    choice : {a b c : Expression} {e f g : typed.Expression} {t : IntType} {span : Span}
        → IsNumberOf a e → IsOperandOf b f → IsOperandOf c g
        → IsNumberOf (tree.Conditional a b c span) (typed.Choice e f g t span)
    call : {a : Expression} {k : FunctionCall} {t : IntType}
        → IsCallOf a k → IsNumberOf a (typed.Call k t)
    -- a unit without a fault declares mcdc_in without parameters, so nothing is given
    input : {name : Name} {given : Expressions} {span : Span}
        → is_input name ≡ true → IsNumberOf (tree.Call name given span) (typed.Input span)

  -- a number that is perhaps converted: the conversion stands where the number stands
  pub data IsOperandOf : Expression → typed.Expression → Type 0 where
    as_it_is : {a : Expression} {e : typed.Expression} → IsNumberOf a e → IsOperandOf a e
    converted : {a : Expression} {e : typed.Expression} {t : IntType}
        → IsNumberOf a e → IsOperandOf a (typed.Convert t false e (typed.span_of e))

  -- an object or a part of one
  pub data IsPlaceOf : Expression → Place → Type 0 where
    place_inside : {a : Expression} {place : Place} {span : Span}
        → IsPlaceOf a place → IsPlaceOf (tree.Parenthesized a span) place
    local : {name : Name} {slot : Slot} → IsPlaceOf (tree.Named name) (typed.Local slot name.span)
    static : {name : Name} {slot : Slot}
        → IsPlaceOf (tree.Named name) (typed.Static slot name.span)
    parameter : {a b : Expression} {array stride : ℕ} {e : typed.Expression} {at span : Span}
        → IsNameOf a at → IsNumberOf b e
        → IsPlaceOf (tree.Index a b span) (typed.Parameter array stride e span)
    item : {a b : Expression} {place : Place} {n stride : ℕ} {e : typed.Expression} {span : Span}
        → IsPlaceOf a place → IsNumberOf b e
        → IsPlaceOf (tree.Index a b span) (typed.Item place n stride e span)
    member : {a : Expression} {name : Name} {place : Place} {i offset : ℕ} {span : Span}
        → IsPlaceOf a place
        → IsPlaceOf (tree.Member a name span) (typed.Member place i offset span)

  -- a call, with all its arguments in their order
  pub data IsCallOf : Expression → FunctionCall → Type 0 where
    call_inside : {a : Expression} {k : FunctionCall} {span : Span}
        → IsCallOf a k → IsCallOf (tree.Parenthesized a span) k
    called : {name : Name} {given : Expressions} {f : ℕ} {all : Arguments} {copy : Option Slot}
        {span : Span}
        → AreArgumentsOf given all
        → IsCallOf (tree.Call name given span) (typed.call f all copy span)

  pub data AreArgumentsOf : Expressions → Arguments → Type 0 where
    no_arguments : AreArgumentsOf tree.no_expressions typed.no_arguments
    arguments : {a : Expression} {given : Expressions} {one : Argument} {all : Arguments}
        → IsArgumentOf a one → AreArgumentsOf given all
        → AreArgumentsOf (tree.expressions a given) (typed.arguments one all)

  pub data IsArgumentOf : Expression → Argument → Type 0 where
    number_argument : {a : Expression} {e : typed.Expression}
        → IsOperandOf a e → IsArgumentOf a (typed.NumberArgument e)
    structure_argument : {a : Expression} {value : StructureValue} {copy : Slot}
        → IsStructureOf a value → IsArgumentOf a (typed.StructureArgument value copy)
    array_argument : {a : Expression} {place : Place} {n : ℕ}
        → IsPlaceOf a place → IsArgumentOf a (typed.ArrayArgument place n)
    again_argument : {a : Expression} {array : ℕ} {at : Span}
        → IsNameOf a at → IsArgumentOf a (typed.AgainArgument array at)

  pub data IsStructureOf : Expression → StructureValue → Type 0 where
    stored : {a : Expression} {place : Place}
        → IsPlaceOf a place → IsStructureOf a (typed.Stored place)
    returned : {a : Expression} {k : FunctionCall}
        → IsCallOf a k → IsStructureOf a (typed.Returned k)

-- ---- effects (C17 6.5.16, 6.8.3)

pub data IsEffectOf : Expression → Effect → Type 0 where
  effect_inside : {a : Expression} {x : Effect} {span : Span}
      → IsEffectOf a x → IsEffectOf (tree.Parenthesized a span) x
  assignment : {a b : Expression} {place : Place} {e : typed.Expression} {t : IntType} {span : Span}
      → IsPlaceOf a place → IsOperandOf b e
      → IsEffectOf (tree.Assignment assign.Assign a b span) (typed.Assign place t e span)
  copy : {a b : Expression} {place : Place} {value : StructureValue} {n : ℕ} {span : Span}
      → IsPlaceOf a place → IsStructureOf b value
      → IsEffectOf (tree.Assignment assign.Assign a b span) (typed.Copy place value n span)
  update : {operator : AssignmentOperator} {o : Operator} {a b : Expression} {place : Place}
      {e : typed.Expression} {t common : IntType} {span : Span}
      → update_operator operator ≡ Some o → IsPlaceOf a place → IsOperandOf b e
      → IsEffectOf (tree.Assignment operator a b span) (typed.Update place t o common e span)
  step_after : {operator : StepOperator} {a : Expression} {place : Place} {e : typed.Expression}
      {t common : IntType} {span : Span}
      → IsPlaceOf a place → IsOneAt (last_two span) e
      → IsEffectOf (tree.PostfixStep operator a span)
      (typed.Update place t (step_operator operator) common e span)
  step_before : {operator : StepOperator} {a : Expression} {place : Place} {e : typed.Expression}
      {t common : IntType} {span : Span}
      → IsPlaceOf a place → IsOneAt (first_two span) e
      → IsEffectOf (tree.PrefixStep operator a span)
      (typed.Update place t (step_operator operator) common e span)
  number_effect : {a : Expression} {e : typed.Expression} {whole : Bool}
      → IsNumberOf a e → IsEffectOf a (typed.NumberEffect e whole)
  structure_effect : {a : Expression} {value : StructureValue} {whole : Bool}
      → IsStructureOf a value → IsEffectOf a (typed.StructureEffect value whole)
  call_effect : {a : Expression} {k : FunctionCall}
      → IsCallOf a k → IsEffectOf a (typed.CallEffect k)
  output : {name : Name} {a : Expression} {e : typed.Expression} {span : Span}
      → is_output name ≡ true → IsOperandOf a e
      → IsEffectOf (tree.Call name (tree.expressions a tree.no_expressions) span)
      (typed.Output e span)
  effect_choice : {a b c : Expression} {e : typed.Expression} {x y : Effect} {span : Span}
      → IsNumberOf a e → IsEffectOf b x → IsEffectOf c y
      → IsEffectOf (tree.Conditional a b c span) (typed.ChoiceEffect e x y span)
  discard : {type : TypeName} {a : Expression} {x : Effect} {span : Span}
      → IsEffectOf a x → IsEffectOf (tree.Cast type a span) (typed.Discard x span)
