-- Typed trees, without where they lie in memory and without probes.
use Rattle.std.specs.Prelude.{ℕ, ℤ, Bool, List, Option}
use Rattle.mc_span.specs.declared.span.Span.{Span}
use Rattle.mc_value.specs.declared.int_type.IntType.{IntType}
use Rattle.mc_value.specs.declared.operators.UnOp.{UnOp}
use Rattle.mc_typed.specs.declared.operators.Operator.{Operator}
use Rattle.mc_typed.specs.declared.operators.LogicOperator.{LogicOperator}
use Rattle.mc_typed.specs.declared.expressions.Slot.{Slot}
use Rattle.mc_typed.specs.Layout.{ObjectType}

-- ---- expressions (C17 6.5)

mutual
  -- what designates an object
  pub data Place : Type 0 where
    Local : Slot → Span → Place
    Static : Slot → Span → Place
    -- an element of the array that an array parameter names: the parameter, the cells of an
    -- element, the index
    Parameter : ℕ → ℕ → Expression → Span → Place
    -- an element of an array: the array, its length, the cells of an element, the index
    Item : Place → ℕ → ℕ → Expression → Span → Place
    -- a member of a structure: the structure, the member's number, after how many cells it begins
    Member : Place → ℕ → ℕ → Span → Place

  -- what has an integer as its value
  pub data Expression : Type 0 where
    Constant : ℤ → IntType → Span → Expression
    Read : Place → IntType → Expression
    Unary : UnOp → IntType → Expression → Span → Expression
    -- to a type; a cast where it is written, else implied
    Convert : IntType → Bool → Expression → Span → Expression
    Not : Expression → Span → Expression
    Binary : Operator → IntType → Expression → Expression → Span → Expression
    Logic : LogicOperator → Expression → Expression → Span → Expression
    Choice : Expression → Expression → Expression → IntType → Span → Expression
    Call : FunctionCall → IntType → Expression
    Input : Span → Expression

  -- what has a structure as its value
  pub data StructureValue : Type 0 where
    Stored : Place → StructureValue
    Returned : FunctionCall → StructureValue

  -- the function, the arguments, the temporary object for a structure that is returned
  pub data FunctionCall : Type 0 where
    call : ℕ → Arguments → Option Slot → Span → FunctionCall

  pub data Argument : Type 0 where
    NumberArgument : Expression → Argument
    -- with the temporary object that takes the copy
    StructureArgument : StructureValue → Slot → Argument
    -- a whole array and its length
    ArrayArgument : Place → ℕ → Argument
    -- the array that an array parameter of the caller names
    AgainArgument : ℕ → Span → Argument

  pub data Arguments : Type 0 where
    no_arguments : Arguments
    arguments : Argument → Arguments → Arguments

-- where a place and an expression stand
abbrev pub span_of_place : Place → Span
span_of_place (Local slot span) = span
span_of_place (Static slot span) = span
span_of_place (Parameter array stride index span) = span
span_of_place (Item array n stride index span) = span
span_of_place (Member structure i offset span) = span

abbrev pub span_of_call : FunctionCall → Span
span_of_call (call f given result span) = span

abbrev pub span_of : Expression → Span
span_of (Constant v a span) = span
span_of (Read place a) = span_of_place place
span_of (Unary operator a e span) = span
span_of (Convert a written e span) = span
span_of (Not e span) = span
span_of (Binary operator a e f span) = span
span_of (Logic operator e f span) = span
span_of (Choice e f g a span) = span
span_of (Call k a) = span_of_call k
span_of (Input span) = span

-- ---- effects (C17 6.8.3)

pub data Effect : Type 0 where
  Assign : Place → IntType → Expression → Span → Effect
  -- the target and its type, the operator and the type of its left operand, the right operand
  Update : Place → IntType → Operator → IntType → Expression → Span → Effect
  Copy : Place → StructureValue → ℕ → Span → Effect
  -- whole: no part of a void `?:`
  NumberEffect : Expression → Bool → Effect
  StructureEffect : StructureValue → Bool → Effect
  CallEffect : FunctionCall → Effect
  Output : Expression → Span → Effect
  ChoiceEffect : Expression → Effect → Effect → Span → Effect
  Discard : Effect → Span → Effect

-- ---- initializers (C17 6.7.9)

mutual
  pub data Initializer : Type 0 where
    NumberInitializer : Expression → Initializer
    StructureInitializer : StructureValue → ℕ → Initializer
    ListInitializer : Initializers → ℕ → Initializer
    -- the list `{E}` with the constant 0: the whole object becomes 0
    ZeroInitializer : Expression → ℕ → Initializer

  pub data Initializers : Type 0 where
    no_initializers : Initializers
    initializers : Initializer → Initializers → Initializers

-- ---- statements (C17 6.8)

-- an object that is declared, its cells, its initializer
pub record Declarator : Type 0 where
  pub slot : Slot
  pub cells : ℕ
  pub value : Option Initializer

pub data ForStart : Type 0 where
  StartEffects : List Effect → ForStart
  StartDeclaration : List Declarator → ForStart

pub data ReturnValue : Type 0 where
  ReturnNothing : ReturnValue
  ReturnNumber : Expression → ReturnValue
  ReturnStructure : StructureValue → ℕ → ReturnValue

-- `If` to `DoWhile` have the place of their keyword before that of the whole statement
mutual
  pub data Statement : Type 0 where
    Compound : Statements → Span → Statement
    -- `case` with its value, or `default`
    Label : Option ℤ → Span → Statement
    Declaration : List Declarator → Span → Statement
    Null : Span → Statement
    EffectStatement : Effect → Span → Statement
    If : Expression → Statement → Span → Span → Statement
    IfElse : Expression → Statement → Statement → Span → Span → Statement
    Switch : Expression → Statements → Span → Span → Statement
    -- `while` too
    For : ForStart → Option Expression → List Effect → Statement → Span → Span → Statement
    DoWhile : Statement → Expression → Span → Span → Statement
    Break : Span → Statement
    Continue : Span → Statement
    Return : ReturnValue → Span → Statement

  pub data Statements : Type 0 where
    no_statements : Statements
    statements : Statement → Statements → Statements

-- ---- programs

pub data ParameterType : Type 0 where
  NumberParameter : IntType → ParameterType
  StructureParameter : ObjectType → ParameterType
  -- the element type of the array that the parameter names
  ArrayParameter : ObjectType → ParameterType

pub data ResultType : Type 0 where
  NoResult : ResultType
  NumberResult : IntType → ResultType
  StructureResult : ObjectType → ResultType

-- an object, its cells, and the cell with which it begins
pub record Object : Type 0 where
  pub object_type : ObjectType
  pub cells : ℕ
  pub start : ℕ

-- an object with static storage duration, and the initial value of each of its cells
pub record StaticObject : Type 0 where
  pub object : Object
  pub initial : List ℤ

pub record Function : Type 0 where
  pub name : List ℕ
  pub name_span : Span
  pub parameters : List ParameterType
  pub result : ResultType
  pub objects : List Object
  pub body : Statements
  pub closing : Span

pub record Program : Type 0 where
  pub functions : List Function
  pub statics : List StaticObject
  pub structures : List ObjectType
