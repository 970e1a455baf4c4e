-- Typed trees with probes: the trees of `mc_typed`, with the places at which the instrumented text
-- has a probe. `None` is a place without one.
use Rattle.std.specs.Prelude.{ℕ, ℤ, Bool, List, Option}
use Rattle.mc_span.specs.declared.span.Span.{Span}
use Rattle.mc_value.specs.declared.int_type.IntType.{IntType}
use Rattle.mc_value.specs.declared.operators.UnOp.{UnOp}
use Rattle.mc_typed.specs.declared.operators.Operator.{Operator}
use Rattle.mc_typed.specs.declared.operators.LogicOperator.{LogicOperator}
use Rattle.mc_typed.specs.declared.expressions.Slot.{Slot}
use Rattle.mc_typed.specs.declared.probes.Probe as code
use Rattle.mc_typed.specs.declared.probes.Mark.{Mark}
use Rattle.mc_typed.specs.Layout.{ObjectType}
use Rattle.mc_typed.specs.Tree.{ParameterType, ResultType, Object, StaticObject}

-- ---- expressions (C17 6.5)

mutual
  pub data Place : Type 0 where
    Local : Slot → Span → Place
    Static : Slot → Span → Place
    Parameter : ℕ → ℕ → Expression → Span → Place
    Item : Place → ℕ → ℕ → Expression → Span → Place
    Member : Place → ℕ → ℕ → Span → Place

  pub data Expression : Type 0 where
    Constant : ℤ → IntType → Span → Expression
    Read : Place → IntType → Expression
    Unary : UnOp → IntType → Expression → Span → Expression
    Convert : IntType → Bool → Expression → Span → Expression
    Not : Expression → Span → Expression
    Binary : Operator → IntType → Expression → Expression → Span → Expression
    Logic : LogicOperator → Expression → Expression → Span → Expression
    Choice : Expression → Expression → Expression → IntType → Span → Expression
    Call : FunctionCall → IntType → Expression
    Input : Span → Expression
    -- a probe round its operand
    Probe : code.Probe → Expression → Expression

  pub data StructureValue : Type 0 where
    Stored : Place → StructureValue
    Returned : FunctionCall → StructureValue

  pub data FunctionCall : Type 0 where
    call : ℕ → Arguments → Option Slot → Span → FunctionCall

  pub data Argument : Type 0 where
    NumberArgument : Expression → Argument
    StructureArgument : StructureValue → Slot → Argument
    ArrayArgument : Place → ℕ → Argument
    AgainArgument : ℕ → Span → Argument

  pub data Arguments : Type 0 where
    no_arguments : Arguments
    arguments : Argument → Arguments → Arguments

-- ---- effects (C17 6.8.3)

pub data Effect : Type 0 where
  Assign : Place → IntType → Expression → Span → Effect
  Update : Place → IntType → Operator → IntType → Expression → Span → Effect
  Copy : Place → StructureValue → ℕ → Span → Effect
  NumberEffect : Expression → Bool → Effect
  StructureEffect : StructureValue → Bool → Effect
  CallEffect : FunctionCall → Effect
  Output : Expression → Span → Effect
  ChoiceEffect : Expression → Effect → Effect → Span → Effect
  Discard : Effect → Span → Effect

-- ---- initializers (C17 6.7.9)

mutual
  pub data Initializer : Type 0 where
    NumberInitializer : Expression → Initializer
    StructureInitializer : StructureValue → ℕ → Initializer
    ListInitializer : Initializers → ℕ → Initializer
    ZeroInitializer : Expression → ℕ → Initializer

  pub data Initializers : Type 0 where
    no_initializers : Initializers
    initializers : Initializer → Initializers → Initializers

-- ---- statements (C17 6.8)

pub record Declarator : Type 0 where
  pub slot : Slot
  pub cells : ℕ
  pub value : Option Initializer

pub data ForStart : Type 0 where
  StartEffects : List Effect → ForStart
  StartDeclaration : List Declarator → ForStart

pub data ReturnValue : Type 0 where
  ReturnNothing : ReturnValue
  ReturnNumber : Expression → ReturnValue
  ReturnStructure : StructureValue → ℕ → ReturnValue

-- The last part of a statement is the bit of its probe. A label and an absent `default`, which is
-- the last part of `Switch`, have a mark. `Return` has the bit of its exit after its own.
mutual
  pub data Statement : Type 0 where
    Compound : Statements → Span → Statement
    Label : Option ℤ → Span → Option Mark → Statement
    Declaration : List Declarator → Span → Option ℕ → Statement
    Null : Span → Option ℕ → Statement
    EffectStatement : Effect → Span → Option ℕ → Statement
    If : Expression → Statement → Span → Span → Option ℕ → Statement
    IfElse : Expression → Statement → Statement → Span → Span → Option ℕ → Statement
    Switch : Expression → Statements → Span → Span → Option ℕ → Option Mark → Statement
    For : ForStart → Option Expression → List Effect → Statement → Span → Span → Option ℕ →
        Statement
    DoWhile : Statement → Expression → Span → Span → Option ℕ → Statement
    Break : Span → Option ℕ → Statement
    Continue : Span → Option ℕ → Statement
    Return : ReturnValue → Span → Option ℕ → Option ℕ → Statement

  pub data Statements : Type 0 where
    no_statements : Statements
    statements : Statement → Statements → Statements

-- ---- programs

-- a function, how many registers an activation has, and the bits of its entry and of the exit at
-- its closing brace
pub record Function : Type 0 where
  pub name : List ℕ
  pub name_span : Span
  pub parameters : List ParameterType
  pub result : ResultType
  pub objects : List Object
  pub body : Statements
  pub closing : Span
  pub registers : ℕ
  pub entry : Option ℕ
  pub exit : Option ℕ

pub record Program : Type 0 where
  pub functions : List Function
  pub statics : List StaticObject
  pub structures : List ObjectType

-- a program with probes, and how many bits there are
pub record Tree : Type 0 where
  pub program : Program
  pub bits : ℕ
