-- The tree of a translation unit, without where it lies in memory: one case for each alternative of
-- the grammar, parts in the order of the text. Parentheses leave a node.
use Rattle.std.specs.Prelude.{ℕ, ℤ, Bool, List, Option}
use Rattle.mc_span.specs.declared.span.Span.{Span}
use Rattle.mc_tree.specs.declared.expressions.unary_operator.UnaryOperator.{UnaryOperator}
use Rattle.mc_tree.specs.declared.expressions.step_operator.StepOperator.{StepOperator}
use Rattle.mc_tree.specs.declared.expressions.binary_operator.BinaryOperator.{BinaryOperator}
use Rattle.mc_tree.specs.declared.expressions.assignment_operator.AssignmentOperator.{AssignmentOperator}
use Rattle.mc_tree.specs.declared.declarations.specifier_word.SpecifierWord.{SpecifierWord}

-- a name and its place
pub record Name : Type 0 where
  pub text : List ℕ
  pub span : Span

mutual
  -- expressions (C17 6.5)
  pub data Expression : Type 0 where
    Named : Name → Expression
    -- its value, whether it is decimal, whether it has a `u`, how many `l` it has
    Constant : ℕ → Bool → Bool → ℕ → Span → Expression
    Character : ℤ → Span → Expression
    Parenthesized : Expression → Span → Expression
    Call : Name → Expressions → Span → Expression
    Index : Expression → Expression → Span → Expression
    Member : Expression → Name → Span → Expression
    PostfixStep : StepOperator → Expression → Span → Expression
    PrefixStep : StepOperator → Expression → Span → Expression
    Unary : UnaryOperator → Expression → Span → Expression
    Cast : TypeName → Expression → Span → Expression
    Binary : BinaryOperator → Expression → Expression → Span → Expression
    Conditional : Expression → Expression → Expression → Span → Expression
    Assignment : AssignmentOperator → Expression → Expression → Span → Expression
    -- two or more operands, from the left
    Comma : Expressions → Span → Expression

  pub data Expressions : Type 0 where
    no_expressions : Expressions
    expressions : Expression → Expressions → Expressions

  -- specifiers and `*` (C17 6.7.7)
  pub data TypeName : Type 0 where
    type_name : Specifiers → ℕ → Span → TypeName

  -- declaration specifiers (C17 6.7)
  pub data Specifier : Type 0 where
    Word : SpecifierWord → Span → Specifier
    TypedefName : Name → Specifier
    StructureTag : Name → Span → Specifier
    Structure : Option Name → Members → Span → Specifier
    EnumerationTag : Name → Span → Specifier
    Enumeration : Option Name → Enumerators → Span → Specifier

  pub data Specifiers : Type 0 where
    no_specifiers : Specifiers
    specifiers : Specifier → Specifiers → Specifiers

  -- members of a structure (C17 6.7.2.1)
  pub data StructMember : Type 0 where
    member : Specifiers → Declarators → Span → StructMember

  pub data Members : Type 0 where
    no_members : Members
    members : StructMember → Members → Members

  -- constants of an enumeration, perhaps with a value (C17 6.7.2.2)
  pub data Enumerator : Type 0 where
    enumerator : Name → Enumerator
    valued_enumerator : Name → Expression → Enumerator

  pub data Enumerators : Type 0 where
    no_enumerators : Enumerators
    enumerators : Enumerator → Enumerators → Enumerators

  -- how many `*`, the name, and what stands after it (C17 6.7.6)
  pub data Declarator : Type 0 where
    object : ℕ → Name → ArrayLengths → Span → Declarator
    function : ℕ → Name → Parameters → Span → Declarator

  pub data Declarators : Type 0 where
    no_declarators : Declarators
    declarators : Declarator → Declarators → Declarators

  -- `[ ]` and `[ n ]`, from the left (C17 6.7.6.2)
  pub data ArrayLengths : Type 0 where
    no_lengths : ArrayLengths
    absent_length : ArrayLengths → ArrayLengths
    given_length : Expression → ArrayLengths → ArrayLengths

  -- what stands between the parentheses of a function's declarator, and where they stand (C17
  -- 6.7.6.3)
  pub data Parameters : Type 0 where
    Empty : Span → Parameters
    Void : Span → Parameters
    Listed : ParameterList → Span → Parameters

  pub data Parameter : Type 0 where
    parameter : Specifiers → ℕ → Option Name → ArrayLengths → Span → Parameter

  pub data ParameterList : Type 0 where
    no_parameters : ParameterList
    parameters : Parameter → ParameterList → ParameterList

-- initializers (C17 6.7.9)
mutual
  pub data Initializer : Type 0 where
    Single : Expression → Initializer
    Braced : Initializers → Span → Initializer

  pub data Initializers : Type 0 where
    no_initializers : Initializers
    initializers : Initializer → Initializers → Initializers

pub data InitDeclarator : Type 0 where
  bare : Declarator → InitDeclarator
  initialized : Declarator → Initializer → InitDeclarator

-- a declaration that is not a function definition (C17 6.7)
pub data Declaration : Type 0 where
  declaration : Specifiers → List InitDeclarator → Span → Declaration

-- the first part of a `for` (C17 6.8.5.3)
pub data ForStart : Type 0 where
  StartsLocal : Declaration → ForStart
  StartsExpression : Option Expression → ForStart

-- statements (C17 6.8)
mutual
  pub data Statement : Type 0 where
    Compound : BlockItems → Span → Statement
    Null : Span → Statement
    ExpressionStatement : Expression → Span → Statement
    If : Expression → Statement → Span → Statement
    IfElse : Expression → Statement → Statement → Span → Statement
    Switch : Expression → Statement → Span → Statement
    While : Expression → Statement → Span → Statement
    DoWhile : Statement → Expression → Span → Statement
    For : ForStart → Option Expression → Option Expression → Statement → Span → Statement
    -- the place of the label goes through its colon
    Case : Expression → Span → Statement → Span → Statement
    Default : Span → Statement → Span → Statement
    Label : Name → Statement → Span → Statement
    Goto : Name → Span → Statement
    Break : Span → Statement
    Continue : Span → Statement
    Return : Option Expression → Span → Statement

  pub data BlockItems : Type 0 where
    no_block_items : BlockItems
    local : Declaration → BlockItems → BlockItems
    statement : Statement → BlockItems → BlockItems

-- external declarations (C17 6.9)
pub data Item : Type 0 where
  Declared : Declaration → Item
  -- specifiers, a function's declarator, and the body
  Defined : Specifiers → Declarator → BlockItems → Span → Item

-- where an expression stands
abbrev pub span_of : Expression → Span
span_of (Named name) = name.span
span_of (Constant value decimal unsigned longs span) = span
span_of (Character value span) = span
span_of (Parenthesized inner span) = span
span_of (Call name arguments span) = span
span_of (Index array index span) = span
span_of (Member object_ name span) = span
span_of (PostfixStep operator operand span) = span
span_of (PrefixStep operator operand span) = span
span_of (Unary operator operand span) = span
span_of (Cast type operand span) = span
span_of (Binary operator left right span) = span
span_of (Conditional test chosen other span) = span
span_of (Assignment operator left right span) = span
span_of (Comma operands span) = span

-- the name that a declarator declares
abbrev pub name_of : Declarator → Name
name_of (object stars name all span) = name
name_of (function stars name all span) = name

-- where a statement stands
abbrev pub span_of_statement : Statement → Span
span_of_statement (Compound items span) = span
span_of_statement (Null span) = span
span_of_statement (ExpressionStatement value span) = span
span_of_statement (If test chosen span) = span
span_of_statement (IfElse test chosen other span) = span
span_of_statement (Switch value body span) = span
span_of_statement (While test body span) = span
span_of_statement (DoWhile body test span) = span
span_of_statement (For start test step body span) = span
span_of_statement (Case value label body span) = span
span_of_statement (Default label body span) = span
span_of_statement (Label name body span) = span
span_of_statement (Goto name span) = span
span_of_statement (Break span) = span
span_of_statement (Continue span) = span
span_of_statement (Return value span) = span

-- where a specifier stands
abbrev pub span_of_specifier : Specifier → Span
span_of_specifier (Word word span) = span
span_of_specifier (TypedefName name) = name.span
span_of_specifier (StructureTag tag span) = span
span_of_specifier (Structure tag all span) = span
span_of_specifier (EnumerationTag tag span) = span
span_of_specifier (Enumeration tag all span) = span

-- the parentheses of a function's declarator, with what stands between them
abbrev pub span_of_parameters : Parameters → Span
span_of_parameters (Empty span) = span
span_of_parameters (Void span) = span
span_of_parameters (Listed all span) = span
