-- Where the parts of a text stand that the table may put rows at: operands, counted statements and
-- declarations, labels, each `switch` and each `return`, in the bodies of functions.
use Rattle.std.specs.Prelude.{List, [], ◌∷◌, Option, Some, None}
use Rattle.mc_lex.specs.Tokens.{Tok}
use Rattle.mc_tree.specs.Tree.{Expression, Expressions, Initializer, Initializers, InitDeclarator}
use Rattle.mc_tree.specs.Tree.{Declaration, ForStart, Statement, BlockItems, Item}
use Rattle.mc_tree.specs.Tree as tree
use Rattle.reread_law_rows.specs.inserted.Fits.{IsOperandAmong, IsStatementAmong, IsDeclarationAmong}
use Rattle.reread_law_rows.specs.inserted.Fits.{IsLabelAmong, IsSwitchAmong, IsReturnAmong, ReturnsAmong}

-- ---- expressions, parentheses left out

abbrev mutual
  pub FitsIn : List Tok → Expression → Type 0
  FitsIn ts (tree.Named name) = IsOperandAmong ts name.span
  FitsIn ts (tree.Constant value decimal unsigned longs span) = IsOperandAmong ts span
  FitsIn ts (tree.Character value span) = IsOperandAmong ts span
  FitsIn ts (tree.Parenthesized a span) = FitsIn ts a
  FitsIn ts (tree.Call name all span) = IsOperandAmong ts span × FitInExpressions ts all
  FitsIn ts (tree.Index a b span) = IsOperandAmong ts span × FitsIn ts a × FitsIn ts b
  FitsIn ts (tree.Member a name span) = IsOperandAmong ts span × FitsIn ts a
  FitsIn ts (tree.PostfixStep operator a span) = IsOperandAmong ts span × FitsIn ts a
  FitsIn ts (tree.PrefixStep operator a span) = IsOperandAmong ts span × FitsIn ts a
  FitsIn ts (tree.Unary operator a span) = IsOperandAmong ts span × FitsIn ts a
  FitsIn ts (tree.Cast type a span) = IsOperandAmong ts span × FitsIn ts a
  FitsIn ts (tree.Binary operator a b span) = IsOperandAmong ts span × FitsIn ts a × FitsIn ts b
  FitsIn ts (tree.Conditional a b c span) =
      IsOperandAmong ts span × FitsIn ts a × FitsIn ts b × FitsIn ts c
  FitsIn ts (tree.Assignment operator a b span) =
      IsOperandAmong ts span × FitsIn ts a × FitsIn ts b
  FitsIn ts (tree.Comma all span) = IsOperandAmong ts span × FitInExpressions ts all

  pub FitInExpressions : List Tok → Expressions → Type 0
  FitInExpressions ts tree.no_expressions = Unit {0}
  FitInExpressions ts (tree.expressions a rest) = FitsIn ts a × FitInExpressions ts rest

abbrev pub FitsInOptional : List Tok → Option Expression → Type 0
FitsInOptional ts None = Unit {0}
FitsInOptional ts (Some a) = FitsIn ts a

-- ---- declarations

abbrev mutual
  pub FitsInInitializer : List Tok → Initializer → Type 0
  FitsInInitializer ts (tree.Single a) = FitsIn ts a
  FitsInInitializer ts (tree.Braced all span) = FitInInitializers ts all

  pub FitInInitializers : List Tok → Initializers → Type 0
  FitInInitializers ts tree.no_initializers = Unit {0}
  FitInInitializers ts (tree.initializers one rest) =
      FitsInInitializer ts one × FitInInitializers ts rest

abbrev pub FitInObjects : List Tok → List InitDeclarator → Type 0
FitInObjects ts [] = Unit {0}
FitInObjects ts (tree.bare d ∷ rest) = FitInObjects ts rest
FitInObjects ts (tree.initialized d value ∷ rest) =
    FitsInInitializer ts value × FitInObjects ts rest

abbrev pub FitsInDeclaration : List Tok → Declaration → Type 0
FitsInDeclaration ts (tree.declaration s all span) = FitInObjects ts all

-- a declaration in a block that declares something
abbrev pub FitsAsLocal : List Tok → Declaration → Type 0
FitsAsLocal ts (tree.declaration s [] span) = Unit {0}
FitsAsLocal ts (tree.declaration s (one ∷ rest) span) = IsDeclarationAmong ts span

abbrev pub FitsInStart : List Tok → ForStart → Type 0
FitsInStart ts (tree.StartsLocal d) = FitsInDeclaration ts d
FitsInStart ts (tree.StartsExpression a) = FitsInOptional ts a

-- ---- statements

abbrev mutual
  pub FitsInStatement : List Tok → Statement → Type 0
  FitsInStatement ts (tree.Compound b span) = FitInBlock ts b
  FitsInStatement ts (tree.Null span) = IsStatementAmong ts span
  FitsInStatement ts (tree.ExpressionStatement a span) = IsStatementAmong ts span × FitsIn ts a
  FitsInStatement ts (tree.If a s span) =
      IsStatementAmong ts span × FitsIn ts a × FitsInStatement ts s
  FitsInStatement ts (tree.IfElse a s u span) =
      IsStatementAmong ts span × FitsIn ts a × FitsInStatement ts s × FitsInStatement ts u
  FitsInStatement ts (tree.Switch a s span) =
      IsStatementAmong ts span × IsSwitchAmong ts span × FitsIn ts a × FitsInStatement ts s
  FitsInStatement ts (tree.While a s span) =
      IsStatementAmong ts span × FitsIn ts a × FitsInStatement ts s
  FitsInStatement ts (tree.DoWhile s a span) =
      IsStatementAmong ts span × FitsInStatement ts s × FitsIn ts a
  FitsInStatement ts (tree.For start a b s span) =
      IsStatementAmong ts span × FitsInStart ts start × FitsInOptional ts a × FitsInOptional ts b
      × FitsInStatement ts s
  FitsInStatement ts (tree.Case a label s span) = IsLabelAmong ts label × FitsInStatement ts s
  FitsInStatement ts (tree.Default label s span) = IsLabelAmong ts label × FitsInStatement ts s
  FitsInStatement ts (tree.Label name s span) = FitsInStatement ts s
  FitsInStatement ts (tree.Goto name span) = IsStatementAmong ts span
  FitsInStatement ts (tree.Break span) = IsStatementAmong ts span
  FitsInStatement ts (tree.Continue span) = IsStatementAmong ts span
  FitsInStatement ts (tree.Return None span) =
      IsStatementAmong ts span × IsReturnAmong ts span []
  FitsInStatement ts (tree.Return (Some a) span) =
      IsStatementAmong ts span × ReturnsAmong ts span × FitsIn ts a

  pub FitInBlock : List Tok → BlockItems → Type 0
  FitInBlock ts tree.no_block_items = Unit {0}
  FitInBlock ts (tree.local d rest) =
      FitsAsLocal ts d × FitsInDeclaration ts d × FitInBlock ts rest
  FitInBlock ts (tree.statement s rest) = FitsInStatement ts s × FitInBlock ts rest

-- ---- items

abbrev pub FitsInItem : List Tok → Item → Type 0
FitsInItem ts (tree.Declared d) = Unit {0}
FitsInItem ts (tree.Defined s d b span) = FitInBlock ts b

abbrev pub FitInUnit : List Tok → List Item → Type 0
FitInUnit ts [] = Unit {0}
FitInUnit ts (one ∷ rest) = FitsInItem ts one × FitInUnit ts rest
