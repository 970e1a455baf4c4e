-- Where decisions stand: their roots and conditions stand where expressions of the source stand.
use Rattle.std.specs.Prelude.{◌≡◌, ℕ, List, [], ◌∷◌, Option, Some, None, Contains}
use Rattle.mc_span.specs.declared.span.Span.{Span}
use Rattle.mc_tree.specs.Tree.{Expression, Expressions, Initializer, Initializers, InitDeclarator, Declaration, ForStart, Statement, BlockItems, Item}
use Rattle.mc_tree.specs.Tree as tree
use Rattle.mc_typed.specs.Tree.{Program}
use Rattle.decide_rules.specs.Nodes.{Node, span_of}
use Rattle.decide_rules.specs.Roots.{Place, Found, IsRoot}
use Rattle.decide_rules.specs.Conditions.{IsCondition}
use Rattle.types_rules.specs.Typing.{typing_of}

-- ---- what holds of the place of each expression of a source, parentheses left out

abbrev mutual
  pub Each : (Span → Type 0) → Expression → Type 0
  Each Has (tree.Named name) = Has name.span
  Each Has (tree.Constant v decimal unsigned longs span) = Has span
  Each Has (tree.Character v span) = Has span
  Each Has (tree.Parenthesized a span) = Each Has a
  Each Has (tree.Call name given span) = Has span × EachOf Has given
  Each Has (tree.Index a b span) = Has span × Each Has a × Each Has b
  Each Has (tree.Member a name span) = Has span × Each Has a
  Each Has (tree.PostfixStep operator a span) = Has span × Each Has a
  Each Has (tree.PrefixStep operator a span) = Has span × Each Has a
  Each Has (tree.Unary operator a span) = Has span × Each Has a
  Each Has (tree.Cast type a span) = Has span × Each Has a
  Each Has (tree.Binary operator a b span) = Has span × Each Has a × Each Has b
  Each Has (tree.Conditional a b c span) = Has span × Each Has a × Each Has b × Each Has c
  Each Has (tree.Assignment operator a b span) = Has span × Each Has a × Each Has b
  Each Has (tree.Comma operands span) = EachOf Has operands

  pub EachOf : (Span → Type 0) → Expressions → Type 0
  EachOf Has tree.no_expressions = Unit {0}
  EachOf Has (tree.expressions a rest) = Each Has a × EachOf Has rest

abbrev pub EachOptional : (Span → Type 0) → Option Expression → Type 0
EachOptional Has None = Unit {0}
EachOptional Has (Some a) = Each Has a

abbrev mutual
  pub EachInitial : (Span → Type 0) → Initializer → Type 0
  EachInitial Has (tree.Single a) = Each Has a
  EachInitial Has (tree.Braced items span) = EachInitials Has items

  pub EachInitials : (Span → Type 0) → Initializers → Type 0
  EachInitials Has tree.no_initializers = Unit {0}
  EachInitials Has (tree.initializers i rest) = EachInitial Has i × EachInitials Has rest

abbrev pub EachObject : (Span → Type 0) → List InitDeclarator → Type 0
EachObject Has [] = Unit {0}
EachObject Has (tree.bare d ∷ rest) = EachObject Has rest
EachObject Has (tree.initialized d value ∷ rest) = EachInitial Has value × EachObject Has rest

abbrev pub EachDeclared : (Span → Type 0) → Declaration → Type 0
EachDeclared Has (tree.declaration words ds span) = EachObject Has ds

abbrev pub EachStart : (Span → Type 0) → ForStart → Type 0
EachStart Has (tree.StartsLocal d) = EachDeclared Has d
EachStart Has (tree.StartsExpression a) = EachOptional Has a

abbrev mutual
  pub EachStated : (Span → Type 0) → Statement → Type 0
  EachStated Has (tree.Compound items span) = EachItem Has items
  EachStated Has (tree.Null span) = Unit {0}
  EachStated Has (tree.ExpressionStatement a span) = Each Has a
  EachStated Has (tree.If a s span) = Each Has a × EachStated Has s
  EachStated Has (tree.IfElse a s u span) = Each Has a × EachStated Has s × EachStated Has u
  EachStated Has (tree.Switch a s span) = Each Has a × EachStated Has s
  EachStated Has (tree.While a s span) = Each Has a × EachStated Has s
  EachStated Has (tree.DoWhile s a span) = EachStated Has s × Each Has a
  EachStated Has (tree.For start a b s span) =
      EachStart Has start × EachOptional Has a × EachOptional Has b × EachStated Has s
  EachStated Has (tree.Case a label s span) = EachStated Has s
  EachStated Has (tree.Default label s span) = EachStated Has s
  EachStated Has (tree.Label name s span) = EachStated Has s
  EachStated Has (tree.Goto name span) = Unit {0}
  EachStated Has (tree.Break span) = Unit {0}
  EachStated Has (tree.Continue span) = Unit {0}
  EachStated Has (tree.Return a span) = EachOptional Has a

  pub EachItem : (Span → Type 0) → BlockItems → Type 0
  EachItem Has tree.no_block_items = Unit {0}
  EachItem Has (tree.local d rest) = EachDeclared Has d × EachItem Has rest
  EachItem Has (tree.statement s rest) = EachStated Has s × EachItem Has rest

abbrev pub EachInUnit : (Span → Type 0) → List Item → Type 0
EachInUnit Has [] = Unit {0}
EachInUnit Has (tree.Declared d ∷ rest) = EachInUnit Has rest
EachInUnit Has (tree.Defined words d body span ∷ rest) = EachItem Has body × EachInUnit Has rest

-- ---- the law

-- A list of places that has those of all expressions in the bodies of a unit has that of each root
-- of a decision, and those of its conditions.
abbrev pub DecisionsStandInTheSource : Type 0
DecisionsStandInTheSource =
    (spans : List Span) (items : List Item) (p : Program) (f : Found)
    → EachInUnit (Contains spans) items → typing_of items ≡ Some p → IsRoot p.functions f
    → Contains spans (span_of f.node)
    × ((k : ℕ) (place : Place) (x : Node) → IsCondition f.node k place x
    → Contains spans (span_of x))
