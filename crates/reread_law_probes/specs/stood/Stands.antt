-- The places of the expressions in the initializers and statements of a text, in the order of the
-- text: that of an expression before those of its parts. Each `++` and `--` has a place too, in its
-- expression.
use Rattle.std.specs.Prelude.{List, [], ◌∷◌, Option, Some, None}
use Rattle.mc_span.specs.declared.span.Span.{Span}
use Rattle.mc_tree.specs.Tree.{Expression, Expressions, Initializer, Initializers, InitDeclarator}
use Rattle.mc_tree.specs.Tree.{Declaration, ForStart, Statement, BlockItems, Item}
use Rattle.mc_tree.specs.Tree as tree
use Rattle.reread_law_texts.specs.apart.Places.{Spans}
use Rattle.laws_types.specs.Source.{first_two, last_two}

-- ---- expressions: what stands in the name of a type is none of their parts

abbrev mutual
  pub stands : Expression → Spans
  stands (tree.Named name) later = name.span ∷ later
  stands (tree.Constant value decimal unsigned longs span) later = span ∷ later
  stands (tree.Character value span) later = span ∷ later
  stands (tree.Parenthesized a span) later = span ∷ stands a later
  stands (tree.Call name all span) later = span ∷ stands_in_expressions all later
  stands (tree.Index a b span) later = span ∷ stands a (stands b later)
  stands (tree.Member a name span) later = span ∷ stands a later
  stands (tree.PostfixStep operator a span) later = span ∷ stands a (last_two span ∷ later)
  stands (tree.PrefixStep operator a span) later = span ∷ first_two span ∷ stands a later
  stands (tree.Unary operator a span) later = span ∷ stands a later
  stands (tree.Cast type a span) later = span ∷ stands a later
  stands (tree.Binary operator a b span) later = span ∷ stands a (stands b later)
  stands (tree.Conditional a b c span) later = span ∷ stands a (stands b (stands c later))
  stands (tree.Assignment operator a b span) later = span ∷ stands a (stands b later)
  stands (tree.Comma all span) later = span ∷ stands_in_expressions all later

  pub stands_in_expressions : Expressions → Spans
  stands_in_expressions tree.no_expressions later = later
  stands_in_expressions (tree.expressions a rest) later =
      stands a (stands_in_expressions rest later)

-- ---- declarations: the values of initializers

abbrev mutual
  pub stands_in_initializer : Initializer → Spans
  stands_in_initializer (tree.Single a) later = stands a later
  stands_in_initializer (tree.Braced all span) later = stands_in_initializers all later

  pub stands_in_initializers : Initializers → Spans
  stands_in_initializers tree.no_initializers later = later
  stands_in_initializers (tree.initializers one rest) later =
      stands_in_initializer one (stands_in_initializers rest later)

abbrev pub stands_in_init_declarator : InitDeclarator → Spans
stands_in_init_declarator (tree.bare d) later = later
stands_in_init_declarator (tree.initialized d value) later = stands_in_initializer value later

abbrev pub stands_in_init_declarators : List InitDeclarator → Spans
stands_in_init_declarators [] later = later
stands_in_init_declarators (one ∷ rest) later =
    stands_in_init_declarator one (stands_in_init_declarators rest later)

abbrev pub stands_in_declaration : Declaration → Spans
stands_in_declaration (tree.declaration s all span) later = stands_in_init_declarators all later

-- ---- statements

abbrev pub stands_in_optional : Option Expression → Spans
stands_in_optional None later = later
stands_in_optional (Some a) later = stands a later

abbrev pub stands_in_start : ForStart → Spans
stands_in_start (tree.StartsLocal d) later = stands_in_declaration d later
stands_in_start (tree.StartsExpression a) later = stands_in_optional a later

abbrev mutual
  pub stands_in_statement : Statement → Spans
  stands_in_statement (tree.Compound b span) later = stands_in_block b later
  stands_in_statement (tree.Null span) later = later
  stands_in_statement (tree.ExpressionStatement a span) later = stands a later
  stands_in_statement (tree.If a s span) later = stands a (stands_in_statement s later)
  stands_in_statement (tree.IfElse a s u span) later =
      stands a (stands_in_statement s (stands_in_statement u later))
  stands_in_statement (tree.Switch a s span) later = stands a (stands_in_statement s later)
  stands_in_statement (tree.While a s span) later = stands a (stands_in_statement s later)
  stands_in_statement (tree.DoWhile s a span) later = stands_in_statement s (stands a later)
  stands_in_statement (tree.For start a b s span) later =
      stands_in_start start (stands_in_optional a (stands_in_optional b
      (stands_in_statement s later)))
  stands_in_statement (tree.Goto name span) later = later
  stands_in_statement (tree.Break span) later = later
  stands_in_statement (tree.Continue span) later = later
  stands_in_statement (tree.Return a span) later = stands_in_optional a later
  stands_in_statement (tree.Case a label s span) later = stands a (stands_in_statement s later)
  stands_in_statement (tree.Default label s span) later = stands_in_statement s later
  stands_in_statement (tree.Label name s span) later = stands_in_statement s later

  pub stands_in_block : BlockItems → Spans
  stands_in_block tree.no_block_items later = later
  stands_in_block (tree.local d rest) later = stands_in_declaration d (stands_in_block rest later)
  stands_in_block (tree.statement s rest) later = stands_in_statement s (stands_in_block rest later)

-- ---- items

abbrev pub stands_in_item : Item → Spans
stands_in_item (tree.Declared d) later = stands_in_declaration d later
stands_in_item (tree.Defined s d b span) later = stands_in_block b later

abbrev pub stands_in_unit : List Item → List Span
stands_in_unit [] = []
stands_in_unit (one ∷ rest) = stands_in_item one (stands_in_unit rest)
