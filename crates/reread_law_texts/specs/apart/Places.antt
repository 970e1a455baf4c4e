-- The places of expressions and of statements in a text, in the order of the text: that of an
-- expression before those of its parts.
use Rattle.std.specs.Prelude.{List, [], ◌∷◌, Option, Some, None}
use Rattle.mc_span.specs.declared.span.Span.{Span}
use Rattle.mc_tree.specs.Tree.{Expression, Expressions, TypeName, Specifier, Specifiers}
use Rattle.mc_tree.specs.Tree.{StructMember, Members, Enumerator, Enumerators, Declarator}
use Rattle.mc_tree.specs.Tree.{Declarators, ArrayLengths, Parameters, Parameter, ParameterList}
use Rattle.mc_tree.specs.Tree.{Initializer, Initializers, InitDeclarator, Declaration, ForStart}
use Rattle.mc_tree.specs.Tree.{Statement, BlockItems, Item}
use Rattle.mc_tree.specs.Tree as tree

-- the places in a part of a tree, before those of what follows
abbrev pub Spans : Type 0
Spans = List Span → List Span

-- ---- all expressions, those in parentheses and the parentheses too

abbrev mutual
  pub spans : Expression → Spans
  spans (tree.Named name) later = name.span ∷ later
  spans (tree.Constant value decimal unsigned longs span) later = span ∷ later
  spans (tree.Character value span) later = span ∷ later
  spans (tree.Parenthesized a span) later = span ∷ spans a later
  spans (tree.Call name all span) later = span ∷ spans_in_expressions all later
  spans (tree.Index a b span) later = span ∷ spans a (spans b later)
  spans (tree.Member a name span) later = span ∷ spans a later
  spans (tree.PostfixStep operator a span) later = span ∷ spans a later
  spans (tree.PrefixStep operator a span) later = span ∷ spans a later
  spans (tree.Unary operator a span) later = span ∷ spans a later
  spans (tree.Cast type a span) later = span ∷ spans_in_type_name type (spans a later)
  spans (tree.Binary operator a b span) later = span ∷ spans a (spans b later)
  spans (tree.Conditional a b c span) later = span ∷ spans a (spans b (spans c later))
  spans (tree.Assignment operator a b span) later = span ∷ spans a (spans b later)
  spans (tree.Comma all span) later = span ∷ spans_in_expressions all later

  pub spans_in_expressions : Expressions → Spans
  spans_in_expressions tree.no_expressions later = later
  spans_in_expressions (tree.expressions a rest) later = spans a (spans_in_expressions rest later)

  pub spans_in_type_name : TypeName → Spans
  spans_in_type_name (tree.type_name s stars span) later = spans_in_specifiers s later

  pub spans_in_specifier : Specifier → Spans
  spans_in_specifier (tree.Word word span) later = later
  spans_in_specifier (tree.TypedefName name) later = later
  spans_in_specifier (tree.StructureTag name span) later = later
  spans_in_specifier (tree.Structure tag ms span) later = spans_in_members ms later
  spans_in_specifier (tree.EnumerationTag name span) later = later
  spans_in_specifier (tree.Enumeration tag es span) later = spans_in_enumerators es later

  pub spans_in_specifiers : Specifiers → Spans
  spans_in_specifiers tree.no_specifiers later = later
  spans_in_specifiers (tree.specifiers one rest) later =
      spans_in_specifier one (spans_in_specifiers rest later)

  pub spans_in_member : StructMember → Spans
  spans_in_member (tree.member s ds span) later =
      spans_in_specifiers s (spans_in_declarators ds later)

  pub spans_in_members : Members → Spans
  spans_in_members tree.no_members later = later
  spans_in_members (tree.members one rest) later = spans_in_member one (spans_in_members rest later)

  pub spans_in_enumerator : Enumerator → Spans
  spans_in_enumerator (tree.enumerator name) later = later
  spans_in_enumerator (tree.valued_enumerator name a) later = spans a later

  pub spans_in_enumerators : Enumerators → Spans
  spans_in_enumerators tree.no_enumerators later = later
  spans_in_enumerators (tree.enumerators one rest) later =
      spans_in_enumerator one (spans_in_enumerators rest later)

  pub spans_in_declarator : Declarator → Spans
  spans_in_declarator (tree.object stars name all span) later = spans_in_lengths all later
  spans_in_declarator (tree.function stars name all span) later = spans_in_parameters all later

  pub spans_in_declarators : Declarators → Spans
  spans_in_declarators tree.no_declarators later = later
  spans_in_declarators (tree.declarators one rest) later =
      spans_in_declarator one (spans_in_declarators rest later)

  pub spans_in_lengths : ArrayLengths → Spans
  spans_in_lengths tree.no_lengths later = later
  spans_in_lengths (tree.absent_length rest) later = spans_in_lengths rest later
  spans_in_lengths (tree.given_length a rest) later = spans a (spans_in_lengths rest later)

  pub spans_in_parameters : Parameters → Spans
  spans_in_parameters (tree.Empty span) later = later
  spans_in_parameters (tree.Void span) later = later
  spans_in_parameters (tree.Listed all span) later = spans_in_parameter_list all later

  pub spans_in_parameter : Parameter → Spans
  spans_in_parameter (tree.parameter s stars name all span) later =
      spans_in_specifiers s (spans_in_lengths all later)

  pub spans_in_parameter_list : ParameterList → Spans
  spans_in_parameter_list tree.no_parameters later = later
  spans_in_parameter_list (tree.parameters one rest) later =
      spans_in_parameter one (spans_in_parameter_list rest later)

abbrev mutual
  pub spans_in_initializer : Initializer → Spans
  spans_in_initializer (tree.Single a) later = spans a later
  spans_in_initializer (tree.Braced all span) later = spans_in_initializers all later

  pub spans_in_initializers : Initializers → Spans
  spans_in_initializers tree.no_initializers later = later
  spans_in_initializers (tree.initializers one rest) later =
      spans_in_initializer one (spans_in_initializers rest later)

abbrev pub spans_in_init_declarator : InitDeclarator → Spans
spans_in_init_declarator (tree.bare d) later = spans_in_declarator d later
spans_in_init_declarator (tree.initialized d value) later =
    spans_in_declarator d (spans_in_initializer value later)

abbrev pub spans_in_init_declarators : List InitDeclarator → Spans
spans_in_init_declarators [] later = later
spans_in_init_declarators (one ∷ rest) later =
    spans_in_init_declarator one (spans_in_init_declarators rest later)

abbrev pub spans_in_declaration : Declaration → Spans
spans_in_declaration (tree.declaration s all span) later =
    spans_in_specifiers s (spans_in_init_declarators all later)

abbrev pub spans_in_optional : Option Expression → Spans
spans_in_optional None later = later
spans_in_optional (Some a) later = spans a later

abbrev pub spans_in_start : ForStart → Spans
spans_in_start (tree.StartsLocal d) later = spans_in_declaration d later
spans_in_start (tree.StartsExpression a) later = spans_in_optional a later

abbrev mutual
  pub spans_in_statement : Statement → Spans
  spans_in_statement (tree.Compound b span) later = spans_in_block b later
  spans_in_statement (tree.Null span) later = later
  spans_in_statement (tree.ExpressionStatement a span) later = spans a later
  spans_in_statement (tree.If a s span) later = spans a (spans_in_statement s later)
  spans_in_statement (tree.IfElse a s u span) later =
      spans a (spans_in_statement s (spans_in_statement u later))
  spans_in_statement (tree.Switch a s span) later = spans a (spans_in_statement s later)
  spans_in_statement (tree.While a s span) later = spans a (spans_in_statement s later)
  spans_in_statement (tree.DoWhile s a span) later = spans_in_statement s (spans a later)
  spans_in_statement (tree.For start a b s span) later =
      spans_in_start start (spans_in_optional a (spans_in_optional b
      (spans_in_statement s later)))
  spans_in_statement (tree.Goto name span) later = later
  spans_in_statement (tree.Break span) later = later
  spans_in_statement (tree.Continue span) later = later
  spans_in_statement (tree.Return a span) later = spans_in_optional a later
  spans_in_statement (tree.Case a label s span) later = spans a (spans_in_statement s later)
  spans_in_statement (tree.Default label s span) later = spans_in_statement s later
  spans_in_statement (tree.Label name s span) later = spans_in_statement s later

  pub spans_in_block : BlockItems → Spans
  spans_in_block tree.no_block_items later = later
  spans_in_block (tree.local d rest) later = spans_in_declaration d (spans_in_block rest later)
  spans_in_block (tree.statement s rest) later = spans_in_statement s (spans_in_block rest later)

abbrev pub spans_in_item : Item → Spans
spans_in_item (tree.Declared d) later = spans_in_declaration d later
spans_in_item (tree.Defined s d b span) later =
    spans_in_specifiers s (spans_in_declarator d (spans_in_block b later))

abbrev pub spans_in_unit : List Item → List Span
spans_in_unit [] = []
spans_in_unit (one ∷ rest) = spans_in_item one (spans_in_unit rest)

-- ---- the statements that are neither compound statements nor labelled (C17 6.8)

abbrev mutual
  pub statement_spans : Statement → Spans
  statement_spans (tree.Compound b span) later = statement_spans_in_block b later
  statement_spans (tree.Null span) later = span ∷ later
  statement_spans (tree.ExpressionStatement a span) later = span ∷ later
  statement_spans (tree.If a s span) later = span ∷ statement_spans s later
  statement_spans (tree.IfElse a s u span) later =
      span ∷ statement_spans s (statement_spans u later)
  statement_spans (tree.Switch a s span) later = span ∷ statement_spans s later
  statement_spans (tree.While a s span) later = span ∷ statement_spans s later
  statement_spans (tree.DoWhile s a span) later = span ∷ statement_spans s later
  statement_spans (tree.For start a b s span) later = span ∷ statement_spans s later
  statement_spans (tree.Goto name span) later = span ∷ later
  statement_spans (tree.Break span) later = span ∷ later
  statement_spans (tree.Continue span) later = span ∷ later
  statement_spans (tree.Return a span) later = span ∷ later
  statement_spans (tree.Case a label s span) later = statement_spans s later
  statement_spans (tree.Default label s span) later = statement_spans s later
  statement_spans (tree.Label name s span) later = statement_spans s later

  pub statement_spans_in_block : BlockItems → Spans
  statement_spans_in_block tree.no_block_items later = later
  statement_spans_in_block (tree.local d rest) later = statement_spans_in_block rest later
  statement_spans_in_block (tree.statement s rest) later =
      statement_spans s (statement_spans_in_block rest later)

abbrev pub statement_spans_in_item : Item → Spans
statement_spans_in_item (tree.Declared d) later = later
statement_spans_in_item (tree.Defined s d b span) later = statement_spans_in_block b later

abbrev pub statement_spans_in_unit : List Item → List Span
statement_spans_in_unit [] = []
statement_spans_in_unit (one ∷ rest) = statement_spans_in_item one (statement_spans_in_unit rest)
