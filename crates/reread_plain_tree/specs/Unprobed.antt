-- The tree of an instrumented text without the brackets of its probes: parentheses (C17 6.5.1p5)
-- and braces (C17 6.8.2). A bracket of a probe stands where what it encloses begins; one of the
-- source starts before.
use Rattle.std.specs.Prelude.{◌==◌, Bool, true, false, List, map, Option, option_map}
use Rattle.mc_span.specs.declared.span.Span.{Span}
use Rattle.mc_tree.specs.Tree.{Expression, Expressions, TypeName, Specifier, Specifiers}
use Rattle.mc_tree.specs.Tree.{StructMember, Members, Enumerator, Enumerators, Declarator}
use Rattle.mc_tree.specs.Tree.{Declarators, ArrayLengths, Parameters, Parameter, ParameterList}
use Rattle.mc_tree.specs.Tree.{Initializer, Initializers, InitDeclarator, Declaration, ForStart}
use Rattle.mc_tree.specs.Tree.{Statement, BlockItems, Item, span_of, span_of_statement}
use Rattle.mc_tree.specs.Tree as tree

-- ---- brackets

-- Brackets start where what they enclose starts.
abbrev pub is_at : Span → Span → Bool
is_at brackets inner = brackets.start == inner.start

-- Braces are a probe's where they enclose one statement and nothing else, and start with it.
abbrev pub is_probes : BlockItems → Span → Bool
is_probes (tree.statement one tree.no_block_items) span = is_at span (span_of_statement one)
is_probes items span = false

-- an expression in parentheses, which are left out where they are a probe's
abbrev pub parenthesized : Bool → Expression → Span → Expression
parenthesized true inner span = inner
parenthesized false inner span = tree.Parenthesized inner span

-- a block, whose braces are left out where they are a probe's
abbrev pub compound : Bool → BlockItems → Span → Statement
compound true (tree.statement one tree.no_block_items) span = one
compound probes items span = tree.Compound items span

-- ---- trees

abbrev mutual
  pub unprobed : Expression → Expression
  unprobed (tree.Named name) = tree.Named name
  unprobed (tree.Constant value decimal unsigned longs span) =
      tree.Constant value decimal unsigned longs span
  unprobed (tree.Character value span) = tree.Character value span
  unprobed (tree.Parenthesized inner span) =
      parenthesized (is_at span (span_of inner)) (unprobed inner) span
  unprobed (tree.Call name arguments span) = tree.Call name (unprobed_expressions arguments) span
  unprobed (tree.Index a b span) = tree.Index (unprobed a) (unprobed b) span
  unprobed (tree.Member a name span) = tree.Member (unprobed a) name span
  unprobed (tree.PostfixStep operator a span) = tree.PostfixStep operator (unprobed a) span
  unprobed (tree.PrefixStep operator a span) = tree.PrefixStep operator (unprobed a) span
  unprobed (tree.Unary operator a span) = tree.Unary operator (unprobed a) span
  unprobed (tree.Cast type a span) = tree.Cast (unprobed_type_name type) (unprobed a) span
  unprobed (tree.Binary operator a b span) = tree.Binary operator (unprobed a) (unprobed b) span
  unprobed (tree.Conditional a b c span) =
      tree.Conditional (unprobed a) (unprobed b) (unprobed c) span
  unprobed (tree.Assignment operator a b span) =
      tree.Assignment operator (unprobed a) (unprobed b) span
  unprobed (tree.Comma operands span) = tree.Comma (unprobed_expressions operands) span

  pub unprobed_expressions : Expressions → Expressions
  unprobed_expressions tree.no_expressions = tree.no_expressions
  unprobed_expressions (tree.expressions a rest) =
      tree.expressions (unprobed a) (unprobed_expressions rest)

  pub unprobed_type_name : TypeName → TypeName
  unprobed_type_name (tree.type_name s stars span) =
      tree.type_name (unprobed_specifiers s) stars span

  pub unprobed_specifier : Specifier → Specifier
  unprobed_specifier (tree.Word w span) = tree.Word w span
  unprobed_specifier (tree.TypedefName name) = tree.TypedefName name
  unprobed_specifier (tree.StructureTag name span) = tree.StructureTag name span
  unprobed_specifier (tree.Structure tag all span) = tree.Structure tag (unprobed_members all) span
  unprobed_specifier (tree.EnumerationTag name span) = tree.EnumerationTag name span
  unprobed_specifier (tree.Enumeration tag all span) =
      tree.Enumeration tag (unprobed_enumerators all) span

  pub unprobed_specifiers : Specifiers → Specifiers
  unprobed_specifiers tree.no_specifiers = tree.no_specifiers
  unprobed_specifiers (tree.specifiers s rest) =
      tree.specifiers (unprobed_specifier s) (unprobed_specifiers rest)

  pub unprobed_member : StructMember → StructMember
  unprobed_member (tree.member s ds span) =
      tree.member (unprobed_specifiers s) (unprobed_declarators ds) span

  pub unprobed_members : Members → Members
  unprobed_members tree.no_members = tree.no_members
  unprobed_members (tree.members one rest) =
      tree.members (unprobed_member one) (unprobed_members rest)

  pub unprobed_enumerator : Enumerator → Enumerator
  unprobed_enumerator (tree.enumerator name) = tree.enumerator name
  unprobed_enumerator (tree.valued_enumerator name a) = tree.valued_enumerator name (unprobed a)

  pub unprobed_enumerators : Enumerators → Enumerators
  unprobed_enumerators tree.no_enumerators = tree.no_enumerators
  unprobed_enumerators (tree.enumerators e rest) =
      tree.enumerators (unprobed_enumerator e) (unprobed_enumerators rest)

  pub unprobed_declarator : Declarator → Declarator
  unprobed_declarator (tree.object stars name all span) =
      tree.object stars name (unprobed_lengths all) span
  unprobed_declarator (tree.function stars name all span) =
      tree.function stars name (unprobed_parameters all) span

  pub unprobed_declarators : Declarators → Declarators
  unprobed_declarators tree.no_declarators = tree.no_declarators
  unprobed_declarators (tree.declarators d rest) =
      tree.declarators (unprobed_declarator d) (unprobed_declarators rest)

  pub unprobed_lengths : ArrayLengths → ArrayLengths
  unprobed_lengths tree.no_lengths = tree.no_lengths
  unprobed_lengths (tree.absent_length rest) = tree.absent_length (unprobed_lengths rest)
  unprobed_lengths (tree.given_length a rest) =
      tree.given_length (unprobed a) (unprobed_lengths rest)

  pub unprobed_parameters : Parameters → Parameters
  unprobed_parameters (tree.Empty span) = tree.Empty span
  unprobed_parameters (tree.Void span) = tree.Void span
  unprobed_parameters (tree.Listed all span) = tree.Listed (unprobed_parameter_list all) span

  pub unprobed_parameter : Parameter → Parameter
  unprobed_parameter (tree.parameter s stars name all span) =
      tree.parameter (unprobed_specifiers s) stars name (unprobed_lengths all) span

  pub unprobed_parameter_list : ParameterList → ParameterList
  unprobed_parameter_list tree.no_parameters = tree.no_parameters
  unprobed_parameter_list (tree.parameters p rest) =
      tree.parameters (unprobed_parameter p) (unprobed_parameter_list rest)

abbrev mutual
  pub unprobed_initializer : Initializer → Initializer
  unprobed_initializer (tree.Single a) = tree.Single (unprobed a)
  unprobed_initializer (tree.Braced all span) = tree.Braced (unprobed_initializers all) span

  pub unprobed_initializers : Initializers → Initializers
  unprobed_initializers tree.no_initializers = tree.no_initializers
  unprobed_initializers (tree.initializers one rest) =
      tree.initializers (unprobed_initializer one) (unprobed_initializers rest)

abbrev pub unprobed_init_declarator : InitDeclarator → InitDeclarator
unprobed_init_declarator (tree.bare d) = tree.bare (unprobed_declarator d)
unprobed_init_declarator (tree.initialized d value) =
    tree.initialized (unprobed_declarator d) (unprobed_initializer value)

abbrev pub unprobed_init_declarators : List InitDeclarator → List InitDeclarator
unprobed_init_declarators all = map unprobed_init_declarator all

abbrev pub unprobed_declaration : Declaration → Declaration
unprobed_declaration (tree.declaration s all span) =
    tree.declaration (unprobed_specifiers s) (unprobed_init_declarators all) span

abbrev pub unprobed_optional : Option Expression → Option Expression
unprobed_optional a = option_map unprobed a

abbrev pub unprobed_start : ForStart → ForStart
unprobed_start (tree.StartsLocal d) = tree.StartsLocal (unprobed_declaration d)
unprobed_start (tree.StartsExpression a) = tree.StartsExpression (unprobed_optional a)

abbrev mutual
  pub unprobed_statement : Statement → Statement
  unprobed_statement (tree.Compound b span) = compound (is_probes b span) (unprobed_block b) span
  unprobed_statement (tree.Null span) = tree.Null span
  unprobed_statement (tree.ExpressionStatement a span) = tree.ExpressionStatement (unprobed a) span
  unprobed_statement (tree.If a s span) = tree.If (unprobed a) (unprobed_statement s) span
  unprobed_statement (tree.IfElse a s u span) =
      tree.IfElse (unprobed a) (unprobed_statement s) (unprobed_statement u) span
  unprobed_statement (tree.Switch a s span) = tree.Switch (unprobed a) (unprobed_statement s) span
  unprobed_statement (tree.While a s span) = tree.While (unprobed a) (unprobed_statement s) span
  unprobed_statement (tree.DoWhile s a span) = tree.DoWhile (unprobed_statement s) (unprobed a) span
  unprobed_statement (tree.For start a b s span) =
      tree.For (unprobed_start start) (unprobed_optional a) (unprobed_optional b)
      (unprobed_statement s) span
  unprobed_statement (tree.Case a label s span) =
      tree.Case (unprobed a) label (unprobed_statement s) span
  unprobed_statement (tree.Default label s span) = tree.Default label (unprobed_statement s) span
  unprobed_statement (tree.Label name s span) = tree.Label name (unprobed_statement s) span
  unprobed_statement (tree.Goto name span) = tree.Goto name span
  unprobed_statement (tree.Break span) = tree.Break span
  unprobed_statement (tree.Continue span) = tree.Continue span
  unprobed_statement (tree.Return a span) = tree.Return (unprobed_optional a) span

  pub unprobed_block : BlockItems → BlockItems
  unprobed_block tree.no_block_items = tree.no_block_items
  unprobed_block (tree.local d rest) = tree.local (unprobed_declaration d) (unprobed_block rest)
  unprobed_block (tree.statement s rest) =
      tree.statement (unprobed_statement s) (unprobed_block rest)

abbrev pub unprobed_item : Item → Item
unprobed_item (tree.Declared d) = tree.Declared (unprobed_declaration d)
unprobed_item (tree.Defined s d b span) =
    tree.Defined (unprobed_specifiers s) (unprobed_declarator d) (unprobed_block b) span

abbrev pub unprobed_unit : List Item → List Item
unprobed_unit unit = map (unprobed_item) unit
