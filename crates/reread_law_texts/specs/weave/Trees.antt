-- A tree with brackets round some of its expressions and statements: the same tree, with a node for
-- each bracket. What is in a bracket stands where the bracket does, so no place changes.
--
-- Every expression may stand in parentheses, since these are a `primary` (C17 6.5.1). Every
-- statement but a compound statement and a label may stand in braces (C17 6.8.2).
use Rattle.std.specs.Prelude.{ℕ, zero, suc, Bool, true, false, List, map, Option, option_map}
use Rattle.mc_span.specs.declared.span.Span.{Span}
use Rattle.mc_tree.specs.Tree.{Expression, Expressions, TypeName, Specifier, Specifiers, StructMember, Members, Enumerator, Enumerators, Declarator, Declarators, ArrayLengths, Parameters, Parameter, ParameterList, Initializer, Initializers, InitDeclarator, Declaration, ForStart, Statement, BlockItems, Item}
use Rattle.mc_tree.specs.Tree as tree
use Rattle.reread_law_texts.specs.weave.Brackets.{Brackets}

-- an expression in so many parentheses
abbrev pub around_by : ℕ → Span → Expression → Expression
around_by zero span a = a
around_by (suc n) span a = tree.Parenthesized (around_by n span a) span

abbrev pub around : Brackets → Span → Expression → Expression
around w span a = around_by (w.parentheses span) span a

-- a statement in braces
abbrev pub braced_by : Bool → Span → Statement → Statement
braced_by false span s = s
braced_by true span s = tree.Compound (tree.statement s tree.no_block_items) span

abbrev pub braced : Brackets → Span → Statement → Statement
braced w span s = braced_by (w.braces span) span s

abbrev mutual
  pub bracketed : Brackets → Expression → Expression
  bracketed w (tree.Named name) = around w name.span (tree.Named name)
  bracketed w (tree.Constant value decimal unsigned longs span) =
      around w span (tree.Constant value decimal unsigned longs span)
  bracketed w (tree.Character value span) = around w span (tree.Character value span)
  bracketed w (tree.Parenthesized inner span) =
      around w span (tree.Parenthesized (bracketed w inner) span)
  bracketed w (tree.Call name arguments span) =
      around w span (tree.Call name (bracketed_expressions w arguments) span)
  bracketed w (tree.Index a b span) =
      around w span (tree.Index (bracketed w a) (bracketed w b) span)
  bracketed w (tree.Member a name span) = around w span (tree.Member (bracketed w a) name span)
  bracketed w (tree.PostfixStep operator a span) =
      around w span (tree.PostfixStep operator (bracketed w a) span)
  bracketed w (tree.PrefixStep operator a span) =
      around w span (tree.PrefixStep operator (bracketed w a) span)
  bracketed w (tree.Unary operator a span) =
      around w span (tree.Unary operator (bracketed w a) span)
  bracketed w (tree.Cast type a span) =
      around w span (tree.Cast (bracketed_type_name w type) (bracketed w a) span)
  bracketed w (tree.Binary operator a b span) =
      around w span (tree.Binary operator (bracketed w a) (bracketed w b) span)
  bracketed w (tree.Conditional a b c span) =
      around w span (tree.Conditional (bracketed w a) (bracketed w b) (bracketed w c) span)
  bracketed w (tree.Assignment operator a b span) =
      around w span (tree.Assignment operator (bracketed w a) (bracketed w b) span)
  bracketed w (tree.Comma operands span) =
      around w span (tree.Comma (bracketed_expressions w operands) span)

  pub bracketed_expressions : Brackets → Expressions → Expressions
  bracketed_expressions w tree.no_expressions = tree.no_expressions
  bracketed_expressions w (tree.expressions a rest) =
      tree.expressions (bracketed w a) (bracketed_expressions w rest)

  pub bracketed_type_name : Brackets → TypeName → TypeName
  bracketed_type_name w (tree.type_name s stars span) =
      tree.type_name (bracketed_specifiers w s) stars span

  pub bracketed_specifier : Brackets → Specifier → Specifier
  bracketed_specifier w (tree.Word word span) = tree.Word word span
  bracketed_specifier w (tree.TypedefName name) = tree.TypedefName name
  bracketed_specifier w (tree.StructureTag name span) = tree.StructureTag name span
  bracketed_specifier w (tree.Structure tag all span) =
      tree.Structure tag (bracketed_members w all) span
  bracketed_specifier w (tree.EnumerationTag name span) = tree.EnumerationTag name span
  bracketed_specifier w (tree.Enumeration tag all span) =
      tree.Enumeration tag (bracketed_enumerators w all) span

  pub bracketed_specifiers : Brackets → Specifiers → Specifiers
  bracketed_specifiers w tree.no_specifiers = tree.no_specifiers
  bracketed_specifiers w (tree.specifiers s rest) =
      tree.specifiers (bracketed_specifier w s) (bracketed_specifiers w rest)

  pub bracketed_member : Brackets → StructMember → StructMember
  bracketed_member w (tree.member s ds span) =
      tree.member (bracketed_specifiers w s) (bracketed_declarators w ds) span

  pub bracketed_members : Brackets → Members → Members
  bracketed_members w tree.no_members = tree.no_members
  bracketed_members w (tree.members one rest) =
      tree.members (bracketed_member w one) (bracketed_members w rest)

  pub bracketed_enumerator : Brackets → Enumerator → Enumerator
  bracketed_enumerator w (tree.enumerator name) = tree.enumerator name
  bracketed_enumerator w (tree.valued_enumerator name a) =
      tree.valued_enumerator name (bracketed w a)

  pub bracketed_enumerators : Brackets → Enumerators → Enumerators
  bracketed_enumerators w tree.no_enumerators = tree.no_enumerators
  bracketed_enumerators w (tree.enumerators e rest) =
      tree.enumerators (bracketed_enumerator w e) (bracketed_enumerators w rest)

  pub bracketed_declarator : Brackets → Declarator → Declarator
  bracketed_declarator w (tree.object stars name all span) =
      tree.object stars name (bracketed_lengths w all) span
  bracketed_declarator w (tree.function stars name all span) =
      tree.function stars name (bracketed_parameters w all) span

  pub bracketed_declarators : Brackets → Declarators → Declarators
  bracketed_declarators w tree.no_declarators = tree.no_declarators
  bracketed_declarators w (tree.declarators d rest) =
      tree.declarators (bracketed_declarator w d) (bracketed_declarators w rest)

  pub bracketed_lengths : Brackets → ArrayLengths → ArrayLengths
  bracketed_lengths w tree.no_lengths = tree.no_lengths
  bracketed_lengths w (tree.absent_length rest) = tree.absent_length (bracketed_lengths w rest)
  bracketed_lengths w (tree.given_length a rest) =
      tree.given_length (bracketed w a) (bracketed_lengths w rest)

  pub bracketed_parameters : Brackets → Parameters → Parameters
  bracketed_parameters w (tree.Empty span) = tree.Empty span
  bracketed_parameters w (tree.Void span) = tree.Void span
  bracketed_parameters w (tree.Listed all span) =
      tree.Listed (bracketed_parameter_list w all) span

  pub bracketed_parameter : Brackets → Parameter → Parameter
  bracketed_parameter w (tree.parameter s stars name all span) =
      tree.parameter (bracketed_specifiers w s) stars name (bracketed_lengths w all) span

  pub bracketed_parameter_list : Brackets → ParameterList → ParameterList
  bracketed_parameter_list w tree.no_parameters = tree.no_parameters
  bracketed_parameter_list w (tree.parameters p rest) =
      tree.parameters (bracketed_parameter w p) (bracketed_parameter_list w rest)

abbrev mutual
  pub bracketed_initializer : Brackets → Initializer → Initializer
  bracketed_initializer w (tree.Single a) = tree.Single (bracketed w a)
  bracketed_initializer w (tree.Braced all span) = tree.Braced (bracketed_initializers w all) span

  pub bracketed_initializers : Brackets → Initializers → Initializers
  bracketed_initializers w tree.no_initializers = tree.no_initializers
  bracketed_initializers w (tree.initializers one rest) =
      tree.initializers (bracketed_initializer w one) (bracketed_initializers w rest)

abbrev pub bracketed_init_declarator : Brackets → InitDeclarator → InitDeclarator
bracketed_init_declarator w (tree.bare d) = tree.bare (bracketed_declarator w d)
bracketed_init_declarator w (tree.initialized d value) =
    tree.initialized (bracketed_declarator w d) (bracketed_initializer w value)

abbrev pub bracketed_init_declarators : Brackets → List InitDeclarator → List InitDeclarator
bracketed_init_declarators w all = map (bracketed_init_declarator w) all

abbrev pub bracketed_declaration : Brackets → Declaration → Declaration
bracketed_declaration w (tree.declaration s all span) =
    tree.declaration (bracketed_specifiers w s) (bracketed_init_declarators w all) span

abbrev pub bracketed_optional : Brackets → Option Expression → Option Expression
bracketed_optional w a = option_map (bracketed w) a

abbrev pub bracketed_start : Brackets → ForStart → ForStart
bracketed_start w (tree.StartsLocal d) = tree.StartsLocal (bracketed_declaration w d)
bracketed_start w (tree.StartsExpression a) = tree.StartsExpression (bracketed_optional w a)

abbrev mutual
  pub bracketed_statement : Brackets → Statement → Statement
  bracketed_statement w (tree.Compound b span) = tree.Compound (bracketed_block w b) span
  bracketed_statement w (tree.Null span) = braced w span (tree.Null span)
  bracketed_statement w (tree.ExpressionStatement a span) =
      braced w span (tree.ExpressionStatement (bracketed w a) span)
  bracketed_statement w (tree.If a s span) =
      braced w span (tree.If (bracketed w a) (bracketed_statement w s) span)
  bracketed_statement w (tree.IfElse a s u span) =
      braced w span (tree.IfElse (bracketed w a) (bracketed_statement w s) (bracketed_statement w
      u) span)
  bracketed_statement w (tree.Switch a s span) =
      braced w span (tree.Switch (bracketed w a) (bracketed_statement w s) span)
  bracketed_statement w (tree.While a s span) =
      braced w span (tree.While (bracketed w a) (bracketed_statement w s) span)
  bracketed_statement w (tree.DoWhile s a span) =
      braced w span (tree.DoWhile (bracketed_statement w s) (bracketed w a) span)
  bracketed_statement w (tree.For start a b s span) =
      braced w span (tree.For (bracketed_start w start) (bracketed_optional w a)
      (bracketed_optional w b) (bracketed_statement w s) span)
  bracketed_statement w (tree.Case a label s span) =
      tree.Case (bracketed w a) label (bracketed_statement w s) span
  bracketed_statement w (tree.Default label s span) =
      tree.Default label (bracketed_statement w s) span
  bracketed_statement w (tree.Label name s span) = tree.Label name (bracketed_statement w s) span
  bracketed_statement w (tree.Goto name span) = braced w span (tree.Goto name span)
  bracketed_statement w (tree.Break span) = braced w span (tree.Break span)
  bracketed_statement w (tree.Continue span) = braced w span (tree.Continue span)
  bracketed_statement w (tree.Return a span) =
      braced w span (tree.Return (bracketed_optional w a) span)

  pub bracketed_block : Brackets → BlockItems → BlockItems
  bracketed_block w tree.no_block_items = tree.no_block_items
  bracketed_block w (tree.local d rest) =
      tree.local (bracketed_declaration w d) (bracketed_block w rest)
  bracketed_block w (tree.statement s rest) =
      tree.statement (bracketed_statement w s) (bracketed_block w rest)

abbrev pub bracketed_item : Brackets → Item → Item
bracketed_item w (tree.Declared d) = tree.Declared (bracketed_declaration w d)
bracketed_item w (tree.Defined s d b span) =
    tree.Defined (bracketed_specifiers w s) (bracketed_declarator w d) (bracketed_block w b) span

abbrev pub bracketed_unit : Brackets → List Item → List Item
bracketed_unit w unit = map (bracketed_item w) unit
