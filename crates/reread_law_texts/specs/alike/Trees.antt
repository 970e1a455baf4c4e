-- A tree at other places: the same nodes, names, operators and constants, and each span moved.
use Rattle.std.specs.Prelude.{List, map, Option, option_map}
use Rattle.mc_tree.specs.Tree.{Name, Expression, Expressions, TypeName, Specifier, Specifiers, StructMember, Members, Enumerator, Enumerators, Declarator, Declarators, ArrayLengths, Parameters, Parameter, ParameterList, Initializer, Initializers, InitDeclarator, Declaration, ForStart, Statement, BlockItems, Item}
use Rattle.mc_tree.specs.Tree as tree
use Rattle.mc_grammar.specs.Nonterminal.{Nonterminal}
use Rattle.mc_grammar.specs.Nonterminal as nonterminal
use Rattle.reread_law_texts.specs.alike.Moves.{Move, moved_span}

abbrev pub moved_name : Move → Name → Name
moved_name m name = record { text = name.text; span = moved_span m name.span }

-- a tag or a parameter's name, which may be left out
abbrev pub moved_tag : Move → Option Name → Option Name
moved_tag m name = option_map (moved_name m) name

abbrev mutual
  pub moved : Move → Expression → Expression
  moved m (tree.Named name) = tree.Named (moved_name m name)
  moved m (tree.Constant value decimal unsigned longs span) =
      tree.Constant value decimal unsigned longs (moved_span m span)
  moved m (tree.Character value span) = tree.Character value (moved_span m span)
  moved m (tree.Parenthesized inner span) = tree.Parenthesized (moved m inner) (moved_span m span)
  moved m (tree.Call name arguments span) =
      tree.Call (moved_name m name) (moved_expressions m arguments) (moved_span m span)
  moved m (tree.Index a b span) = tree.Index (moved m a) (moved m b) (moved_span m span)
  moved m (tree.Member a name span) =
      tree.Member (moved m a) (moved_name m name) (moved_span m span)
  moved m (tree.PostfixStep operator a span) =
      tree.PostfixStep operator (moved m a) (moved_span m span)
  moved m (tree.PrefixStep operator a span) =
      tree.PrefixStep operator (moved m a) (moved_span m span)
  moved m (tree.Unary operator a span) = tree.Unary operator (moved m a) (moved_span m span)
  moved m (tree.Cast type a span) =
      tree.Cast (moved_type_name m type) (moved m a) (moved_span m span)
  moved m (tree.Binary operator a b span) =
      tree.Binary operator (moved m a) (moved m b) (moved_span m span)
  moved m (tree.Conditional a b c span) =
      tree.Conditional (moved m a) (moved m b) (moved m c) (moved_span m span)
  moved m (tree.Assignment operator a b span) =
      tree.Assignment operator (moved m a) (moved m b) (moved_span m span)
  moved m (tree.Comma operands span) =
      tree.Comma (moved_expressions m operands) (moved_span m span)

  pub moved_expressions : Move → Expressions → Expressions
  moved_expressions m tree.no_expressions = tree.no_expressions
  moved_expressions m (tree.expressions a rest) =
      tree.expressions (moved m a) (moved_expressions m rest)

  pub moved_type_name : Move → TypeName → TypeName
  moved_type_name m (tree.type_name s stars span) =
      tree.type_name (moved_specifiers m s) stars (moved_span m span)

  pub moved_specifier : Move → Specifier → Specifier
  moved_specifier m (tree.Word w span) = tree.Word w (moved_span m span)
  moved_specifier m (tree.TypedefName name) = tree.TypedefName (moved_name m name)
  moved_specifier m (tree.StructureTag name span) =
      tree.StructureTag (moved_name m name) (moved_span m span)
  moved_specifier m (tree.Structure tag all span) =
      tree.Structure (moved_tag m tag) (moved_members m all) (moved_span m span)
  moved_specifier m (tree.EnumerationTag name span) =
      tree.EnumerationTag (moved_name m name) (moved_span m span)
  moved_specifier m (tree.Enumeration tag all span) =
      tree.Enumeration (moved_tag m tag) (moved_enumerators m all) (moved_span m span)

  pub moved_specifiers : Move → Specifiers → Specifiers
  moved_specifiers m tree.no_specifiers = tree.no_specifiers
  moved_specifiers m (tree.specifiers s rest) =
      tree.specifiers (moved_specifier m s) (moved_specifiers m rest)

  pub moved_member : Move → StructMember → StructMember
  moved_member m (tree.member s ds span) =
      tree.member (moved_specifiers m s) (moved_declarators m ds) (moved_span m span)

  pub moved_members : Move → Members → Members
  moved_members m tree.no_members = tree.no_members
  moved_members m (tree.members one rest) =
      tree.members (moved_member m one) (moved_members m rest)

  pub moved_enumerator : Move → Enumerator → Enumerator
  moved_enumerator m (tree.enumerator name) = tree.enumerator (moved_name m name)
  moved_enumerator m (tree.valued_enumerator name a) =
      tree.valued_enumerator (moved_name m name) (moved m a)

  pub moved_enumerators : Move → Enumerators → Enumerators
  moved_enumerators m tree.no_enumerators = tree.no_enumerators
  moved_enumerators m (tree.enumerators e rest) =
      tree.enumerators (moved_enumerator m e) (moved_enumerators m rest)

  pub moved_declarator : Move → Declarator → Declarator
  moved_declarator m (tree.object stars name all span) =
      tree.object stars (moved_name m name) (moved_lengths m all) (moved_span m span)
  moved_declarator m (tree.function stars name all span) =
      tree.function stars (moved_name m name) (moved_parameters m all) (moved_span m span)

  pub moved_declarators : Move → Declarators → Declarators
  moved_declarators m tree.no_declarators = tree.no_declarators
  moved_declarators m (tree.declarators d rest) =
      tree.declarators (moved_declarator m d) (moved_declarators m rest)

  pub moved_lengths : Move → ArrayLengths → ArrayLengths
  moved_lengths m tree.no_lengths = tree.no_lengths
  moved_lengths m (tree.absent_length rest) = tree.absent_length (moved_lengths m rest)
  moved_lengths m (tree.given_length a rest) =
      tree.given_length (moved m a) (moved_lengths m rest)

  pub moved_parameters : Move → Parameters → Parameters
  moved_parameters m (tree.Empty span) = tree.Empty (moved_span m span)
  moved_parameters m (tree.Void span) = tree.Void (moved_span m span)
  moved_parameters m (tree.Listed all span) =
      tree.Listed (moved_parameter_list m all) (moved_span m span)

  pub moved_parameter : Move → Parameter → Parameter
  moved_parameter m (tree.parameter s stars name all span) =
      tree.parameter (moved_specifiers m s) stars (moved_tag m name) (moved_lengths m all)
      (moved_span m span)

  pub moved_parameter_list : Move → ParameterList → ParameterList
  moved_parameter_list m tree.no_parameters = tree.no_parameters
  moved_parameter_list m (tree.parameters p rest) =
      tree.parameters (moved_parameter m p) (moved_parameter_list m rest)

abbrev mutual
  pub moved_initializer : Move → Initializer → Initializer
  moved_initializer m (tree.Single a) = tree.Single (moved m a)
  moved_initializer m (tree.Braced all span) =
      tree.Braced (moved_initializers m all) (moved_span m span)

  pub moved_initializers : Move → Initializers → Initializers
  moved_initializers m tree.no_initializers = tree.no_initializers
  moved_initializers m (tree.initializers one rest) =
      tree.initializers (moved_initializer m one) (moved_initializers m rest)

abbrev pub moved_init_declarator : Move → InitDeclarator → InitDeclarator
moved_init_declarator m (tree.bare d) = tree.bare (moved_declarator m d)
moved_init_declarator m (tree.initialized d value) =
    tree.initialized (moved_declarator m d) (moved_initializer m value)

abbrev pub moved_init_declarators : Move → List InitDeclarator → List InitDeclarator
moved_init_declarators m all = map (moved_init_declarator m) all

abbrev pub moved_declaration : Move → Declaration → Declaration
moved_declaration m (tree.declaration s all span) =
    tree.declaration (moved_specifiers m s) (moved_init_declarators m all) (moved_span m span)

abbrev pub moved_optional : Move → Option Expression → Option Expression
moved_optional m a = option_map (moved m) a

abbrev pub moved_start : Move → ForStart → ForStart
moved_start m (tree.StartsLocal d) = tree.StartsLocal (moved_declaration m d)
moved_start m (tree.StartsExpression a) = tree.StartsExpression (moved_optional m a)

abbrev mutual
  pub moved_statement : Move → Statement → Statement
  moved_statement m (tree.Compound b span) =
      tree.Compound (moved_block m b) (moved_span m span)
  moved_statement m (tree.Null span) = tree.Null (moved_span m span)
  moved_statement m (tree.ExpressionStatement a span) =
      tree.ExpressionStatement (moved m a) (moved_span m span)
  moved_statement m (tree.If a s span) =
      tree.If (moved m a) (moved_statement m s) (moved_span m span)
  moved_statement m (tree.IfElse a s u span) =
      tree.IfElse (moved m a) (moved_statement m s) (moved_statement m u) (moved_span m span)
  moved_statement m (tree.Switch a s span) =
      tree.Switch (moved m a) (moved_statement m s) (moved_span m span)
  moved_statement m (tree.While a s span) =
      tree.While (moved m a) (moved_statement m s) (moved_span m span)
  moved_statement m (tree.DoWhile s a span) =
      tree.DoWhile (moved_statement m s) (moved m a) (moved_span m span)
  moved_statement m (tree.For start a b s span) =
      tree.For (moved_start m start) (moved_optional m a) (moved_optional m b)
      (moved_statement m s) (moved_span m span)
  moved_statement m (tree.Case a label s span) =
      tree.Case (moved m a) (moved_span m label) (moved_statement m s) (moved_span m span)
  moved_statement m (tree.Default label s span) =
      tree.Default (moved_span m label) (moved_statement m s) (moved_span m span)
  moved_statement m (tree.Label name s span) =
      tree.Label (moved_name m name) (moved_statement m s) (moved_span m span)
  moved_statement m (tree.Goto name span) = tree.Goto (moved_name m name) (moved_span m span)
  moved_statement m (tree.Break span) = tree.Break (moved_span m span)
  moved_statement m (tree.Continue span) = tree.Continue (moved_span m span)
  moved_statement m (tree.Return a span) =
      tree.Return (moved_optional m a) (moved_span m span)

  pub moved_block : Move → BlockItems → BlockItems
  moved_block m tree.no_block_items = tree.no_block_items
  moved_block m (tree.local d rest) = tree.local (moved_declaration m d) (moved_block m rest)
  moved_block m (tree.statement s rest) =
      tree.statement (moved_statement m s) (moved_block m rest)

abbrev pub moved_item : Move → Item → Item
moved_item m (tree.Declared d) = tree.Declared (moved_declaration m d)
moved_item m (tree.Defined s d b span) =
    tree.Defined (moved_specifiers m s) (moved_declarator m d) (moved_block m b)
    (moved_span m span)

abbrev pub moved_unit : Move → List Item → List Item
moved_unit m unit = map (moved_item m) unit

-- the nonterminals that stand for the rest of a repetition have a tree in them
abbrev pub moved_nonterminal : Move → Nonterminal → Nonterminal
moved_nonterminal m (nonterminal.operations level a) = nonterminal.operations level (moved m a)
moved_nonterminal m (nonterminal.suffixes a) = nonterminal.suffixes (moved m a)
moved_nonterminal m other = other
