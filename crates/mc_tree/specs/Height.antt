-- The height of a tree. Expressions, parentheses round an expression, statements, initializers, and
-- the lists of a structure or an enumeration each count one level. Specifiers, declarators and
-- declarations add none of their own.
use Rattle.std.specs.Prelude.{ℕ, ◌+◌, max, List, [], ◌∷◌, Option, Some, None}
use Rattle.mc_tree.specs.Tree.{Expression, Expressions, TypeName, Specifier, Specifiers, StructMember, Members, Enumerator, Enumerators, Declarator, Declarators, ArrayLengths, Parameters, Parameter, ParameterList, Initializer, Initializers, InitDeclarator, Declaration, ForStart, Statement, BlockItems, Item}
use Rattle.mc_tree.specs.Tree as tree

abbrev mutual
  pub height : Expression → ℕ
  height (tree.Named name) = 1
  height (tree.Constant value decimal unsigned longs span) = 1
  height (tree.Character value span) = 1
  height (tree.Parenthesized inner span) = height inner + 1
  height (tree.Call name arguments span) = tallest arguments + 1
  height (tree.Index a b span) = max (height a) (height b) + 1
  height (tree.Member a name span) = height a + 1
  height (tree.PostfixStep operator a span) = height a + 1
  height (tree.PrefixStep operator a span) = height a + 1
  height (tree.Unary operator a span) = height a + 1
  height (tree.Cast type a span) = max (height_type type) (height a) + 1
  height (tree.Binary operator a b span) = max (height a) (height b) + 1
  height (tree.Conditional a b c span) = max (height a) (max (height b) (height c)) + 1
  height (tree.Assignment operator a b span) = max (height a) (height b) + 1
  height (tree.Comma operands span) = tallest operands + 1

  pub tallest : Expressions → ℕ
  tallest tree.no_expressions = 0
  tallest (tree.expressions a rest) = max (height a) (tallest rest)

  pub height_type : TypeName → ℕ
  height_type (tree.type_name s stars span) = height_specifiers s

  pub height_specifier : Specifier → ℕ
  height_specifier (tree.Word w span) = 0
  height_specifier (tree.TypedefName name) = 0
  height_specifier (tree.StructureTag name span) = 0
  height_specifier (tree.Structure tag ms span) = height_members ms + 1
  height_specifier (tree.EnumerationTag name span) = 0
  height_specifier (tree.Enumeration tag es span) = height_enumerators es + 1

  pub height_specifiers : Specifiers → ℕ
  height_specifiers tree.no_specifiers = 0
  height_specifiers (tree.specifiers s rest) = max (height_specifier s) (height_specifiers rest)

  pub height_member : StructMember → ℕ
  height_member (tree.member s ds span) = max (height_specifiers s) (height_declarators ds)

  pub height_members : Members → ℕ
  height_members tree.no_members = 0
  height_members (tree.members m rest) = max (height_member m) (height_members rest)

  pub height_enumerator : Enumerator → ℕ
  height_enumerator (tree.enumerator name) = 0
  height_enumerator (tree.valued_enumerator name a) = height a

  pub height_enumerators : Enumerators → ℕ
  height_enumerators tree.no_enumerators = 0
  height_enumerators (tree.enumerators e rest) = max (height_enumerator e) (height_enumerators rest)

  pub height_declarator : Declarator → ℕ
  height_declarator (tree.object stars name all span) = height_lengths all
  height_declarator (tree.function stars name ps span) = height_parameters ps

  pub height_declarators : Declarators → ℕ
  height_declarators tree.no_declarators = 0
  height_declarators (tree.declarators d rest) = max (height_declarator d) (height_declarators rest)

  pub height_lengths : ArrayLengths → ℕ
  height_lengths tree.no_lengths = 0
  height_lengths (tree.absent_length rest) = height_lengths rest
  height_lengths (tree.given_length a rest) = max (height a) (height_lengths rest)

  pub height_parameters : Parameters → ℕ
  height_parameters (tree.Empty span) = 0
  height_parameters (tree.Void span) = 0
  height_parameters (tree.Listed ps span) = height_parameter_list ps

  pub height_parameter : Parameter → ℕ
  height_parameter (tree.parameter s stars name all span) =
      max (height_specifiers s) (height_lengths all)

  pub height_parameter_list : ParameterList → ℕ
  height_parameter_list tree.no_parameters = 0
  height_parameter_list (tree.parameters p rest) =
      max (height_parameter p) (height_parameter_list rest)

abbrev mutual
  pub height_initializer : Initializer → ℕ
  height_initializer (tree.Single a) = height a + 1
  height_initializer (tree.Braced all span) = height_initializers all + 1

  pub height_initializers : Initializers → ℕ
  height_initializers tree.no_initializers = 0
  height_initializers (tree.initializers one rest) =
      max (height_initializer one) (height_initializers rest)

abbrev pub height_init_declarator : InitDeclarator → ℕ
height_init_declarator (tree.bare d) = height_declarator d
height_init_declarator (tree.initialized d value) =
    max (height_declarator d) (height_initializer value)

abbrev pub height_init_declarators : List InitDeclarator → ℕ
height_init_declarators [] = 0
height_init_declarators (d ∷ ds) = max (height_init_declarator d) (height_init_declarators ds)

abbrev pub height_declaration : Declaration → ℕ
height_declaration (tree.declaration s ds span) =
    max (height_specifiers s) (height_init_declarators ds)

abbrev pub height_optional : Option Expression → ℕ
height_optional None = 0
height_optional (Some a) = height a

abbrev pub height_start : ForStart → ℕ
height_start (tree.StartsLocal d) = height_declaration d
height_start (tree.StartsExpression a) = height_optional a

abbrev mutual
  pub height_statement : Statement → ℕ
  height_statement (tree.Compound b span) = height_block b + 1
  height_statement (tree.Null span) = 1
  height_statement (tree.ExpressionStatement a span) = height a + 1
  height_statement (tree.If a s span) = max (height a) (height_statement s) + 1
  height_statement (tree.IfElse a s u span) =
      max (height a) (max (height_statement s) (height_statement u)) + 1
  height_statement (tree.Switch a s span) = max (height a) (height_statement s) + 1
  height_statement (tree.While a s span) = max (height a) (height_statement s) + 1
  height_statement (tree.DoWhile s a span) = max (height_statement s) (height a) + 1
  height_statement (tree.For start a b s span) =
      max (max (height_start start) (max (height_optional a) (height_optional b)))
      (height_statement s) + 1
  height_statement (tree.Case a label s span) = max (height a) (height_statement s) + 1
  height_statement (tree.Default label s span) = height_statement s + 1
  height_statement (tree.Label name s span) = height_statement s + 1
  height_statement (tree.Goto name span) = 1
  height_statement (tree.Break span) = 1
  height_statement (tree.Continue span) = 1
  height_statement (tree.Return a span) = height_optional a + 1

  pub height_block : BlockItems → ℕ
  height_block tree.no_block_items = 0
  height_block (tree.local d rest) = max (height_declaration d) (height_block rest)
  height_block (tree.statement s rest) = max (height_statement s) (height_block rest)

-- The body of a function is a compound, and a compound is a statement.
abbrev pub height_item : Item → ℕ
height_item (tree.Declared d) = height_declaration d
height_item (tree.Defined s d b span) =
    max (height_specifiers s) (max (height_declarator d) (height_block b + 1))

abbrev pub height_unit : List Item → ℕ
height_unit [] = 0
height_unit (i ∷ is) = max (height_item i) (height_unit is)
