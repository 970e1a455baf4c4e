-- How many tokens a tree stands for, where no list has a comma after its last part.
use Rattle.std.specs.Prelude.{ℕ, zero, suc, ◌+◌, List, [], ◌∷◌, Option, Some, None}
use Rattle.mc_tree.specs.Tree.{Name, Expression, Expressions, TypeName, Specifier, Specifiers, StructMember, Members, Enumerator, Enumerators, Declarator, Declarators, ArrayLengths, Parameters, Parameter, ParameterList, Initializer, Initializers, InitDeclarator, Declaration, ForStart, Statement, BlockItems, Item}
use Rattle.mc_tree.specs.Tree as tree

-- the rest of a list with commas: a comma stands before it where it has tokens, as each part of a
-- tree of the grammar has
abbrev pub after_comma : ℕ → ℕ
after_comma zero = 0
after_comma (suc n) = n + 2

abbrev pub of_name : Option Name → ℕ
of_name None = 0
of_name (Some name) = 1

abbrev mutual
  pub of_expression : Expression → ℕ
  of_expression (tree.Named name) = 1
  of_expression (tree.Constant value decimal unsigned longs span) = 1
  of_expression (tree.Character value span) = 1
  of_expression (tree.Parenthesized inner span) = of_expression inner + 2
  of_expression (tree.Call name arguments span) = of_expressions arguments + 3
  of_expression (tree.Index a b span) = of_expression a + of_expression b + 2
  of_expression (tree.Member a name span) = of_expression a + 2
  of_expression (tree.PostfixStep operator a span) = of_expression a + 1
  of_expression (tree.PrefixStep operator a span) = of_expression a + 1
  of_expression (tree.Unary operator a span) = of_expression a + 1
  of_expression (tree.Cast type a span) = of_type type + of_expression a + 2
  of_expression (tree.Binary operator a b span) = of_expression a + of_expression b + 1
  of_expression (tree.Conditional a b c span) = of_expression a + of_expression b + of_expression
      c + 2
  of_expression (tree.Assignment operator a b span) = of_expression a + of_expression b + 1
  of_expression (tree.Comma operands span) = of_expressions operands

  pub of_expressions : Expressions → ℕ
  of_expressions tree.no_expressions = 0
  of_expressions (tree.expressions a rest) = of_expression a + after_comma (of_expressions rest)

  pub of_type : TypeName → ℕ
  of_type (tree.type_name s stars span) = of_specifiers s + stars

  pub of_specifier : Specifier → ℕ
  of_specifier (tree.Word w span) = 1
  of_specifier (tree.TypedefName name) = 1
  of_specifier (tree.StructureTag name span) = 2
  of_specifier (tree.Structure tag ms span) = of_name tag + of_members ms + 3
  of_specifier (tree.EnumerationTag name span) = 2
  of_specifier (tree.Enumeration tag es span) = of_name tag + of_enumerators es + 3

  pub of_specifiers : Specifiers → ℕ
  of_specifiers tree.no_specifiers = 0
  of_specifiers (tree.specifiers s rest) = of_specifier s + of_specifiers rest

  pub of_member : StructMember → ℕ
  of_member (tree.member s ds span) = of_specifiers s + of_declarators ds + 1

  pub of_members : Members → ℕ
  of_members tree.no_members = 0
  of_members (tree.members m rest) = of_member m + of_members rest

  pub of_enumerator : Enumerator → ℕ
  of_enumerator (tree.enumerator name) = 1
  of_enumerator (tree.valued_enumerator name a) = of_expression a + 2

  pub of_enumerators : Enumerators → ℕ
  of_enumerators tree.no_enumerators = 0
  of_enumerators (tree.enumerators e rest) = of_enumerator e + after_comma (of_enumerators rest)

  pub of_declarator : Declarator → ℕ
  of_declarator (tree.object stars name all span) = stars + of_lengths all + 1
  of_declarator (tree.function stars name ps span) = stars + of_parameters ps + 1

  pub of_declarators : Declarators → ℕ
  of_declarators tree.no_declarators = 0
  of_declarators (tree.declarators d rest) = of_declarator d + after_comma (of_declarators rest)

  pub of_lengths : ArrayLengths → ℕ
  of_lengths tree.no_lengths = 0
  of_lengths (tree.absent_length rest) = of_lengths rest + 2
  of_lengths (tree.given_length a rest) = of_expression a + of_lengths rest + 2

  pub of_parameters : Parameters → ℕ
  of_parameters (tree.Empty span) = 2
  of_parameters (tree.Void span) = 3
  of_parameters (tree.Listed ps span) = of_parameter_list ps + 2

  pub of_parameter : Parameter → ℕ
  of_parameter (tree.parameter s stars name all span) = of_specifiers s + stars + of_name name
      + of_lengths all

  pub of_parameter_list : ParameterList → ℕ
  of_parameter_list tree.no_parameters = 0
  of_parameter_list (tree.parameters p rest) = of_parameter p + after_comma (of_parameter_list rest)

abbrev mutual
  pub of_initializer : Initializer → ℕ
  of_initializer (tree.Single a) = of_expression a
  of_initializer (tree.Braced all span) = of_initializers all + 2

  pub of_initializers : Initializers → ℕ
  of_initializers tree.no_initializers = 0
  of_initializers (tree.initializers one rest) = of_initializer one
      + after_comma (of_initializers rest)

abbrev pub of_init_declarator : InitDeclarator → ℕ
of_init_declarator (tree.bare d) = of_declarator d
of_init_declarator (tree.initialized d value) = of_declarator d + of_initializer value + 1

abbrev pub of_init_declarators : List InitDeclarator → ℕ
of_init_declarators [] = 0
of_init_declarators (d ∷ ds) = of_init_declarator d + after_comma (of_init_declarators ds)

abbrev pub of_declaration : Declaration → ℕ
of_declaration (tree.declaration s ds span) = of_specifiers s + of_init_declarators ds + 1

abbrev pub of_optional : Option Expression → ℕ
of_optional None = 0
of_optional (Some a) = of_expression a

-- with its `;`
abbrev pub of_start : ForStart → ℕ
of_start (tree.StartsLocal d) = of_declaration d
of_start (tree.StartsExpression a) = of_optional a + 1

abbrev mutual
  pub of_statement : Statement → ℕ
  of_statement (tree.Compound b span) = of_block b + 2
  of_statement (tree.Null span) = 1
  of_statement (tree.ExpressionStatement a span) = of_expression a + 1
  of_statement (tree.If a s span) = of_expression a + of_statement s + 3
  of_statement (tree.IfElse a s u span) = of_expression a + of_statement s + of_statement u + 4
  of_statement (tree.Switch a s span) = of_expression a + of_statement s + 3
  of_statement (tree.While a s span) = of_expression a + of_statement s + 3
  of_statement (tree.DoWhile s a span) = of_statement s + of_expression a + 5
  of_statement (tree.For start a b s span) = of_start start + of_optional a + of_optional b
      + of_statement s + 4
  of_statement (tree.Case a label s span) = of_expression a + of_statement s + 2
  of_statement (tree.Default label s span) = of_statement s + 2
  of_statement (tree.Label name s span) = of_statement s + 2
  of_statement (tree.Goto name span) = 3
  of_statement (tree.Break span) = 2
  of_statement (tree.Continue span) = 2
  of_statement (tree.Return a span) = of_optional a + 2

  pub of_block : BlockItems → ℕ
  of_block tree.no_block_items = 0
  of_block (tree.local d rest) = of_declaration d + of_block rest
  of_block (tree.statement s rest) = of_statement s + of_block rest

abbrev pub of_item : Item → ℕ
of_item (tree.Declared d) = of_declaration d
of_item (tree.Defined s d b span) = of_specifiers s + of_declarator d + of_block b + 2

-- how many tokens a unit stands for
abbrev pub token_count : List Item → ℕ
token_count [] = 0
token_count (i ∷ is) = of_item i + token_count is
