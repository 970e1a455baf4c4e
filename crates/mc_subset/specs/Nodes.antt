-- The nodes of a tree, each with what the rows of the table of forms ask of its context. They stand
-- in preorder: a node before its parts, and parts in the order of the text. Names, enumerators,
-- array lengths, initializers and items are not listed, since no row speaks of them; their parts
-- are.
use Rattle.std.specs.Prelude.{Bool, true, false, ◌||◌, List, [], ◌∷◌, ◌++◌, Option, Some, None}
use Rattle.mc_tree.specs.declared.declarations.specifier_word.SpecifierWord.TheVariants as word
use Rattle.mc_tree.specs.Tree.{Expression, Expressions, TypeName, Specifier, Specifiers, StructMember, Members, Enumerator, Enumerators, Declarator, Declarators, ArrayLengths, Parameters, Parameter, ParameterList, Initializer, Initializers, InitDeclarator, Declaration, ForStart, Statement, BlockItems, Item}
use Rattle.mc_tree.specs.Tree as tree
use Rattle.subset_forms.specs.declared.context.Region.{Region}
use Rattle.subset_forms.specs.declared.context.Region.TheVariants.{File, Function}
use Rattle.subset_forms.specs.declared.context.Role.{Role}
use Rattle.subset_forms.specs.declared.context.Role.TheVariants as role
use Rattle.subset_forms.specs.declared.context.Standing.{Standing}
use Rattle.subset_forms.specs.declared.context.Standing.TheVariants as standing
use Rattle.subset_forms.specs.Contexts.{role_of_operands, role_in_parentheses, standing_of_items, standing_of_label}

pub data Node : Type 0 where
  an_expression : Expression → Role → Node
  a_type_name : TypeName → Node
  a_specifier : Specifier → Region → Node
  a_member : StructMember → Node
  -- whether it stands in a local declaration, and whether `extern` is among the specifiers before
  -- it
  a_declarator : Declarator → Bool → Bool → Node
  a_parameter_list : Parameters → Node
  a_parameter : Parameter → Node
  a_declaration : Declaration → Standing → Node
  a_statement : Statement → Standing → Node

-- the nodes after the first
abbrev pub after_first : List Node → List Node
after_first [] = []
after_first (n ∷ rest) = rest

abbrev pub is_extern : Specifier → Bool
is_extern (tree.Word word.Extern span) = true
is_extern _ = false

abbrev pub has_extern : Specifiers → Bool
has_extern tree.no_specifiers = false
has_extern (tree.specifiers s rest) = is_extern s || has_extern rest

-- expressions, and what a declarator is made of, in a region
abbrev mutual
  pub nodes_of_expression : Region → Role → Expression → List Node
  nodes_of_expression g r (tree.Named name) = an_expression (tree.Named name) r ∷ []
  nodes_of_expression g r (tree.Constant value decimal unsigned longs span) =
      an_expression (tree.Constant value decimal unsigned longs span) r ∷ []
  nodes_of_expression g r (tree.Character value span) = an_expression (tree.Character value span)
      r ∷ []
  nodes_of_expression g r (tree.Parenthesized a span) = an_expression (tree.Parenthesized a span) r
      ∷ nodes_of_expression g (role_in_parentheses r) a
  nodes_of_expression g r (tree.Call name all span) = an_expression (tree.Call name all span) r
      ∷ nodes_of_expressions g role.Part all
  nodes_of_expression g r (tree.Index a b span) = an_expression (tree.Index a b span) r
      ∷ (nodes_of_expression g role.Part a ++ nodes_of_expression g role.Part b)
  nodes_of_expression g r (tree.Member a name span) = an_expression (tree.Member a name span) r
      ∷ nodes_of_expression g role.Part a
  nodes_of_expression g r (tree.PostfixStep operator a span) =
      an_expression (tree.PostfixStep operator a span) r ∷ nodes_of_expression g role.Part a
  nodes_of_expression g r (tree.PrefixStep operator a span) =
      an_expression (tree.PrefixStep operator a span) r ∷ nodes_of_expression g role.Part a
  nodes_of_expression g r (tree.Unary operator a span) = an_expression
      (tree.Unary operator a span) r
      ∷ nodes_of_expression g role.Part a
  nodes_of_expression g r (tree.Cast type a span) = an_expression (tree.Cast type a span) r
      ∷ (nodes_of_type g type ++ nodes_of_expression g role.Part a)
  nodes_of_expression g r (tree.Binary operator a b span) =
      an_expression (tree.Binary operator a b span) r
      ∷ (nodes_of_expression g role.Part a ++ nodes_of_expression g role.Part b)
  nodes_of_expression g r (tree.Conditional a b c span) = an_expression
      (tree.Conditional a b c span) r
      ∷ (nodes_of_expression g role.Part a
      ++ (nodes_of_expression g role.Part b ++ nodes_of_expression g role.Part c))
  nodes_of_expression g r (tree.Assignment operator a b span) =
      an_expression (tree.Assignment operator a b span) r
      ∷ (nodes_of_expression g role.Part a ++ nodes_of_expression g role.Part b)
  nodes_of_expression g r (tree.Comma all span) = an_expression (tree.Comma all span) r
      ∷ nodes_of_expressions g (role_of_operands r) all

  pub nodes_of_expressions : Region → Role → Expressions → List Node
  nodes_of_expressions g r tree.no_expressions = []
  nodes_of_expressions g r (tree.expressions a rest) = nodes_of_expression g r a
      ++ nodes_of_expressions g r rest

  pub nodes_of_type : Region → TypeName → List Node
  nodes_of_type g (tree.type_name s stars span) = a_type_name (tree.type_name s stars span)
      ∷ nodes_of_specifiers g s

  pub nodes_of_specifier : Region → Specifier → List Node
  nodes_of_specifier g (tree.Word w span) = a_specifier (tree.Word w span) g ∷ []
  nodes_of_specifier g (tree.TypedefName name) = a_specifier (tree.TypedefName name) g ∷ []
  nodes_of_specifier g (tree.StructureTag name span) = a_specifier (tree.StructureTag name span) g
      ∷ []
  nodes_of_specifier g (tree.Structure tag all span) = a_specifier (tree.Structure tag all span) g
      ∷ nodes_of_members g all
  nodes_of_specifier g (tree.EnumerationTag name span) = a_specifier
      (tree.EnumerationTag name span) g
      ∷ []
  nodes_of_specifier g (tree.Enumeration tag all span) = a_specifier
      (tree.Enumeration tag all span) g
      ∷ nodes_of_enumerators g all

  pub nodes_of_specifiers : Region → Specifiers → List Node
  nodes_of_specifiers g tree.no_specifiers = []
  nodes_of_specifiers g (tree.specifiers s rest) = nodes_of_specifier g s
      ++ nodes_of_specifiers g rest

  pub nodes_of_member : Region → StructMember → List Node
  nodes_of_member g (tree.member s ds span) = a_member (tree.member s ds span)
      ∷ (nodes_of_specifiers g s ++ nodes_of_declarators g (has_extern s) ds)

  pub nodes_of_members : Region → Members → List Node
  nodes_of_members g tree.no_members = []
  nodes_of_members g (tree.members m rest) = nodes_of_member g m ++ nodes_of_members g rest

  pub nodes_of_enumerator : Region → Enumerator → List Node
  nodes_of_enumerator g (tree.enumerator name) = []
  nodes_of_enumerator g (tree.valued_enumerator name a) = nodes_of_expression g role.Part a

  pub nodes_of_enumerators : Region → Enumerators → List Node
  nodes_of_enumerators g tree.no_enumerators = []
  nodes_of_enumerators g (tree.enumerators e rest) = nodes_of_enumerator g e
      ++ nodes_of_enumerators g rest

  -- `local` and `external` as at its node
  pub nodes_of_declarator : Region → Bool → Bool → Declarator → List Node
  nodes_of_declarator g local external (tree.object stars name all span) =
      a_declarator (tree.object stars name all span) local external ∷ nodes_of_lengths g all
  nodes_of_declarator g local external (tree.function stars name all span) =
      a_declarator (tree.function stars name all span) local external ∷ nodes_of_parameters all

  -- those of a member, whose declaration is not local
  pub nodes_of_declarators : Region → Bool → Declarators → List Node
  nodes_of_declarators g external tree.no_declarators = []
  nodes_of_declarators g external (tree.declarators d rest) = nodes_of_declarator g false external d
      ++ nodes_of_declarators g external rest

  pub nodes_of_lengths : Region → ArrayLengths → List Node
  nodes_of_lengths g tree.no_lengths = []
  nodes_of_lengths g (tree.absent_length rest) = nodes_of_lengths g rest
  nodes_of_lengths g (tree.given_length a rest) = nodes_of_expression g role.Part a
      ++ nodes_of_lengths g rest

  pub nodes_of_parameters : Parameters → List Node
  nodes_of_parameters (tree.Empty span) = a_parameter_list (tree.Empty span) ∷ []
  nodes_of_parameters (tree.Void span) = a_parameter_list (tree.Void span) ∷ []
  nodes_of_parameters (tree.Listed all span) = a_parameter_list (tree.Listed all span)
      ∷ nodes_of_parameter_list all

  pub nodes_of_parameter : Parameter → List Node
  nodes_of_parameter (tree.parameter s stars name all span) =
      a_parameter (tree.parameter s stars name all span)
      ∷ (nodes_of_specifiers Function s ++ nodes_of_lengths Function all)

  pub nodes_of_parameter_list : ParameterList → List Node
  nodes_of_parameter_list tree.no_parameters = []
  nodes_of_parameter_list (tree.parameters p rest) = nodes_of_parameter p
      ++ nodes_of_parameter_list rest

abbrev mutual
  pub nodes_of_initializer : Region → Initializer → List Node
  nodes_of_initializer g (tree.Single a) = nodes_of_expression g role.Part a
  nodes_of_initializer g (tree.Braced all span) = nodes_of_initializers g all

  pub nodes_of_initializers : Region → Initializers → List Node
  nodes_of_initializers g tree.no_initializers = []
  nodes_of_initializers g (tree.initializers one rest) = nodes_of_initializer g one
      ++ nodes_of_initializers g rest

-- a declaration is local where it stands inside a function definition
abbrev pub is_local : Region → Bool
is_local Function = true
is_local File = false

abbrev pub nodes_of_init_declarator : Region → Bool → InitDeclarator → List Node
nodes_of_init_declarator g external (tree.bare d) = nodes_of_declarator g (is_local g) external d
nodes_of_init_declarator g external (tree.initialized d value) =
    nodes_of_declarator g (is_local g) external d ++ nodes_of_initializer g value

abbrev pub nodes_of_init_declarators : Region → Bool → List InitDeclarator → List Node
nodes_of_init_declarators g external [] = []
nodes_of_init_declarators g external (d ∷ rest) = nodes_of_init_declarator g external d
    ++ nodes_of_init_declarators g external rest

abbrev pub nodes_of_declaration : Region → Standing → Declaration → List Node
nodes_of_declaration g w (tree.declaration s ds span) = a_declaration (tree.declaration s ds span) w
    ∷ (nodes_of_specifiers g s ++ nodes_of_init_declarators g (has_extern s) ds)

abbrev pub nodes_of_optional : Role → Option Expression → List Node
nodes_of_optional r None = []
nodes_of_optional r (Some a) = nodes_of_expression Function r a

abbrev pub nodes_of_start : ForStart → List Node
nodes_of_start (tree.StartsLocal d) = nodes_of_declaration Function standing.Elsewhere d
nodes_of_start (tree.StartsExpression a) = nodes_of_optional role.ForPart a

-- the three parts of a `for`
abbrev pub nodes_of_parts : ForStart → Option Expression → Option Expression → List Node
nodes_of_parts start a b = nodes_of_start start
    ++ (nodes_of_optional role.Part a ++ nodes_of_optional role.ForPart b)

-- where a statement stands whose place in its compound statement is `w`
abbrev pub standing_from : Statement → Standing → Standing
standing_from (tree.Case a label s span) w = standing_of_label w
standing_from (tree.Default label s span) w = standing_of_label w
standing_from _ w = w

abbrev mutual
  -- the statement of a `case` or `default` label stands where the label stands
  pub nodes_of_statement : Standing → Statement → List Node
  nodes_of_statement w (tree.Compound b span) = a_statement (tree.Compound b span) w
      ∷ nodes_of_block (standing_of_items w) b
  nodes_of_statement w (tree.Null span) = a_statement (tree.Null span) w ∷ []
  nodes_of_statement w (tree.ExpressionStatement a span) = a_statement
      (tree.ExpressionStatement a span) w
      ∷ nodes_of_expression Function role.Statement a
  nodes_of_statement w (tree.If a s span) = a_statement (tree.If a s span) w
      ∷ (nodes_of_expression Function role.Part a ++ nodes_of_statement standing.Elsewhere s)
  nodes_of_statement w (tree.IfElse a s u span) = a_statement (tree.IfElse a s u span) w
      ∷ (nodes_of_expression Function role.Part a
      ++ (nodes_of_statement standing.Elsewhere s ++ nodes_of_statement standing.Elsewhere u))
  nodes_of_statement w (tree.Switch a s span) = a_statement (tree.Switch a s span) w
      ∷ (nodes_of_expression Function role.Part a ++ nodes_of_statement standing.Body s)
  nodes_of_statement w (tree.While a s span) = a_statement (tree.While a s span) w
      ∷ (nodes_of_expression Function role.Part a ++ nodes_of_statement standing.Elsewhere s)
  nodes_of_statement w (tree.DoWhile s a span) = a_statement (tree.DoWhile s a span) w
      ∷ (nodes_of_statement standing.Elsewhere s ++ nodes_of_expression Function role.Part a)
  nodes_of_statement w (tree.For start a b s span) = a_statement (tree.For start a b s span) w
      ∷ (nodes_of_parts start a b ++ nodes_of_statement standing.Elsewhere s)
  nodes_of_statement w (tree.Case a label s span) = a_statement (tree.Case a label s span) w
      ∷ (nodes_of_expression Function role.Part a ++ nodes_of_statement w s)
  nodes_of_statement w (tree.Default label s span) = a_statement (tree.Default label s span) w
      ∷ nodes_of_statement w s
  nodes_of_statement w (tree.Label name s span) = a_statement (tree.Label name s span) w
      ∷ nodes_of_statement standing.Elsewhere s
  nodes_of_statement w (tree.Goto name span) = a_statement (tree.Goto name span) w ∷ []
  nodes_of_statement w (tree.Break span) = a_statement (tree.Break span) w ∷ []
  nodes_of_statement w (tree.Continue span) = a_statement (tree.Continue span) w ∷ []
  nodes_of_statement w (tree.Return a span) = a_statement (tree.Return a span) w
      ∷ nodes_of_optional role.Part a

  -- the items of a compound statement from the place `w` on
  pub nodes_of_block : Standing → BlockItems → List Node
  nodes_of_block w tree.no_block_items = []
  nodes_of_block w (tree.local d rest) = nodes_of_declaration Function w d ++ nodes_of_block w rest
  nodes_of_block w (tree.statement s rest) = nodes_of_statement (standing_from s w) s
      ++ nodes_of_block (standing_from s w) rest

-- the place after the first of these items
abbrev pub standing_after : BlockItems → Standing → Standing
standing_after tree.no_block_items w = w
standing_after (tree.local d rest) w = w
standing_after (tree.statement s rest) w = standing_from s w

-- a function definition's type words and declarator stand inside it
abbrev pub nodes_of_item : Item → List Node
nodes_of_item (tree.Declared d) = nodes_of_declaration File standing.Elsewhere d
nodes_of_item (tree.Defined s d b span) = nodes_of_specifiers Function s
    ++ (nodes_of_declarator Function false (has_extern s) d ++ nodes_of_block standing.Elsewhere b)

abbrev pub nodes_of_unit : List Item → List Node
nodes_of_unit [] = []
nodes_of_unit (i ∷ rest) = nodes_of_item i ++ nodes_of_unit rest
