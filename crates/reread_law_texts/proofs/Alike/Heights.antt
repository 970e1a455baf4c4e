-- A moved tree is as high.
use Rattle.std.proofs.Common.{◌≡◌, List, [], ◌∷◌, Option, Some, None, refl}
use Rattle.mc_tree.specs.Tree.{Expression, Expressions, TypeName, Specifier, Specifiers, StructMember, Members, Enumerator, Enumerators, Declarator, Declarators, ArrayLengths, Parameters, Parameter, ParameterList, Initializer, Initializers, InitDeclarator, Declaration, ForStart, Statement, BlockItems, Item}
use Rattle.mc_tree.specs.Tree as t
use Rattle.mc_tree.specs.Height.{height, tallest, height_type, height_specifier, height_specifiers, height_member, height_members, height_enumerator, height_enumerators, height_declarator, height_declarators, height_lengths, height_parameters, height_parameter, height_parameter_list, height_initializer, height_initializers, height_init_declarator, height_init_declarators, height_declaration, height_optional, height_start, height_statement, height_block, height_item, height_unit}
use Rattle.reread_law_texts.specs.alike.Moves.{Move}
use Rattle.reread_law_texts.specs.alike.Trees.{moved, moved_expressions, moved_type_name, moved_specifier, moved_specifiers, moved_member, moved_members, moved_enumerator, moved_enumerators, moved_declarator, moved_declarators, moved_lengths, moved_parameters, moved_parameter, moved_parameter_list, moved_initializer, moved_initializers, moved_init_declarator, moved_init_declarators, moved_declaration, moved_optional, moved_start, moved_statement, moved_block, moved_item, moved_unit}

mutual
  high : (m : Move) (a : Expression) → height (moved m a) ≡ height a
  high m (t.Named name) = refl
  high m (t.Constant value decimal unsigned longs span) = refl
  high m (t.Character value span) = refl
  high m (t.Parenthesized a span) = rw (high m a)
  high m (t.Call name all span) = rw (expressions_high m all)
  high m (t.Index a b span) = rw (high m a, high m b)
  high m (t.Member a name span) = rw (high m a)
  high m (t.PostfixStep operator a span) = rw (high m a)
  high m (t.PrefixStep operator a span) = rw (high m a)
  high m (t.Unary operator a span) = rw (high m a)
  high m (t.Cast type a span) = rw (type_high m type, high m a)
  high m (t.Binary operator a b span) = rw (high m a, high m b)
  high m (t.Conditional a b c span) = rw (high m a, high m b, high m c)
  high m (t.Assignment operator a b span) = rw (high m a, high m b)
  high m (t.Comma all span) = rw (expressions_high m all)

  expressions_high : (m : Move) (all : Expressions) → tallest (moved_expressions m all) ≡ tallest all
  expressions_high m t.no_expressions = refl
  expressions_high m (t.expressions a rest) = rw (high m a, expressions_high m rest)

  type_high : (m : Move) (type : TypeName) → height_type (moved_type_name m type) ≡ height_type type
  type_high m (t.type_name all stars span) = specifiers_high m all

  specifier_high : (m : Move) (one : Specifier) → height_specifier (moved_specifier m one) ≡ height_specifier one
  specifier_high m (t.Word w span) = refl
  specifier_high m (t.TypedefName name) = refl
  specifier_high m (t.StructureTag name span) = refl
  specifier_high m (t.Structure tag all span) = rw (members_high m all)
  specifier_high m (t.EnumerationTag name span) = refl
  specifier_high m (t.Enumeration tag all span) = rw (enumerators_high m all)

  specifiers_high : (m : Move) (all : Specifiers) → height_specifiers (moved_specifiers m all) ≡ height_specifiers all
  specifiers_high m t.no_specifiers = refl
  specifiers_high m (t.specifiers one rest) = rw (specifier_high m one, specifiers_high m rest)

  member_high : (m : Move) (one : StructMember) → height_member (moved_member m one) ≡ height_member one
  member_high m (t.member words all span) = rw (specifiers_high m words, declarators_high m all)

  members_high : (m : Move) (all : Members) → height_members (moved_members m all) ≡ height_members all
  members_high m t.no_members = refl
  members_high m (t.members one rest) = rw (member_high m one, members_high m rest)

  enumerator_high : (m : Move) (one : Enumerator) → height_enumerator (moved_enumerator m one) ≡ height_enumerator one
  enumerator_high m (t.enumerator name) = refl
  enumerator_high m (t.valued_enumerator name a) = high m a

  enumerators_high : (m : Move) (all : Enumerators) → height_enumerators (moved_enumerators m all) ≡ height_enumerators all
  enumerators_high m t.no_enumerators = refl
  enumerators_high m (t.enumerators one rest) = rw (enumerator_high m one, enumerators_high m rest)

  declarator_high : (m : Move) (one : Declarator) → height_declarator (moved_declarator m one) ≡ height_declarator one
  declarator_high m (t.object stars name all span) = lengths_high m all
  declarator_high m (t.function stars name all span) = parameters_high m all

  declarators_high : (m : Move) (all : Declarators) → height_declarators (moved_declarators m all) ≡ height_declarators all
  declarators_high m t.no_declarators = refl
  declarators_high m (t.declarators one rest) = rw (declarator_high m one, declarators_high m rest)

  lengths_high : (m : Move) (all : ArrayLengths) → height_lengths (moved_lengths m all) ≡ height_lengths all
  lengths_high m t.no_lengths = refl
  lengths_high m (t.absent_length rest) = lengths_high m rest
  lengths_high m (t.given_length a rest) = rw (high m a, lengths_high m rest)

  parameters_high : (m : Move) (all : Parameters) → height_parameters (moved_parameters m all) ≡ height_parameters all
  parameters_high m (t.Empty span) = refl
  parameters_high m (t.Void span) = refl
  parameters_high m (t.Listed all span) = parameter_list_high m all

  parameter_high : (m : Move) (one : Parameter) → height_parameter (moved_parameter m one) ≡ height_parameter one
  parameter_high m (t.parameter words stars name all span) = rw (specifiers_high m words, lengths_high m all)

  parameter_list_high : (m : Move) (all : ParameterList) → height_parameter_list (moved_parameter_list m all) ≡ height_parameter_list all
  parameter_list_high m t.no_parameters = refl
  parameter_list_high m (t.parameters one rest) = rw (parameter_high m one, parameter_list_high m rest)

mutual
  initializer_high : (m : Move) (one : Initializer) → height_initializer (moved_initializer m one) ≡ height_initializer one
  initializer_high m (t.Single a) = rw (high m a)
  initializer_high m (t.Braced all span) = rw (initializers_high m all)

  initializers_high : (m : Move) (all : Initializers) → height_initializers (moved_initializers m all) ≡ height_initializers all
  initializers_high m t.no_initializers = refl
  initializers_high m (t.initializers one rest) = rw (initializer_high m one, initializers_high m rest)

init_declarator_high : (m : Move) (one : InitDeclarator) → height_init_declarator (moved_init_declarator m one) ≡ height_init_declarator one
init_declarator_high m (t.bare d) = declarator_high m d
init_declarator_high m (t.initialized d value) = rw (declarator_high m d, initializer_high m value)

init_declarators_high : (m : Move) (all : List InitDeclarator) → height_init_declarators (moved_init_declarators m all) ≡ height_init_declarators all
init_declarators_high m [] = refl
init_declarators_high m (one ∷ rest) = rw (init_declarator_high m one, init_declarators_high m rest)

declaration_high : (m : Move) (one : Declaration) → height_declaration (moved_declaration m one) ≡ height_declaration one
declaration_high m (t.declaration words all span) = rw (specifiers_high m words, init_declarators_high m all)

optional_high : (m : Move) (a : Option Expression) → height_optional (moved_optional m a) ≡ height_optional a
optional_high m None = refl
optional_high m (Some a) = high m a

start_high : (m : Move) (start : ForStart) → height_start (moved_start m start) ≡ height_start start
start_high m (t.StartsLocal d) = declaration_high m d
start_high m (t.StartsExpression a) = optional_high m a

mutual
  statement_high : (m : Move) (one : Statement) → height_statement (moved_statement m one) ≡ height_statement one
  statement_high m (t.Compound b span) = rw (block_high m b)
  statement_high m (t.Null span) = refl
  statement_high m (t.ExpressionStatement a span) = rw (high m a)
  statement_high m (t.If a s span) = rw (high m a, statement_high m s)
  statement_high m (t.IfElse a s u span) = rw (high m a, statement_high m s, statement_high m u)
  statement_high m (t.Switch a s span) = rw (high m a, statement_high m s)
  statement_high m (t.While a s span) = rw (high m a, statement_high m s)
  statement_high m (t.DoWhile s a span) = rw (statement_high m s, high m a)
  statement_high m (t.For start a b s span) = rw (start_high m start, optional_high m a, optional_high m b, statement_high m s)
  statement_high m (t.Case a label s span) = rw (high m a, statement_high m s)
  statement_high m (t.Default label s span) = rw (statement_high m s)
  statement_high m (t.Label name s span) = rw (statement_high m s)
  statement_high m (t.Goto name span) = refl
  statement_high m (t.Break span) = refl
  statement_high m (t.Continue span) = refl
  statement_high m (t.Return a span) = rw (optional_high m a)

  block_high : (m : Move) (b : BlockItems) → height_block (moved_block m b) ≡ height_block b
  block_high m t.no_block_items = refl
  block_high m (t.local d rest) = rw (declaration_high m d, block_high m rest)
  block_high m (t.statement s rest) = rw (statement_high m s, block_high m rest)

item_high : (m : Move) (one : Item) → height_item (moved_item m one) ≡ height_item one
item_high m (t.Declared d) = declaration_high m d
item_high m (t.Defined words d b span) = rw (specifiers_high m words, declarator_high m d, block_high m b)

pub unit_high : (m : Move) (unit : List Item) → height_unit (moved_unit m unit) ≡ height_unit unit
unit_high m [] = refl
unit_high m (one ∷ rest) = rw (item_high m one, unit_high m rest)
