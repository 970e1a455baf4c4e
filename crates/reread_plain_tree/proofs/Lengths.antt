-- A tree without brackets has no more tokens.
use Rattle.std.proofs.Common.{◌≤◌, ◌+◌, ℕ, zero, suc, Bool, true, false, List, [], ◌∷◌, Option, Some, None, arith}
use Rattle.mc_span.specs.declared.span.Span.{Span}
use Rattle.mc_tree.specs.Tree.{Expression, Expressions, TypeName, Specifier, Specifiers, StructMember, Members, Enumerator, Enumerators, Declarator, Declarators, ArrayLengths, Parameters, Parameter, ParameterList, Initializer, Initializers, InitDeclarator, Declaration, ForStart, Statement, BlockItems, Item, span_of}
use Rattle.mc_tree.specs.Tree as t
use Rattle.mc_tree.specs.Length.{after_comma, of_expression, of_expressions, of_type, of_specifier, of_specifiers, of_member, of_members, of_enumerator, of_enumerators, of_declarator, of_declarators, of_lengths, of_parameters, of_parameter, of_parameter_list, of_initializer, of_initializers, of_init_declarator, of_init_declarators, of_declaration, of_optional, of_start, of_statement, of_block, of_item, token_count}
use Rattle.reread_plain_tree.specs.Unprobed.{is_at, is_probes, parenthesized, compound, unprobed, unprobed_expressions, unprobed_type_name, unprobed_specifier, unprobed_specifiers, unprobed_member, unprobed_members, unprobed_enumerator, unprobed_enumerators, unprobed_declarator, unprobed_declarators, unprobed_lengths, unprobed_parameters, unprobed_parameter, unprobed_parameter_list, unprobed_initializer, unprobed_initializers, unprobed_init_declarator, unprobed_init_declarators, unprobed_declaration, unprobed_optional, unprobed_start, unprobed_statement, unprobed_block, unprobed_item, unprobed_unit}

comma_up : (m n : ℕ) → m ≤ n → after_comma m ≤ after_comma n
comma_up zero n h = omega arith
comma_up (suc m) zero h = absurd (omega (arith, h))
comma_up (suc m) (suc n) h = omega (arith, h)

parenthesized_short : (probes : Bool) (a : Expression) (span : Span) → of_expression (parenthesized probes a span) ≤ of_expression a + 2
parenthesized_short true a span = omega arith
parenthesized_short false a span = omega arith

compound_short : (probes : Bool) (b : BlockItems) (span : Span) → of_statement (compound probes b span) ≤ of_block b + 2
compound_short true t.no_block_items span = omega arith
compound_short true (t.local d rest) span = omega arith
compound_short true (t.statement s t.no_block_items) span = omega arith
compound_short true (t.statement s (t.local d rest)) span = omega arith
compound_short true (t.statement s (t.statement u rest)) span = omega arith
compound_short false b span = omega arith

mutual
  short : (a : Expression) → of_expression (unprobed a) ≤ of_expression a
  short (t.Named name) = omega arith
  short (t.Constant value decimal unsigned longs span) = omega arith
  short (t.Character value span) = omega arith
  short (t.Parenthesized a span) = omega (arith, short a, parenthesized_short (is_at span (span_of a)) (unprobed a) span)
  short (t.Call name all span) = omega (arith, expressions_short all)
  short (t.Index a b span) = omega (arith, short a, short b)
  short (t.Member a name span) = omega (arith, short a)
  short (t.PostfixStep operator a span) = omega (arith, short a)
  short (t.PrefixStep operator a span) = omega (arith, short a)
  short (t.Unary operator a span) = omega (arith, short a)
  short (t.Cast type a span) = omega (arith, type_short type, short a)
  short (t.Binary operator a b span) = omega (arith, short a, short b)
  short (t.Conditional a b c span) = omega (arith, short a, short b, short c)
  short (t.Assignment operator a b span) = omega (arith, short a, short b)
  short (t.Comma all span) = omega (arith, expressions_short all)

  expressions_short : (all : Expressions) → of_expressions (unprobed_expressions all) ≤ of_expressions all
  expressions_short t.no_expressions = omega arith
  expressions_short (t.expressions a rest) = omega (arith, short a, comma_up (of_expressions (unprobed_expressions rest)) (of_expressions rest) (expressions_short rest))

  type_short : (type : TypeName) → of_type (unprobed_type_name type) ≤ of_type type
  type_short (t.type_name all stars span) = omega (arith, specifiers_short all)

  specifier_short : (one : Specifier) → of_specifier (unprobed_specifier one) ≤ of_specifier one
  specifier_short (t.Word w span) = omega arith
  specifier_short (t.TypedefName name) = omega arith
  specifier_short (t.StructureTag name span) = omega arith
  specifier_short (t.Structure tag all span) = omega (arith, members_short all)
  specifier_short (t.EnumerationTag name span) = omega arith
  specifier_short (t.Enumeration tag all span) = omega (arith, enumerators_short all)

  specifiers_short : (all : Specifiers) → of_specifiers (unprobed_specifiers all) ≤ of_specifiers all
  specifiers_short t.no_specifiers = omega arith
  specifiers_short (t.specifiers one rest) = omega (arith, specifier_short one, specifiers_short rest)

  member_short : (one : StructMember) → of_member (unprobed_member one) ≤ of_member one
  member_short (t.member words all span) = omega (arith, specifiers_short words, declarators_short all)

  members_short : (all : Members) → of_members (unprobed_members all) ≤ of_members all
  members_short t.no_members = omega arith
  members_short (t.members one rest) = omega (arith, member_short one, members_short rest)

  enumerator_short : (one : Enumerator) → of_enumerator (unprobed_enumerator one) ≤ of_enumerator one
  enumerator_short (t.enumerator name) = omega arith
  enumerator_short (t.valued_enumerator name a) = omega (arith, short a)

  enumerators_short : (all : Enumerators) → of_enumerators (unprobed_enumerators all) ≤ of_enumerators all
  enumerators_short t.no_enumerators = omega arith
  enumerators_short (t.enumerators one rest) = omega (arith, enumerator_short one, comma_up (of_enumerators (unprobed_enumerators rest)) (of_enumerators rest) (enumerators_short rest))

  declarator_short : (one : Declarator) → of_declarator (unprobed_declarator one) ≤ of_declarator one
  declarator_short (t.object stars name all span) = omega (arith, lengths_short all)
  declarator_short (t.function stars name all span) = omega (arith, parameters_short all)

  declarators_short : (all : Declarators) → of_declarators (unprobed_declarators all) ≤ of_declarators all
  declarators_short t.no_declarators = omega arith
  declarators_short (t.declarators one rest) = omega (arith, declarator_short one, comma_up (of_declarators (unprobed_declarators rest)) (of_declarators rest) (declarators_short rest))

  lengths_short : (all : ArrayLengths) → of_lengths (unprobed_lengths all) ≤ of_lengths all
  lengths_short t.no_lengths = omega arith
  lengths_short (t.absent_length rest) = omega (arith, lengths_short rest)
  lengths_short (t.given_length a rest) = omega (arith, short a, lengths_short rest)

  parameters_short : (all : Parameters) → of_parameters (unprobed_parameters all) ≤ of_parameters all
  parameters_short (t.Empty span) = omega arith
  parameters_short (t.Void span) = omega arith
  parameters_short (t.Listed all span) = omega (arith, parameter_list_short all)

  parameter_short : (one : Parameter) → of_parameter (unprobed_parameter one) ≤ of_parameter one
  parameter_short (t.parameter words stars name all span) = omega (arith, specifiers_short words, lengths_short all)

  parameter_list_short : (all : ParameterList) → of_parameter_list (unprobed_parameter_list all) ≤ of_parameter_list all
  parameter_list_short t.no_parameters = omega arith
  parameter_list_short (t.parameters one rest) = omega (arith, parameter_short one, comma_up (of_parameter_list (unprobed_parameter_list rest)) (of_parameter_list rest) (parameter_list_short rest))

mutual
  initializer_short : (one : Initializer) → of_initializer (unprobed_initializer one) ≤ of_initializer one
  initializer_short (t.Single a) = omega (arith, short a)
  initializer_short (t.Braced all span) = omega (arith, initializers_short all)

  initializers_short : (all : Initializers) → of_initializers (unprobed_initializers all) ≤ of_initializers all
  initializers_short t.no_initializers = omega arith
  initializers_short (t.initializers one rest) = omega (arith, initializer_short one, comma_up (of_initializers (unprobed_initializers rest)) (of_initializers rest) (initializers_short rest))

init_declarator_short : (one : InitDeclarator) → of_init_declarator (unprobed_init_declarator one) ≤ of_init_declarator one
init_declarator_short (t.bare d) = omega (arith, declarator_short d)
init_declarator_short (t.initialized d value) = omega (arith, declarator_short d, initializer_short value)

init_declarators_short : (all : List InitDeclarator) → of_init_declarators (unprobed_init_declarators all) ≤ of_init_declarators all
init_declarators_short [] = omega arith
init_declarators_short (one ∷ rest) = omega (arith, init_declarator_short one, comma_up (of_init_declarators (unprobed_init_declarators rest)) (of_init_declarators rest) (init_declarators_short rest))

declaration_short : (one : Declaration) → of_declaration (unprobed_declaration one) ≤ of_declaration one
declaration_short (t.declaration words all span) = omega (arith, specifiers_short words, init_declarators_short all)

optional_short : (a : Option Expression) → of_optional (unprobed_optional a) ≤ of_optional a
optional_short None = omega arith
optional_short (Some a) = omega (arith, short a)

start_short : (start : ForStart) → of_start (unprobed_start start) ≤ of_start start
start_short (t.StartsLocal d) = omega (arith, declaration_short d)
start_short (t.StartsExpression a) = omega (arith, optional_short a)

mutual
  statement_short : (one : Statement) → of_statement (unprobed_statement one) ≤ of_statement one
  statement_short (t.Compound b span) = omega (arith, block_short b, compound_short (is_probes b span) (unprobed_block b) span)
  statement_short (t.Null span) = omega arith
  statement_short (t.ExpressionStatement a span) = omega (arith, short a)
  statement_short (t.If a s span) = omega (arith, short a, statement_short s)
  statement_short (t.IfElse a s u span) = omega (arith, short a, statement_short s, statement_short u)
  statement_short (t.Switch a s span) = omega (arith, short a, statement_short s)
  statement_short (t.While a s span) = omega (arith, short a, statement_short s)
  statement_short (t.DoWhile s a span) = omega (arith, statement_short s, short a)
  statement_short (t.For start a b s span) = omega (arith, start_short start, optional_short a, optional_short b, statement_short s)
  statement_short (t.Case a label s span) = omega (arith, short a, statement_short s)
  statement_short (t.Default label s span) = omega (arith, statement_short s)
  statement_short (t.Label name s span) = omega (arith, statement_short s)
  statement_short (t.Goto name span) = omega arith
  statement_short (t.Break span) = omega arith
  statement_short (t.Continue span) = omega arith
  statement_short (t.Return a span) = omega (arith, optional_short a)

  block_short : (b : BlockItems) → of_block (unprobed_block b) ≤ of_block b
  block_short t.no_block_items = omega arith
  block_short (t.local d rest) = omega (arith, declaration_short d, block_short rest)
  block_short (t.statement s rest) = omega (arith, statement_short s, block_short rest)

item_short : (one : Item) → of_item (unprobed_item one) ≤ of_item one
item_short (t.Declared d) = omega (arith, declaration_short d)
item_short (t.Defined words d b span) = omega (arith, specifiers_short words, declarator_short d, block_short b)

pub unit_short : (unit : List Item) → token_count (unprobed_unit unit) ≤ token_count unit
unit_short [] = omega arith
unit_short (one ∷ rest) = omega (arith, item_short one, unit_short rest)
