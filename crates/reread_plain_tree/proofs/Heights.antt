-- A tree without brackets is no higher.
use Rattle.std.proofs.Common.{◌≤◌, ◌+◌, Bool, true, false, List, [], ◌∷◌, Option, Some, None, arith}
use Rattle.mc_span.specs.declared.span.Span.{Span}
use Rattle.mc_tree.specs.Tree.{Expression, Expressions, TypeName, Specifier, Specifiers, StructMember, Members, Enumerator, Enumerators, Declarator, Declarators, ArrayLengths, Parameters, Parameter, ParameterList, Initializer, Initializers, InitDeclarator, Declaration, ForStart, Statement, BlockItems, Item, span_of}
use Rattle.mc_tree.specs.Tree as t
use Rattle.mc_tree.specs.Height.{height, tallest, height_type, height_specifier, height_specifiers, height_member, height_members, height_enumerator, height_enumerators, height_declarator, height_declarators, height_lengths, height_parameters, height_parameter, height_parameter_list, height_initializer, height_initializers, height_init_declarator, height_init_declarators, height_declaration, height_optional, height_start, height_statement, height_block, height_item, height_unit}
use Rattle.reread_plain_tree.specs.Unprobed.{is_at, is_probes, parenthesized, compound, unprobed, unprobed_expressions, unprobed_type_name, unprobed_specifier, unprobed_specifiers, unprobed_member, unprobed_members, unprobed_enumerator, unprobed_enumerators, unprobed_declarator, unprobed_declarators, unprobed_lengths, unprobed_parameters, unprobed_parameter, unprobed_parameter_list, unprobed_initializer, unprobed_initializers, unprobed_init_declarator, unprobed_init_declarators, unprobed_declaration, unprobed_optional, unprobed_start, unprobed_statement, unprobed_block, unprobed_item, unprobed_unit}

parenthesized_low : (probes : Bool) (a : Expression) (span : Span) → height (parenthesized probes a span) ≤ height a + 1
parenthesized_low true a span = omega arith
parenthesized_low false a span = omega arith

compound_low : (probes : Bool) (b : BlockItems) (span : Span) → height_statement (compound probes b span) ≤ height_block b + 1
compound_low true t.no_block_items span = omega arith
compound_low true (t.local d rest) span = omega arith
compound_low true (t.statement s t.no_block_items) span = omega arith
compound_low true (t.statement s (t.local d rest)) span = omega arith
compound_low true (t.statement s (t.statement u rest)) span = omega arith
compound_low false b span = omega arith

mutual
  low : (a : Expression) → height (unprobed a) ≤ height a
  low (t.Named name) = omega arith
  low (t.Constant value decimal unsigned longs span) = omega arith
  low (t.Character value span) = omega arith
  low (t.Parenthesized a span) = omega (arith, low a, parenthesized_low (is_at span (span_of a)) (unprobed a) span)
  low (t.Call name all span) = omega (arith, expressions_low all)
  low (t.Index a b span) = omega (arith, low a, low b)
  low (t.Member a name span) = omega (arith, low a)
  low (t.PostfixStep operator a span) = omega (arith, low a)
  low (t.PrefixStep operator a span) = omega (arith, low a)
  low (t.Unary operator a span) = omega (arith, low a)
  low (t.Cast type a span) = omega (arith, type_low type, low a)
  low (t.Binary operator a b span) = omega (arith, low a, low b)
  low (t.Conditional a b c span) = omega (arith, low a, low b, low c)
  low (t.Assignment operator a b span) = omega (arith, low a, low b)
  low (t.Comma all span) = omega (arith, expressions_low all)

  expressions_low : (all : Expressions) → tallest (unprobed_expressions all) ≤ tallest all
  expressions_low t.no_expressions = omega arith
  expressions_low (t.expressions a rest) = omega (arith, low a, expressions_low rest)

  type_low : (type : TypeName) → height_type (unprobed_type_name type) ≤ height_type type
  type_low (t.type_name all stars span) = specifiers_low all

  specifier_low : (one : Specifier) → height_specifier (unprobed_specifier one) ≤ height_specifier one
  specifier_low (t.Word w span) = omega arith
  specifier_low (t.TypedefName name) = omega arith
  specifier_low (t.StructureTag name span) = omega arith
  specifier_low (t.Structure tag all span) = omega (arith, members_low all)
  specifier_low (t.EnumerationTag name span) = omega arith
  specifier_low (t.Enumeration tag all span) = omega (arith, enumerators_low all)

  specifiers_low : (all : Specifiers) → height_specifiers (unprobed_specifiers all) ≤ height_specifiers all
  specifiers_low t.no_specifiers = omega arith
  specifiers_low (t.specifiers one rest) = omega (arith, specifier_low one, specifiers_low rest)

  member_low : (one : StructMember) → height_member (unprobed_member one) ≤ height_member one
  member_low (t.member words all span) = omega (arith, specifiers_low words, declarators_low all)

  members_low : (all : Members) → height_members (unprobed_members all) ≤ height_members all
  members_low t.no_members = omega arith
  members_low (t.members one rest) = omega (arith, member_low one, members_low rest)

  enumerator_low : (one : Enumerator) → height_enumerator (unprobed_enumerator one) ≤ height_enumerator one
  enumerator_low (t.enumerator name) = omega arith
  enumerator_low (t.valued_enumerator name a) = low a

  enumerators_low : (all : Enumerators) → height_enumerators (unprobed_enumerators all) ≤ height_enumerators all
  enumerators_low t.no_enumerators = omega arith
  enumerators_low (t.enumerators one rest) = omega (arith, enumerator_low one, enumerators_low rest)

  declarator_low : (one : Declarator) → height_declarator (unprobed_declarator one) ≤ height_declarator one
  declarator_low (t.object stars name all span) = lengths_low all
  declarator_low (t.function stars name all span) = parameters_low all

  declarators_low : (all : Declarators) → height_declarators (unprobed_declarators all) ≤ height_declarators all
  declarators_low t.no_declarators = omega arith
  declarators_low (t.declarators one rest) = omega (arith, declarator_low one, declarators_low rest)

  lengths_low : (all : ArrayLengths) → height_lengths (unprobed_lengths all) ≤ height_lengths all
  lengths_low t.no_lengths = omega arith
  lengths_low (t.absent_length rest) = lengths_low rest
  lengths_low (t.given_length a rest) = omega (arith, low a, lengths_low rest)

  parameters_low : (all : Parameters) → height_parameters (unprobed_parameters all) ≤ height_parameters all
  parameters_low (t.Empty span) = omega arith
  parameters_low (t.Void span) = omega arith
  parameters_low (t.Listed all span) = parameter_list_low all

  parameter_low : (one : Parameter) → height_parameter (unprobed_parameter one) ≤ height_parameter one
  parameter_low (t.parameter words stars name all span) = omega (arith, specifiers_low words, lengths_low all)

  parameter_list_low : (all : ParameterList) → height_parameter_list (unprobed_parameter_list all) ≤ height_parameter_list all
  parameter_list_low t.no_parameters = omega arith
  parameter_list_low (t.parameters one rest) = omega (arith, parameter_low one, parameter_list_low rest)

mutual
  initializer_low : (one : Initializer) → height_initializer (unprobed_initializer one) ≤ height_initializer one
  initializer_low (t.Single a) = omega (arith, low a)
  initializer_low (t.Braced all span) = omega (arith, initializers_low all)

  initializers_low : (all : Initializers) → height_initializers (unprobed_initializers all) ≤ height_initializers all
  initializers_low t.no_initializers = omega arith
  initializers_low (t.initializers one rest) = omega (arith, initializer_low one, initializers_low rest)

init_declarator_low : (one : InitDeclarator) → height_init_declarator (unprobed_init_declarator one) ≤ height_init_declarator one
init_declarator_low (t.bare d) = declarator_low d
init_declarator_low (t.initialized d value) = omega (arith, declarator_low d, initializer_low value)

init_declarators_low : (all : List InitDeclarator) → height_init_declarators (unprobed_init_declarators all) ≤ height_init_declarators all
init_declarators_low [] = omega arith
init_declarators_low (one ∷ rest) = omega (arith, init_declarator_low one, init_declarators_low rest)

declaration_low : (one : Declaration) → height_declaration (unprobed_declaration one) ≤ height_declaration one
declaration_low (t.declaration words all span) = omega (arith, specifiers_low words, init_declarators_low all)

optional_low : (a : Option Expression) → height_optional (unprobed_optional a) ≤ height_optional a
optional_low None = omega arith
optional_low (Some a) = low a

start_low : (start : ForStart) → height_start (unprobed_start start) ≤ height_start start
start_low (t.StartsLocal d) = declaration_low d
start_low (t.StartsExpression a) = optional_low a

mutual
  statement_low : (one : Statement) → height_statement (unprobed_statement one) ≤ height_statement one
  statement_low (t.Compound b span) = omega (arith, block_low b, compound_low (is_probes b span) (unprobed_block b) span)
  statement_low (t.Null span) = omega arith
  statement_low (t.ExpressionStatement a span) = omega (arith, low a)
  statement_low (t.If a s span) = omega (arith, low a, statement_low s)
  statement_low (t.IfElse a s u span) = omega (arith, low a, statement_low s, statement_low u)
  statement_low (t.Switch a s span) = omega (arith, low a, statement_low s)
  statement_low (t.While a s span) = omega (arith, low a, statement_low s)
  statement_low (t.DoWhile s a span) = omega (arith, statement_low s, low a)
  statement_low (t.For start a b s span) = omega (arith, start_low start, optional_low a, optional_low b, statement_low s)
  statement_low (t.Case a label s span) = omega (arith, low a, statement_low s)
  statement_low (t.Default label s span) = omega (arith, statement_low s)
  statement_low (t.Label name s span) = omega (arith, statement_low s)
  statement_low (t.Goto name span) = omega arith
  statement_low (t.Break span) = omega arith
  statement_low (t.Continue span) = omega arith
  statement_low (t.Return a span) = omega (arith, optional_low a)

  block_low : (b : BlockItems) → height_block (unprobed_block b) ≤ height_block b
  block_low t.no_block_items = omega arith
  block_low (t.local d rest) = omega (arith, declaration_low d, block_low rest)
  block_low (t.statement s rest) = omega (arith, statement_low s, block_low rest)

item_low : (one : Item) → height_item (unprobed_item one) ≤ height_item one
item_low (t.Declared d) = declaration_low d
item_low (t.Defined words d b span) = omega (arith, specifiers_low words, declarator_low d, block_low b)

pub unit_low : (unit : List Item) → height_unit (unprobed_unit unit) ≤ height_unit unit
unit_low [] = omega arith
unit_low (one ∷ rest) = omega (arith, item_low one, unit_low rest)
