-- The nodes of a moved tree are the moved nodes, and each has the form that it had.
use Rattle.std.proofs.Common.{◌≡◌, Bool, false, List, [], ◌∷◌, ◌++◌, map, Option, Some, None, is_some, refl, ap, ◌∙◌}
use Rattle.std.proofs.lemmas.List.{map-append}
use Rattle.mc_span.specs.declared.span.Span.{Span}
use Rattle.mc_tree.specs.Tree.{Expression, Expressions, TypeName, Specifier, Specifiers, StructMember, Members, Enumerator, Enumerators, Declarator, Declarators, ArrayLengths, Parameters, Parameter, ParameterList, Initializer, Initializers, InitDeclarator, Declaration, ForStart, Statement, BlockItems, Item}
use Rattle.mc_tree.specs.Tree as t
use Rattle.mc_tree.specs.declared.declarations.specifier_word.SpecifierWord.TheVariants as word
use Rattle.subset_forms.specs.declared.context.Region.{Region}
use Rattle.subset_forms.specs.declared.context.Region.TheVariants.{File, Function}
use Rattle.subset_forms.specs.declared.context.Role.{Role}
use Rattle.subset_forms.specs.declared.context.Role.TheVariants as role
use Rattle.subset_forms.specs.declared.context.Standing.{Standing}
use Rattle.subset_forms.specs.declared.context.Standing.TheVariants as standing
use Rattle.subset_forms.specs.declared.form.Form.{Form}
use Rattle.subset_forms.specs.declared.outside.Outside.{Outside}
use Rattle.subset_forms.specs.Order.{or_else}
use Rattle.subset_forms.specs.Contexts.{role_of_operands, role_in_parentheses, standing_of_items}
use Rattle.mc_subset.specs.Nodes.{Node, an_expression, a_type_name, a_specifier, a_member, a_declarator, a_parameter_list, a_parameter, a_declaration, a_statement, is_extern, has_extern, is_local, nodes_of_expression, nodes_of_expressions, nodes_of_type, nodes_of_specifier, nodes_of_specifiers, nodes_of_member, nodes_of_members, nodes_of_enumerator, nodes_of_enumerators, nodes_of_declarator, nodes_of_declarators, nodes_of_lengths, nodes_of_parameters, nodes_of_parameter, nodes_of_parameter_list, nodes_of_initializer, nodes_of_initializers, nodes_of_init_declarator, nodes_of_init_declarators, nodes_of_declaration, nodes_of_optional, nodes_of_start, nodes_of_parts, standing_from, nodes_of_statement, nodes_of_block, nodes_of_item, nodes_of_unit}
use Rattle.mc_subset.specs.Forms.{form_of, is_compound, is_const, has_const, place_of, outside_at, first_outside}
use Rattle.reread_law_texts.specs.alike.Moves.{Move}
use Rattle.reread_law_texts.specs.alike.Trees.{moved, moved_expressions, moved_type_name, moved_specifier, moved_specifiers, moved_member, moved_members, moved_enumerator, moved_enumerators, moved_declarator, moved_declarators, moved_lengths, moved_parameters, moved_parameter, moved_parameter_list, moved_initializer, moved_initializers, moved_init_declarator, moved_init_declarators, moved_declaration, moved_optional, moved_start, moved_statement, moved_block, moved_item, moved_unit}

abbrev moved_node : Move → Node → Node
moved_node m (an_expression a r) = an_expression (moved m a) r
moved_node m (a_type_name type) = a_type_name (moved_type_name m type)
moved_node m (a_specifier one g) = a_specifier (moved_specifier m one) g
moved_node m (a_member one) = a_member (moved_member m one)
moved_node m (a_declarator one local external) = a_declarator (moved_declarator m one) local external
moved_node m (a_parameter_list all) = a_parameter_list (moved_parameters m all)
moved_node m (a_parameter one) = a_parameter (moved_parameter m one)
moved_node m (a_declaration one w) = a_declaration (moved_declaration m one) w
moved_node m (a_statement one w) = a_statement (moved_statement m one) w

abbrev moved_nodes : Move → List Node → List Node
moved_nodes m nodes = map (moved_node m) nodes

-- ---- what a node asks of its parts

extern_kept : (m : Move) (one : Specifier) → is_extern (moved_specifier m one) ≡ is_extern one
extern_kept m (t.Word word.Typedef span) = refl
extern_kept m (t.Word word.Static span) = refl
extern_kept m (t.Word word.Extern span) = refl
extern_kept m (t.Word word.Const span) = refl
extern_kept m (t.Word word.Void span) = refl
extern_kept m (t.Word word.Bool span) = refl
extern_kept m (t.Word word.Char span) = refl
extern_kept m (t.Word word.Short span) = refl
extern_kept m (t.Word word.Int span) = refl
extern_kept m (t.Word word.Long span) = refl
extern_kept m (t.Word word.Signed span) = refl
extern_kept m (t.Word word.Unsigned span) = refl
extern_kept m (t.TypedefName name) = refl
extern_kept m (t.StructureTag name span) = refl
extern_kept m (t.Structure tag all span) = refl
extern_kept m (t.EnumerationTag name span) = refl
extern_kept m (t.Enumeration tag all span) = refl

externs_kept : (m : Move) (all : Specifiers) → has_extern (moved_specifiers m all) ≡ has_extern all
externs_kept m t.no_specifiers = refl
externs_kept m (t.specifiers one rest) = rw (extern_kept m one, externs_kept m rest)

const_kept : (m : Move) (one : Specifier) → is_const (moved_specifier m one) ≡ is_const one
const_kept m (t.Word word.Typedef span) = refl
const_kept m (t.Word word.Static span) = refl
const_kept m (t.Word word.Extern span) = refl
const_kept m (t.Word word.Const span) = refl
const_kept m (t.Word word.Void span) = refl
const_kept m (t.Word word.Bool span) = refl
const_kept m (t.Word word.Char span) = refl
const_kept m (t.Word word.Short span) = refl
const_kept m (t.Word word.Int span) = refl
const_kept m (t.Word word.Long span) = refl
const_kept m (t.Word word.Signed span) = refl
const_kept m (t.Word word.Unsigned span) = refl
const_kept m (t.TypedefName name) = refl
const_kept m (t.StructureTag name span) = refl
const_kept m (t.Structure tag all span) = refl
const_kept m (t.EnumerationTag name span) = refl
const_kept m (t.Enumeration tag all span) = refl

consts_kept : (m : Move) (all : Specifiers) → has_const (moved_specifiers m all) ≡ has_const all
consts_kept m t.no_specifiers = refl
consts_kept m (t.specifiers one rest) = rw (const_kept m one, consts_kept m rest)

compound_kept : (m : Move) (one : Statement) → is_compound (moved_statement m one) ≡ is_compound one
compound_kept m (t.Compound b span) = refl
compound_kept m (t.Null span) = refl
compound_kept m (t.ExpressionStatement a span) = refl
compound_kept m (t.If a s span) = refl
compound_kept m (t.IfElse a s u span) = refl
compound_kept m (t.Switch a s span) = refl
compound_kept m (t.While a s span) = refl
compound_kept m (t.DoWhile s a span) = refl
compound_kept m (t.For start a b s span) = refl
compound_kept m (t.Case a label s span) = refl
compound_kept m (t.Default label s span) = refl
compound_kept m (t.Label name s span) = refl
compound_kept m (t.Goto name span) = refl
compound_kept m (t.Break span) = refl
compound_kept m (t.Continue span) = refl
compound_kept m (t.Return a span) = refl

standing_kept : (m : Move) (one : Statement) (w : Standing) → standing_from (moved_statement m one) w ≡ standing_from one w
standing_kept m (t.Compound b span) w = refl
standing_kept m (t.Null span) w = refl
standing_kept m (t.ExpressionStatement a span) w = refl
standing_kept m (t.If a s span) w = refl
standing_kept m (t.IfElse a s u span) w = refl
standing_kept m (t.Switch a s span) w = refl
standing_kept m (t.While a s span) w = refl
standing_kept m (t.DoWhile s a span) w = refl
standing_kept m (t.For start a b s span) w = refl
standing_kept m (t.Case a label s span) w = refl
standing_kept m (t.Default label s span) w = refl
standing_kept m (t.Label name s span) w = refl
standing_kept m (t.Goto name span) w = refl
standing_kept m (t.Break span) w = refl
standing_kept m (t.Continue span) w = refl
standing_kept m (t.Return a span) w = refl

-- ---- the nodes

joined : (m : Move) (xs ys : List Node) → moved_nodes m (xs ++ ys) ≡ moved_nodes m xs ++ moved_nodes m ys
joined m xs ys = map-append (moved_node m) xs ys

mutual
  nodes : (m : Move) (g : Region) (r : Role) (a : Expression) → nodes_of_expression g r (moved m a) ≡ moved_nodes m (nodes_of_expression g r a)
  nodes m g r (t.Named name) = refl
  nodes m g r (t.Constant value decimal unsigned longs span) = refl
  nodes m g r (t.Character value span) = refl
  nodes m g r (t.Parenthesized a span) = rw (nodes m g (role_in_parentheses r) a)
  nodes m g r (t.Call name all span) = rw (list_nodes m g role.Part all)
  nodes m g r (t.Index a b span) = rw (nodes m g role.Part a, nodes m g role.Part b, joined m)
  nodes m g r (t.Member a name span) = rw (nodes m g role.Part a)
  nodes m g r (t.PostfixStep operator a span) = rw (nodes m g role.Part a)
  nodes m g r (t.PrefixStep operator a span) = rw (nodes m g role.Part a)
  nodes m g r (t.Unary operator a span) = rw (nodes m g role.Part a)
  nodes m g r (t.Cast type a span) = rw (type_nodes m g type, nodes m g role.Part a, joined m)
  nodes m g r (t.Binary operator a b span) = rw (nodes m g role.Part a, nodes m g role.Part b, joined m)
  nodes m g r (t.Conditional a b c span) = rw (nodes m g role.Part a, nodes m g role.Part b, nodes m g role.Part c, joined m, joined m)
  nodes m g r (t.Assignment operator a b span) = rw (nodes m g role.Part a, nodes m g role.Part b, joined m)
  nodes m g r (t.Comma all span) = rw (list_nodes m g (role_of_operands r) all)

  list_nodes : (m : Move) (g : Region) (r : Role) (all : Expressions) → nodes_of_expressions g r (moved_expressions m all) ≡ moved_nodes m (nodes_of_expressions g r all)
  list_nodes m g r t.no_expressions = refl
  list_nodes m g r (t.expressions a rest) = rw (nodes m g r a, list_nodes m g r rest, joined m)

  type_nodes : (m : Move) (g : Region) (type : TypeName) → nodes_of_type g (moved_type_name m type) ≡ moved_nodes m (nodes_of_type g type)
  type_nodes m g (t.type_name words stars span) = rw (specifiers_nodes m g words)

  specifier_nodes : (m : Move) (g : Region) (one : Specifier) → nodes_of_specifier g (moved_specifier m one) ≡ moved_nodes m (nodes_of_specifier g one)
  specifier_nodes m g (t.Word w span) = refl
  specifier_nodes m g (t.TypedefName name) = refl
  specifier_nodes m g (t.StructureTag name span) = refl
  specifier_nodes m g (t.Structure tag all span) = rw (members_nodes m g all)
  specifier_nodes m g (t.EnumerationTag name span) = refl
  specifier_nodes m g (t.Enumeration tag all span) = rw (enumerators_nodes m g all)

  specifiers_nodes : (m : Move) (g : Region) (all : Specifiers) → nodes_of_specifiers g (moved_specifiers m all) ≡ moved_nodes m (nodes_of_specifiers g all)
  specifiers_nodes m g t.no_specifiers = refl
  specifiers_nodes m g (t.specifiers one rest) = rw (specifier_nodes m g one, specifiers_nodes m g rest, joined m)

  member_nodes : (m : Move) (g : Region) (one : StructMember) → nodes_of_member g (moved_member m one) ≡ moved_nodes m (nodes_of_member g one)
  member_nodes m g (t.member words all span) = rw (externs_kept m words, specifiers_nodes m g words, declarators_nodes m g (has_extern words) all, joined m)

  members_nodes : (m : Move) (g : Region) (all : Members) → nodes_of_members g (moved_members m all) ≡ moved_nodes m (nodes_of_members g all)
  members_nodes m g t.no_members = refl
  members_nodes m g (t.members one rest) = rw (member_nodes m g one, members_nodes m g rest, joined m)

  enumerator_nodes : (m : Move) (g : Region) (one : Enumerator) → nodes_of_enumerator g (moved_enumerator m one) ≡ moved_nodes m (nodes_of_enumerator g one)
  enumerator_nodes m g (t.enumerator name) = refl
  enumerator_nodes m g (t.valued_enumerator name a) = nodes m g role.Part a

  enumerators_nodes : (m : Move) (g : Region) (all : Enumerators) → nodes_of_enumerators g (moved_enumerators m all) ≡ moved_nodes m (nodes_of_enumerators g all)
  enumerators_nodes m g t.no_enumerators = refl
  enumerators_nodes m g (t.enumerators one rest) = rw (enumerator_nodes m g one, enumerators_nodes m g rest, joined m)

  declarator_nodes : (m : Move) (g : Region) (local external : Bool) (one : Declarator) → nodes_of_declarator g local external (moved_declarator m one) ≡ moved_nodes m (nodes_of_declarator g local external one)
  declarator_nodes m g local external (t.object stars name all span) = rw (lengths_nodes m g all)
  declarator_nodes m g local external (t.function stars name all span) = rw (parameters_nodes m all)

  declarators_nodes : (m : Move) (g : Region) (external : Bool) (all : Declarators) → nodes_of_declarators g external (moved_declarators m all) ≡ moved_nodes m (nodes_of_declarators g external all)
  declarators_nodes m g external t.no_declarators = refl
  declarators_nodes m g external (t.declarators one rest) = rw (declarator_nodes m g false external one, declarators_nodes m g external rest, joined m)

  lengths_nodes : (m : Move) (g : Region) (all : ArrayLengths) → nodes_of_lengths g (moved_lengths m all) ≡ moved_nodes m (nodes_of_lengths g all)
  lengths_nodes m g t.no_lengths = refl
  lengths_nodes m g (t.absent_length rest) = lengths_nodes m g rest
  lengths_nodes m g (t.given_length a rest) = rw (nodes m g role.Part a, lengths_nodes m g rest, joined m)

  parameters_nodes : (m : Move) (all : Parameters) → nodes_of_parameters (moved_parameters m all) ≡ moved_nodes m (nodes_of_parameters all)
  parameters_nodes m (t.Empty span) = refl
  parameters_nodes m (t.Void span) = refl
  parameters_nodes m (t.Listed all span) = rw (parameter_list_nodes m all)

  parameter_nodes : (m : Move) (one : Parameter) → nodes_of_parameter (moved_parameter m one) ≡ moved_nodes m (nodes_of_parameter one)
  parameter_nodes m (t.parameter words stars name all span) = rw (specifiers_nodes m Function words, lengths_nodes m Function all, joined m)

  parameter_list_nodes : (m : Move) (all : ParameterList) → nodes_of_parameter_list (moved_parameter_list m all) ≡ moved_nodes m (nodes_of_parameter_list all)
  parameter_list_nodes m t.no_parameters = refl
  parameter_list_nodes m (t.parameters one rest) = rw (parameter_nodes m one, parameter_list_nodes m rest, joined m)

mutual
  initializer_nodes : (m : Move) (g : Region) (one : Initializer) → nodes_of_initializer g (moved_initializer m one) ≡ moved_nodes m (nodes_of_initializer g one)
  initializer_nodes m g (t.Single a) = nodes m g role.Part a
  initializer_nodes m g (t.Braced all span) = initializers_nodes m g all

  initializers_nodes : (m : Move) (g : Region) (all : Initializers) → nodes_of_initializers g (moved_initializers m all) ≡ moved_nodes m (nodes_of_initializers g all)
  initializers_nodes m g t.no_initializers = refl
  initializers_nodes m g (t.initializers one rest) = rw (initializer_nodes m g one, initializers_nodes m g rest, joined m)

init_declarator_nodes : (m : Move) (g : Region) (external : Bool) (one : InitDeclarator) → nodes_of_init_declarator g external (moved_init_declarator m one) ≡ moved_nodes m (nodes_of_init_declarator g external one)
init_declarator_nodes m g external (t.bare d) = declarator_nodes m g (is_local g) external d
init_declarator_nodes m g external (t.initialized d value) = rw (declarator_nodes m g (is_local g) external d, initializer_nodes m g value, joined m)

init_declarators_nodes : (m : Move) (g : Region) (external : Bool) (all : List InitDeclarator) → nodes_of_init_declarators g external (moved_init_declarators m all) ≡ moved_nodes m (nodes_of_init_declarators g external all)
init_declarators_nodes m g external [] = refl
init_declarators_nodes m g external (one ∷ rest) = rw (init_declarator_nodes m g external one, init_declarators_nodes m g external rest, joined m)

declaration_nodes : (m : Move) (g : Region) (w : Standing) (one : Declaration) → nodes_of_declaration g w (moved_declaration m one) ≡ moved_nodes m (nodes_of_declaration g w one)
declaration_nodes m g w (t.declaration words all span) = rw (externs_kept m words, specifiers_nodes m g words, init_declarators_nodes m g (has_extern words) all, joined m)

optional_nodes : (m : Move) (r : Role) (a : Option Expression) → nodes_of_optional r (moved_optional m a) ≡ moved_nodes m (nodes_of_optional r a)
optional_nodes m r None = refl
optional_nodes m r (Some a) = nodes m Function r a

start_nodes : (m : Move) (start : ForStart) → nodes_of_start (moved_start m start) ≡ moved_nodes m (nodes_of_start start)
start_nodes m (t.StartsLocal d) = declaration_nodes m Function standing.Elsewhere d
start_nodes m (t.StartsExpression a) = optional_nodes m role.ForPart a

parts_nodes : (m : Move) (start : ForStart) (a b : Option Expression) → nodes_of_parts (moved_start m start) (moved_optional m a) (moved_optional m b) ≡ moved_nodes m (nodes_of_parts start a b)
parts_nodes m start a b = rw (start_nodes m start, optional_nodes m role.Part a, optional_nodes m role.ForPart b, joined m, joined m)

mutual
  statement_nodes : (m : Move) (w : Standing) (one : Statement) → nodes_of_statement w (moved_statement m one) ≡ moved_nodes m (nodes_of_statement w one)
  statement_nodes m w (t.Compound b span) = rw (block_nodes m (standing_of_items w) b)
  statement_nodes m w (t.Null span) = refl
  statement_nodes m w (t.ExpressionStatement a span) = rw (nodes m Function role.Statement a)
  statement_nodes m w (t.If a s span) = rw (nodes m Function role.Part a, statement_nodes m standing.Elsewhere s, joined m)
  statement_nodes m w (t.IfElse a s u span) =
      rw (nodes m Function role.Part a, statement_nodes m standing.Elsewhere s, statement_nodes m standing.Elsewhere u, joined m, joined m)
  statement_nodes m w (t.Switch a s span) = rw (nodes m Function role.Part a, statement_nodes m standing.Body s, joined m)
  statement_nodes m w (t.While a s span) = rw (nodes m Function role.Part a, statement_nodes m standing.Elsewhere s, joined m)
  statement_nodes m w (t.DoWhile s a span) = rw (statement_nodes m standing.Elsewhere s, nodes m Function role.Part a, joined m)
  statement_nodes m w (t.For start a b s span) = rw (parts_nodes m start a b, statement_nodes m standing.Elsewhere s, joined m (nodes_of_parts start a b) (nodes_of_statement standing.Elsewhere s))
  statement_nodes m w (t.Case a label s span) = rw (nodes m Function role.Part a, statement_nodes m w s, joined m)
  statement_nodes m w (t.Default label s span) = rw (statement_nodes m w s)
  statement_nodes m w (t.Label name s span) = rw (statement_nodes m standing.Elsewhere s)
  statement_nodes m w (t.Goto name span) = refl
  statement_nodes m w (t.Break span) = refl
  statement_nodes m w (t.Continue span) = refl
  statement_nodes m w (t.Return a span) = rw (optional_nodes m role.Part a)

  block_nodes : (m : Move) (w : Standing) (b : BlockItems) → nodes_of_block w (moved_block m b) ≡ moved_nodes m (nodes_of_block w b)
  block_nodes m w t.no_block_items = refl
  block_nodes m w (t.local d rest) = rw (declaration_nodes m Function w d, block_nodes m w rest, joined m)
  block_nodes m w (t.statement s rest) =
      rw (standing_kept m s w, statement_nodes m (standing_from s w) s, block_nodes m (standing_from s w) rest, joined m)

item_nodes : (m : Move) (one : Item) → nodes_of_item (moved_item m one) ≡ moved_nodes m (nodes_of_item one)
item_nodes m (t.Declared d) = declaration_nodes m File standing.Elsewhere d
item_nodes m (t.Defined words d b span) =
    rw (externs_kept m words, specifiers_nodes m Function words, declarator_nodes m Function false (has_extern words) d, block_nodes m standing.Elsewhere b, joined m, joined m)

unit_nodes : (m : Move) (unit : List Item) → nodes_of_unit (moved_unit m unit) ≡ moved_nodes m (nodes_of_unit unit)
unit_nodes m [] = refl
unit_nodes m (one ∷ rest) = rw (item_nodes m one, unit_nodes m rest, joined m)

-- ---- their forms

form_kept : (m : Move) (node : Node) → form_of (moved_node m node) ≡ form_of node
unfolding form_of
form_kept m (an_expression (t.Named name) r) = refl
form_kept m (an_expression (t.Constant value decimal unsigned longs span) r) = refl
form_kept m (an_expression (t.Character value span) r) = refl
form_kept m (an_expression (t.Parenthesized a span) r) = refl
form_kept m (an_expression (t.Call name all span) r) = refl
form_kept m (an_expression (t.Index a b span) r) = refl
form_kept m (an_expression (t.Member a name span) r) = refl
form_kept m (an_expression (t.PostfixStep operator a span) r) = refl
form_kept m (an_expression (t.PrefixStep operator a span) r) = refl
form_kept m (an_expression (t.Unary operator a span) r) = refl
form_kept m (an_expression (t.Cast type a span) r) = refl
form_kept m (an_expression (t.Binary operator a b span) r) = refl
form_kept m (an_expression (t.Conditional a b c span) r) = refl
form_kept m (an_expression (t.Assignment operator a b span) r) = refl
form_kept m (an_expression (t.Comma all span) r) = refl
form_kept m (a_type_name (t.type_name words stars span)) = refl
form_kept m (a_specifier (t.Word w span) g) = refl
form_kept m (a_specifier (t.TypedefName name) g) = refl
form_kept m (a_specifier (t.StructureTag name span) g) = refl
form_kept m (a_specifier (t.Structure tag all span) g) = refl
form_kept m (a_specifier (t.EnumerationTag name span) g) = refl
form_kept m (a_specifier (t.Enumeration tag all span) g) = refl
form_kept m (a_member (t.member words all span)) = rw (consts_kept m words)
form_kept m (a_declarator (t.object stars name all span) local external) = refl
form_kept m (a_declarator (t.function stars name all span) local external) = refl
form_kept m (a_parameter_list (t.Empty span)) = refl
form_kept m (a_parameter_list (t.Void span)) = refl
form_kept m (a_parameter_list (t.Listed all span)) = refl
form_kept m (a_parameter (t.parameter words stars name all span)) = refl
form_kept m (a_declaration (t.declaration words all span) w) = refl
form_kept m (a_statement (t.Compound b span) w) = refl
form_kept m (a_statement (t.Null span) w) = refl
form_kept m (a_statement (t.ExpressionStatement a span) w) = refl
form_kept m (a_statement (t.If a s span) w) = refl
form_kept m (a_statement (t.IfElse a s u span) w) = refl
form_kept m (a_statement (t.Switch a s span) w) = rw (compound_kept m s)
form_kept m (a_statement (t.While a s span) w) = refl
form_kept m (a_statement (t.DoWhile s a span) w) = refl
form_kept m (a_statement (t.For start a b s span) w) = refl
form_kept m (a_statement (t.Case a label s span) w) = refl
form_kept m (a_statement (t.Default label s span) w) = refl
form_kept m (a_statement (t.Label name s span) w) = refl
form_kept m (a_statement (t.Goto name span) w) = refl
form_kept m (a_statement (t.Break span) w) = refl
form_kept m (a_statement (t.Continue span) w) = refl
form_kept m (a_statement (t.Return a span) w) = refl

all_kept : (m : Move) (all : List Node) → map form_of (moved_nodes m all) ≡ map form_of all
all_kept m [] = refl
all_kept m (node ∷ rest) = rw (form_kept m node, all_kept m rest)

pub forms_kept : (m : Move) (unit : List Item) → map form_of (nodes_of_unit (moved_unit m unit)) ≡ map form_of (nodes_of_unit unit)
forms_kept m unit = ap (map form_of) (unit_nodes m unit) ∙ all_kept m (nodes_of_unit unit)

-- whether one is there does not depend on where it stands
one_refused : (form : Option Form) (span other : Span) (a b : Option Outside) → is_some a ≡ is_some b → is_some (or_else (outside_at form span) a) ≡ is_some (or_else (outside_at form other) b)
one_refused None span other a b e = e
one_refused (Some form) span other a b e = refl

all_refused : (m : Move) (all : List Node) → is_some (first_outside (moved_nodes m all)) ≡ is_some (first_outside all)
all_refused m [] = refl
all_refused m (node ∷ rest) =
    ap (λ form. is_some (or_else (outside_at form (place_of (moved_node m node))) (first_outside (moved_nodes m rest)))) (form_kept m node)
    ∙ one_refused (form_of node) (place_of (moved_node m node)) (place_of node) (first_outside (moved_nodes m rest)) (first_outside rest) (all_refused m rest)

pub refusal_kept : (m : Move) (unit : List Item) → is_some (first_outside (nodes_of_unit (moved_unit m unit))) ≡ is_some (first_outside (nodes_of_unit unit))
refusal_kept m unit = ap (λ all. is_some (first_outside all)) (unit_nodes m unit) ∙ all_refused m (nodes_of_unit unit)
