-- A tree stands for no more tokens than were read for it: the last comma of a list leaves no trace in it.
use Rattle.std.proofs.Common.{◌≡◌, ℕ, zero, suc, ◌+◌, ◌≤◌, Bool, true, false, List, Option, length, refl, ap, arith}
use Rattle.std.proofs.lemmas.List.{length-map}
use Rattle.mc_lex.specs.declared.token.Dialect.{Dialect}
use Rattle.mc_span.specs.declared.span.Span.{Span}
use Rattle.mc_tree.specs.Tree.{Expression, Expressions, TypeName, Specifiers, StructMember, Members, Enumerator, Enumerators, Declarator, Declarators, ArrayLengths, Parameters, Parameter, ParameterList, Initializer, Initializers, InitDeclarator, Declaration, ForStart, Statement, BlockItems, Item, name_of}
use Rattle.mc_grammar.specs.Words.{Lexeme, lexeme_of}
use Rattle.mc_lex.specs.Tokens.{Tok}
use Rattle.mc_grammar.proofs.Lengths.{same_length}
use Rattle.mc_grammar.specs.Nonterminal.{Nonterminal, Level, operand}
use Rattle.mc_grammar.specs.Nonterminal as n
use Rattle.mc_grammar.specs.Expressions.{Reads, ReadsExpressions, ReadsTypeName, ReadsStars, ReadsSpecifiers, ReadsMembers, ReadsMember, ReadsDeclarators, ReadsEnumerators, ReadsEnumerator, ReadsDeclarator, ReadsArrayLengths, ReadsParameters, ReadsParameterList, ReadsParameter}
use Rattle.mc_grammar.specs.Expressions as r
use Rattle.mc_grammar.specs.Statements.{ReadsOptional, ReadsTest, ReadsInitializer, ReadsInitializers, ReadsInitDeclarator, ReadsInitDeclarators, ReadsDeclaration, ReadsForStart, ReadsStatement, ReadsCompound, ReadsBlockItems, after}
use Rattle.mc_grammar.specs.Statements as s
use Rattle.mc_grammar.specs.Items.{ReadsItem, ReadsUnit, IsTree}
use Rattle.mc_grammar.specs.Items as i
use Rattle.mc_tree.specs.Length.{after_comma, of_expression, of_expressions, of_type, of_specifiers, of_member, of_members, of_enumerator, of_enumerators, of_declarator, of_declarators, of_lengths, of_parameters, of_parameter, of_parameter_list, of_initializer, of_initializers, of_init_declarator, of_init_declarators, of_declaration, of_optional, of_start, of_statement, of_block, of_item, token_count}

comma_counted : (n : ℕ) → after_comma n ≤ n + 1
comma_counted zero = omega arith
comma_counted (suc n) = omega arith

-- what a repetition has read already
abbrev before : Nonterminal → ℕ
before (n.operations k a) = of_expression a
before (n.suffixes a) = of_expression a
before _ = 0

operand_before : (k : Level) → before (operand k) ≡ 0
operand_before n.product = refl
operand_before n.sum = refl
operand_before n.shift = refl
operand_before n.relation = refl
operand_before n.equality = refl
operand_before n.bit_and = refl
operand_before n.bit_xor = refl
operand_before n.bit_or = refl
operand_before n.land = refl
operand_before n.lor = refl

pub stars_counted : {before end : Span} {ts rest : List Lexeme} {k : ℕ} → ReadsStars before ts k end rest → k + length rest ≤ length ts
stars_counted (r.star e p) = omega (arith, stars_counted p)
stars_counted (r.no_star e) = omega arith

mutual
  pub counted : {d : Dialect} {m : Nonterminal} {ts rest : List Lexeme} {a : Expression} → Reads d m ts a rest → of_expression a + length rest ≤ before m + length ts
  counted (r.comma_one p e) = omega (arith, counted p)
  counted (r.comma {all = all} p e q) = omega (arith, comma_counted (of_expressions all), counted p, expressions_counted q)
  counted (r.assign_cond p e) = omega (arith, counted p)
  counted (r.assign p e q) = omega (arith, counted p, counted q)
  counted (r.cond_level p e) = omega (arith, counted p)
  counted (r.cond p e q f v) = omega (arith, counted p, counted q, counted v)
  counted (r.level {k = k} p q) = omega (arith, counted p, counted q, operand_before k)
  counted (r.operation {k = k} e p q) = omega (arith, counted p, counted q, operand_before k)
  counted (r.operations_end e) = omega arith
  counted (r.cast_unary e p) = omega (arith, counted p)
  counted (r.cast e f p g q) = omega (arith, type_name_counted p, counted q)
  counted (r.unary_postfix e p) = omega (arith, counted p)
  counted (r.prefix_step e p) = omega (arith, counted p)
  counted (r.unary e p) = omega (arith, counted p)
  counted (r.postfix p q) = omega (arith, counted p, counted q)
  counted (r.index e p f q) = omega (arith, counted p, counted q)
  counted (r.member e f p) = omega (arith, counted p)
  counted (r.postfix_step e p) = omega (arith, counted p)
  counted (r.suffixes_end e) = omega arith
  counted (r.named e f) = omega arith
  counted (r.constant e) = omega arith
  counted (r.character e) = omega arith
  counted (r.parenthesized e f p g) = omega (arith, counted p)
  counted (r.call_empty e f g) = omega arith
  counted (r.call e f g p h) = omega (arith, expressions_counted p)

  pub expressions_counted : {d : Dialect} {ts rest : List Lexeme} {all : Expressions} → ReadsExpressions d ts all rest → of_expressions all + length rest ≤ length ts
  expressions_counted (r.last_expression p e) = omega (arith, counted p)
  expressions_counted (r.more_expressions {all = all} p e q) = omega (arith, comma_counted (of_expressions all), counted p, expressions_counted q)

  pub type_name_counted : {d : Dialect} {ts rest : List Lexeme} {type : TypeName} → ReadsTypeName d ts type rest → of_type type + length rest ≤ length ts
  type_name_counted (r.type_name p e q) = omega (arith, specifiers_counted p, stars_counted q)

  pub specifiers_counted : {d : Dialect} {has : Bool} {ts rest : List Lexeme} {all : Specifiers} → ReadsSpecifiers d has ts all rest → of_specifiers all + length rest ≤ length ts
  specifiers_counted (r.specifiers_end e) = omega arith
  specifiers_counted (r.word e p) = omega (arith, specifiers_counted p)
  specifiers_counted (r.typedef_name e p) = omega (arith, specifiers_counted p)
  specifiers_counted (r.structure_tag e f g p) = omega (arith, specifiers_counted p)
  specifiers_counted (r.structure e f g p h q) = omega (arith, members_counted p, specifiers_counted q)
  specifiers_counted (r.untagged_structure e f p g q) = omega (arith, members_counted p, specifiers_counted q)
  specifiers_counted (r.enumeration_tag e f g p) = omega (arith, specifiers_counted p)
  specifiers_counted (r.enumeration e f g p h q) = omega (arith, enumerators_counted p, specifiers_counted q)
  specifiers_counted (r.untagged_enumeration e f p g q) = omega (arith, enumerators_counted p, specifiers_counted q)

  pub members_counted : {d : Dialect} {ts rest : List Lexeme} {all : Members} → ReadsMembers d ts all rest → of_members all + length rest ≤ length ts
  members_counted (r.last_member p e) = omega (arith, member_counted p)
  members_counted (r.more_members p e q) = omega (arith, member_counted p, members_counted q)

  pub member_counted : {d : Dialect} {ts rest : List Lexeme} {one : StructMember} → ReadsMember d ts one rest → of_member one + length rest ≤ length ts
  member_counted (r.struct_member p e q f) = omega (arith, specifiers_counted p, declarators_counted q)

  pub declarators_counted : {d : Dialect} {ts rest : List Lexeme} {all : Declarators} → ReadsDeclarators d ts all rest → of_declarators all + length rest ≤ length ts
  declarators_counted (r.last_declarator p e) = omega (arith, declarator_counted p)
  declarators_counted (r.more_declarators {ds = all} p e q) = omega (arith, comma_counted (of_declarators all), declarator_counted p, declarators_counted q)

  pub enumerators_counted : {d : Dialect} {ts rest : List Lexeme} {all : Enumerators} → ReadsEnumerators d ts all rest → of_enumerators all + length rest ≤ length ts
  enumerators_counted (r.last_enumerator p e) = omega (arith, enumerator_counted p)
  enumerators_counted (r.last_enumerator_comma p e f) = omega (arith, enumerator_counted p)
  enumerators_counted (r.more_enumerators {es = all} p e f q) = omega (arith, comma_counted (of_enumerators all), enumerator_counted p, enumerators_counted q)

  pub enumerator_counted : {d : Dialect} {ts rest : List Lexeme} {one : Enumerator} → ReadsEnumerator d ts one rest → of_enumerator one + length rest ≤ length ts
  enumerator_counted (r.enumerator e f) = omega arith
  enumerator_counted (r.valued_enumerator e f p) = omega (arith, counted p)

  pub declarator_counted : {d : Dialect} {ts rest : List Lexeme} {one : Declarator} → ReadsDeclarator d ts one rest → of_declarator one + length rest ≤ length ts
  declarator_counted (r.object p e f q) = omega (arith, stars_counted p, lengths_counted q)
  declarator_counted (r.function p e q) = omega (arith, stars_counted p, parameters_counted q)

  pub lengths_counted : {d : Dialect} {before end : Span} {ts rest : List Lexeme} {all : ArrayLengths} → ReadsArrayLengths d before ts all end rest → of_lengths all + length rest ≤ length ts
  lengths_counted (r.lengths_end e) = omega arith
  lengths_counted (r.absent_length e f p) = omega (arith, lengths_counted p)
  lengths_counted (r.given_length e f p g q) = omega (arith, counted p, lengths_counted q)

  pub parameters_counted : {d : Dialect} {ts rest : List Lexeme} {all : Parameters} → ReadsParameters d ts all rest → of_parameters all + length rest ≤ length ts
  parameters_counted (r.empty_parameters e f) = omega arith
  parameters_counted (r.void_parameters e f g) = omega arith
  parameters_counted (r.listed_parameters e f g p h) = omega (arith, parameter_list_counted p)

  pub parameter_list_counted : {d : Dialect} {ts rest : List Lexeme} {all : ParameterList} → ReadsParameterList d ts all rest → of_parameter_list all + length rest ≤ length ts
  parameter_list_counted (r.last_parameter p e) = omega (arith, parameter_counted p)
  parameter_list_counted (r.more_parameters {ps = all} p e q) = omega (arith, comma_counted (of_parameter_list all), parameter_counted p, parameter_list_counted q)

  pub parameter_counted : {d : Dialect} {ts rest : List Lexeme} {one : Parameter} → ReadsParameter d ts one rest → of_parameter one + length rest ≤ length ts
  parameter_counted (r.parameter p e q f v) = omega (arith, specifiers_counted p, stars_counted q, lengths_counted v)
  parameter_counted (r.unnamed_parameter p e q f v) = omega (arith, specifiers_counted p, stars_counted q, lengths_counted v)

pub optional_counted : {d : Dialect} {stop : List ℕ} {ts rest : List Lexeme} {a : Option Expression} → ReadsOptional d stop ts a rest → of_optional a + length rest ≤ length ts
optional_counted (s.no_expression e) = omega arith
optional_counted (s.an_expression e p) = omega (arith, counted p)

pub test_counted : {d : Dialect} {ts rest : List Lexeme} {a : Expression} → ReadsTest d ts a rest → of_expression a + 2 + length rest ≤ length ts
test_counted (s.test e p f) = omega (arith, counted p)

mutual
  pub initializer_counted : {d : Dialect} {ts rest : List Lexeme} {one : Initializer} → ReadsInitializer d ts one rest → of_initializer one + length rest ≤ length ts
  initializer_counted (s.single e p) = omega (arith, counted p)
  initializer_counted (s.braced e p f) = omega (arith, initializers_counted p)

  pub initializers_counted : {d : Dialect} {ts rest : List Lexeme} {all : Initializers} → ReadsInitializers d ts all rest → of_initializers all + length rest ≤ length ts
  initializers_counted (s.last_initializer p e) = omega (arith, initializer_counted p)
  initializers_counted (s.last_initializer_comma p e f) = omega (arith, initializer_counted p)
  initializers_counted (s.more_initializers {all = all} p e f q) = omega (arith, comma_counted (of_initializers all), initializer_counted p, initializers_counted q)

after_length : (typedef : Bool) (one : Declarator) (ts : List Lexeme) → length (after typedef one ts) ≡ length ts
after_length true one ts = same_length (name_of one).text ts
after_length false one ts = refl

pub init_declarator_counted : {d : Dialect} {typedef : Bool} {ts rest : List Lexeme} {one : InitDeclarator} → ReadsInitDeclarator d typedef ts one rest → of_init_declarator one + length rest ≤ length ts
init_declarator_counted {typedef = typedef} (s.bare {mid = mid} {d = one} p e) = omega (arith, declarator_counted p, after_length typedef one mid)
init_declarator_counted {typedef = typedef} (s.initialized {mid = mid} {d = one} p g e q) = omega (arith, declarator_counted p, after_length typedef one mid, ap length g, initializer_counted q)

pub init_declarators_counted : {d : Dialect} {typedef : Bool} {ts rest : List Lexeme} {all : List InitDeclarator} → ReadsInitDeclarators d typedef ts all rest → of_init_declarators all + length rest ≤ length ts
init_declarators_counted (s.no_init_declarator e) = omega arith
init_declarators_counted (s.last_init_declarator p e) = omega (arith, init_declarator_counted p)
init_declarators_counted (s.more_init_declarators {all = all} p e f q) = omega (arith, comma_counted (of_init_declarators all), init_declarator_counted p, init_declarators_counted q)

pub declaration_counted : {d : Dialect} {typedef : Bool} {allowed : Specifiers → Bool} {ts rest : List Lexeme} {one : Declaration} → ReadsDeclaration d typedef allowed ts one rest → of_declaration one + length rest ≤ length ts
declaration_counted (s.declaration e p f q g) = omega (arith, specifiers_counted p, init_declarators_counted q)

pub for_start_counted : {d : Dialect} {ts rest : List Lexeme} {start : ForStart} → ReadsForStart d ts start rest → of_start start + length rest ≤ length ts
for_start_counted (s.starts_local p) = omega (arith, declaration_counted p)
for_start_counted (s.starts_expression e p f) = omega (arith, optional_counted p)

mutual
  pub statement_counted : {d : Dialect} {ts rest : List Lexeme} {one : Statement} → ReadsStatement d ts one rest → of_statement one + length rest ≤ length ts
  statement_counted (s.compound p) = omega (arith, compound_counted p)
  statement_counted (s.null e) = omega arith
  statement_counted (s.expression_statement e f p g) = omega (arith, counted p)
  statement_counted (s.if_only e p q f) = omega (arith, test_counted p, statement_counted q)
  statement_counted (s.if_else e p q f v) = omega (arith, test_counted p, statement_counted q, statement_counted v)
  statement_counted (s.switch e p q) = omega (arith, test_counted p, statement_counted q)
  statement_counted (s.while e p q) = omega (arith, test_counted p, statement_counted q)
  statement_counted (s.do_while e p f q g) = omega (arith, statement_counted p, test_counted q)
  statement_counted (s.for e f p q g v h w) = omega (arith, for_start_counted p, optional_counted q, optional_counted v, statement_counted w)
  statement_counted (s.case_label e p f q) = omega (arith, counted p, statement_counted q)
  statement_counted (s.default e f p) = omega (arith, statement_counted p)
  statement_counted (s.label e f p) = omega (arith, statement_counted p)
  statement_counted (s.goto e f g) = omega arith
  statement_counted (s.continue e f) = omega arith
  statement_counted (s.break e f) = omega arith
  statement_counted (s.return e p f) = omega (arith, optional_counted p)

  pub compound_counted : {d : Dialect} {span : Span} {ts rest : List Lexeme} {all : BlockItems} → ReadsCompound d ts all span rest → of_block all + 2 + length rest ≤ length ts
  compound_counted (s.block e p f) = omega (arith, block_items_counted p)

  pub block_items_counted : {d : Dialect} {ts rest : List Lexeme} {all : BlockItems} → ReadsBlockItems d ts all rest → of_block all + length rest ≤ length ts
  block_items_counted (s.block_end e) = omega arith
  block_items_counted (s.local e p q) = omega (arith, declaration_counted p, block_items_counted q)
  block_items_counted (s.statement e f p q) = omega (arith, statement_counted p, block_items_counted q)

pub item_counted : {d : Dialect} {ts rest : List Lexeme} {one : Item} → ReadsItem d ts one rest → of_item one + length rest ≤ length ts
item_counted (i.declared p) = omega (arith, declaration_counted p)
item_counted (i.defined p e q f v w) = omega (arith, specifiers_counted p, stars_counted q, parameters_counted v, compound_counted w)

pub unit_counted : {d : Dialect} {ts : List Lexeme} {all : List Item} → ReadsUnit d ts all → token_count all ≤ length ts
unit_counted i.no_items = omega arith
unit_counted (i.item p q) = omega (arith, item_counted p, unit_counted q)

pub tree_counted : {d : Dialect} (tokens : List Tok) {all : List Item} → IsTree d tokens all → token_count all ≤ length tokens
tree_counted tokens p = omega (arith, unit_counted p, length-map tokens lexeme_of)
