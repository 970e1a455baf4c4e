-- What is left is no longer than what was given, and shorter where a token is taken.
use Rattle.std.proofs.Common.{◌≡◌, ℕ, ◌+◌, ◌<◌, ◌≤◌, Bool, true, false, List, [], ◌∷◌, Option, length, refl, ap, arith}
use Rattle.mc_lex.specs.declared.token.Dialect.{Dialect}
use Rattle.mc_span.specs.declared.span.Span.{Span}
use Rattle.mc_tree.specs.Tree.{Expression, Expressions, TypeName, Specifiers, StructMember, Members, Enumerator, Enumerators, Declarator, Declarators, ArrayLengths, Parameters, Parameter, ParameterList, Initializer, Initializers, InitDeclarator, Declaration, ForStart, Statement, BlockItems, Item, name_of}
use Rattle.mc_tree.specs.Tree as t
use Rattle.mc_grammar.specs.Words.{Lexeme, retag}
use Rattle.mc_grammar.specs.Counts.{for_type}
use Rattle.mc_grammar.specs.Nonterminal.{Nonterminal, Level, operand, takes}
use Rattle.mc_grammar.specs.Nonterminal as n
use Rattle.mc_grammar.specs.Expressions.{Reads, ReadsExpressions, ReadsTypeName, ReadsStars, ReadsSpecifiers, ReadsMembers, ReadsMember, ReadsDeclarators, ReadsEnumerators, ReadsEnumerator, ReadsDeclarator, ReadsArrayLengths, ReadsParameters, ReadsParameterList, ReadsParameter}
use Rattle.mc_grammar.specs.Expressions as r
use Rattle.mc_grammar.specs.Statements.{ReadsOptional, ReadsTest, ReadsInitializer, ReadsInitializers, ReadsInitDeclarator, ReadsInitDeclarators, ReadsDeclaration, ReadsForStart, ReadsStatement, ReadsCompound, ReadsBlockItems, after}
use Rattle.mc_grammar.specs.Statements as s
use Rattle.mc_grammar.specs.Items.{ReadsItem, ReadsUnit}
use Rattle.mc_grammar.specs.Items as i

pub operand_takes : (k : Level) → takes (operand k) ≡ 1
operand_takes n.product = refl
operand_takes n.sum = refl
operand_takes n.shift = refl
operand_takes n.relation = refl
operand_takes n.equality = refl
operand_takes n.bit_and = refl
operand_takes n.bit_xor = refl
operand_takes n.bit_or = refl
operand_takes n.land = refl
operand_takes n.lor = refl

-- specifiers take a token where there are some
abbrev some_of : Specifiers → ℕ
some_of t.no_specifiers = 0
some_of (t.specifiers one all) = 1

-- what meets the test of a type is not empty
typed : (all : Specifiers) → for_type all ≡ true → some_of all ≡ 1
typed t.no_specifiers e = cc
typed (t.specifiers one all) e = refl

pub stars_shorter : {before end : Span} {ts rest : List Lexeme} {k : ℕ} → ReadsStars before ts k end rest → length rest ≤ length ts
stars_shorter (r.star e p) = omega (arith, stars_shorter p)
stars_shorter (r.no_star e) = omega arith

mutual
  pub shorter : {d : Dialect} {m : Nonterminal} {ts rest : List Lexeme} {a : Expression} → Reads d m ts a rest → length rest + takes m ≤ length ts
  shorter (r.comma_one p e) = shorter p
  shorter (r.comma p e q) = omega (arith, shorter p, expressions_shorter q)
  shorter (r.assign_cond p e) = shorter p
  shorter (r.assign p e q) = omega (arith, shorter p, shorter q)
  shorter (r.cond_level p e) = shorter p
  shorter (r.cond p e q f v) = omega (arith, shorter p, shorter q, shorter v)
  shorter (r.level {k = k} p q) = omega (arith, shorter p, shorter q, operand_takes k)
  shorter (r.operation {k = k} e p q) = omega (arith, shorter p, shorter q, operand_takes k)
  shorter (r.operations_end e) = omega arith
  shorter (r.cast_unary e p) = shorter p
  shorter (r.cast e f p g q) = omega (arith, type_name_shorter p, shorter q)
  shorter (r.unary_postfix e p) = shorter p
  shorter (r.prefix_step e p) = omega (arith, shorter p)
  shorter (r.unary e p) = omega (arith, shorter p)
  shorter (r.postfix p q) = omega (arith, shorter p, shorter q)
  shorter (r.index e p f q) = omega (arith, shorter p, shorter q)
  shorter (r.member e f p) = omega (arith, shorter p)
  shorter (r.postfix_step e p) = omega (arith, shorter p)
  shorter (r.suffixes_end e) = omega arith
  shorter (r.named e f) = omega arith
  shorter (r.constant e) = omega arith
  shorter (r.character e) = omega arith
  shorter (r.parenthesized e f p g) = omega (arith, shorter p)
  shorter (r.call_empty e f g) = omega arith
  shorter (r.call e f g p h) = omega (arith, expressions_shorter p)

  pub expressions_shorter : {d : Dialect} {ts rest : List Lexeme} {all : Expressions} → ReadsExpressions d ts all rest → length rest < length ts
  expressions_shorter (r.last_expression p e) = omega (arith, shorter p)
  expressions_shorter (r.more_expressions p e q) = omega (arith, shorter p, expressions_shorter q)

  pub type_name_shorter : {d : Dialect} {ts rest : List Lexeme} {type : TypeName} → ReadsTypeName d ts type rest → length rest < length ts
  type_name_shorter (r.type_name {s = all} p e q) = omega (arith, typed all e, specifiers_shorter p, stars_shorter q)

  pub specifiers_shorter : {d : Dialect} {has : Bool} {ts rest : List Lexeme} {all : Specifiers} → ReadsSpecifiers d has ts all rest → length rest + some_of all ≤ length ts
  specifiers_shorter (r.specifiers_end e) = omega arith
  specifiers_shorter (r.word e p) = omega (arith, specifiers_shorter p)
  specifiers_shorter (r.typedef_name e p) = omega (arith, specifiers_shorter p)
  specifiers_shorter (r.structure_tag e f g p) = omega (arith, specifiers_shorter p)
  specifiers_shorter (r.structure e f g p h q) = omega (arith, members_shorter p, specifiers_shorter q)
  specifiers_shorter (r.untagged_structure e f p g q) = omega (arith, members_shorter p, specifiers_shorter q)
  specifiers_shorter (r.enumeration_tag e f g p) = omega (arith, specifiers_shorter p)
  specifiers_shorter (r.enumeration e f g p h q) = omega (arith, enumerators_shorter p, specifiers_shorter q)
  specifiers_shorter (r.untagged_enumeration e f p g q) = omega (arith, enumerators_shorter p, specifiers_shorter q)

  pub members_shorter : {d : Dialect} {ts rest : List Lexeme} {all : Members} → ReadsMembers d ts all rest → length rest < length ts
  members_shorter (r.last_member p e) = member_shorter p
  members_shorter (r.more_members p e q) = omega (arith, member_shorter p, members_shorter q)

  pub member_shorter : {d : Dialect} {ts rest : List Lexeme} {one : StructMember} → ReadsMember d ts one rest → length rest < length ts
  member_shorter (r.struct_member p e q f) = omega (arith, specifiers_shorter p, declarators_shorter q)

  pub declarators_shorter : {d : Dialect} {ts rest : List Lexeme} {all : Declarators} → ReadsDeclarators d ts all rest → length rest < length ts
  declarators_shorter (r.last_declarator p e) = declarator_shorter p
  declarators_shorter (r.more_declarators p e q) = omega (arith, declarator_shorter p, declarators_shorter q)

  pub enumerators_shorter : {d : Dialect} {ts rest : List Lexeme} {all : Enumerators} → ReadsEnumerators d ts all rest → length rest < length ts
  enumerators_shorter (r.last_enumerator p e) = enumerator_shorter p
  enumerators_shorter (r.last_enumerator_comma p e f) = omega (arith, enumerator_shorter p)
  enumerators_shorter (r.more_enumerators p e f q) = omega (arith, enumerator_shorter p, enumerators_shorter q)

  pub enumerator_shorter : {d : Dialect} {ts rest : List Lexeme} {one : Enumerator} → ReadsEnumerator d ts one rest → length rest < length ts
  enumerator_shorter (r.enumerator e f) = omega arith
  enumerator_shorter (r.valued_enumerator e f p) = omega (arith, shorter p)

  pub declarator_shorter : {d : Dialect} {ts rest : List Lexeme} {one : Declarator} → ReadsDeclarator d ts one rest → length rest < length ts
  declarator_shorter (r.object p e f q) = omega (arith, stars_shorter p, lengths_shorter q)
  declarator_shorter (r.function p e q) = omega (arith, stars_shorter p, parameters_shorter q)

  pub lengths_shorter : {d : Dialect} {before end : Span} {ts rest : List Lexeme} {all : ArrayLengths} → ReadsArrayLengths d before ts all end rest → length rest ≤ length ts
  lengths_shorter (r.lengths_end e) = omega arith
  lengths_shorter (r.absent_length e f p) = omega (arith, lengths_shorter p)
  lengths_shorter (r.given_length e f p g q) = omega (arith, shorter p, lengths_shorter q)

  pub parameters_shorter : {d : Dialect} {ts rest : List Lexeme} {all : Parameters} → ReadsParameters d ts all rest → length rest < length ts
  parameters_shorter (r.empty_parameters e f) = omega arith
  parameters_shorter (r.void_parameters e f g) = omega arith
  parameters_shorter (r.listed_parameters e f g p h) = omega (arith, parameter_list_shorter p)

  pub parameter_list_shorter : {d : Dialect} {ts rest : List Lexeme} {all : ParameterList} → ReadsParameterList d ts all rest → length rest < length ts
  parameter_list_shorter (r.last_parameter p e) = parameter_shorter p
  parameter_list_shorter (r.more_parameters p e q) = omega (arith, parameter_shorter p, parameter_list_shorter q)

  pub parameter_shorter : {d : Dialect} {ts rest : List Lexeme} {one : Parameter} → ReadsParameter d ts one rest → length rest < length ts
  parameter_shorter (r.parameter {s = all} p e q f v) = omega (arith, typed all e, specifiers_shorter p, stars_shorter q, lengths_shorter v)
  parameter_shorter (r.unnamed_parameter {s = all} p e q f v) = omega (arith, typed all e, specifiers_shorter p, stars_shorter q, lengths_shorter v)

pub specifiers_no_longer : {d : Dialect} {has : Bool} {ts rest : List Lexeme} {all : Specifiers} → ReadsSpecifiers d has ts all rest → length rest ≤ length ts
specifiers_no_longer p = omega (arith, specifiers_shorter p)

pub optional_shorter : {d : Dialect} {stop : List ℕ} {ts rest : List Lexeme} {a : Option Expression} → ReadsOptional d stop ts a rest → length rest ≤ length ts
optional_shorter (s.no_expression e) = omega arith
optional_shorter (s.an_expression e p) = omega (arith, shorter p)

pub test_shorter : {d : Dialect} {ts rest : List Lexeme} {a : Expression} → ReadsTest d ts a rest → length rest < length ts
test_shorter (s.test e p f) = omega (arith, shorter p)

mutual
  pub initializer_shorter : {d : Dialect} {ts rest : List Lexeme} {one : Initializer} → ReadsInitializer d ts one rest → length rest < length ts
  initializer_shorter (s.single e p) = omega (arith, shorter p)
  initializer_shorter (s.braced e p f) = omega (arith, initializers_shorter p)

  pub initializers_shorter : {d : Dialect} {ts rest : List Lexeme} {all : Initializers} → ReadsInitializers d ts all rest → length rest < length ts
  initializers_shorter (s.last_initializer p e) = initializer_shorter p
  initializers_shorter (s.last_initializer_comma p e f) = omega (arith, initializer_shorter p)
  initializers_shorter (s.more_initializers p e f q) = omega (arith, initializer_shorter p, initializers_shorter q)

pub same_length : (name : List ℕ) (ts : List Lexeme) → length (retag name ts) ≡ length ts
unfolding retag
same_length name [] = refl
same_length name (x ∷ ts) = omega (arith, same_length name ts)

after_length : (typedef : Bool) (one : Declarator) (ts : List Lexeme) → length (after typedef one ts) ≡ length ts
after_length true one ts = same_length (name_of one).text ts
after_length false one ts = refl

pub init_declarator_shorter : {d : Dialect} {typedef : Bool} {ts rest : List Lexeme} {one : InitDeclarator} → ReadsInitDeclarator d typedef ts one rest → length rest < length ts
init_declarator_shorter {typedef = typedef} (s.bare {mid = mid} {d = one} p e) = omega (arith, declarator_shorter p, after_length typedef one mid)
init_declarator_shorter {typedef = typedef} (s.initialized {mid = mid} {d = one} p g e q) = omega (arith, declarator_shorter p, after_length typedef one mid, ap length g, initializer_shorter q)

pub init_declarators_shorter : {d : Dialect} {typedef : Bool} {ts rest : List Lexeme} {all : List InitDeclarator} → ReadsInitDeclarators d typedef ts all rest → length rest ≤ length ts
init_declarators_shorter (s.no_init_declarator e) = omega arith
init_declarators_shorter (s.last_init_declarator p e) = omega (arith, init_declarator_shorter p)
init_declarators_shorter (s.more_init_declarators p e f q) = omega (arith, init_declarator_shorter p, init_declarators_shorter q)

pub declaration_shorter : {d : Dialect} {typedef : Bool} {allowed : Specifiers → Bool} {ts rest : List Lexeme} {one : Declaration} → ReadsDeclaration d typedef allowed ts one rest → length rest < length ts
declaration_shorter (s.declaration e p f q g) = omega (arith, specifiers_shorter p, init_declarators_shorter q)

pub for_start_shorter : {d : Dialect} {ts rest : List Lexeme} {start : ForStart} → ReadsForStart d ts start rest → length rest < length ts
for_start_shorter (s.starts_local p) = declaration_shorter p
for_start_shorter (s.starts_expression e p f) = omega (arith, optional_shorter p)

mutual
  pub statement_shorter : {d : Dialect} {ts rest : List Lexeme} {one : Statement} → ReadsStatement d ts one rest → length rest < length ts
  statement_shorter (s.compound p) = compound_shorter p
  statement_shorter (s.null e) = omega arith
  statement_shorter (s.expression_statement e f p g) = omega (arith, shorter p)
  statement_shorter (s.if_only e p q f) = omega (arith, test_shorter p, statement_shorter q)
  statement_shorter (s.if_else e p q f v) = omega (arith, test_shorter p, statement_shorter q, statement_shorter v)
  statement_shorter (s.switch e p q) = omega (arith, test_shorter p, statement_shorter q)
  statement_shorter (s.while e p q) = omega (arith, test_shorter p, statement_shorter q)
  statement_shorter (s.do_while e p f q g) = omega (arith, statement_shorter p, test_shorter q)
  statement_shorter (s.for e f p q g v h w) = omega (arith, for_start_shorter p, optional_shorter q, optional_shorter v, statement_shorter w)
  statement_shorter (s.case_label e p f q) = omega (arith, shorter p, statement_shorter q)
  statement_shorter (s.default e f p) = omega (arith, statement_shorter p)
  statement_shorter (s.label e f p) = omega (arith, statement_shorter p)
  statement_shorter (s.goto e f g) = omega arith
  statement_shorter (s.continue e f) = omega arith
  statement_shorter (s.break e f) = omega arith
  statement_shorter (s.return e p f) = omega (arith, optional_shorter p)

  pub compound_shorter : {d : Dialect} {span : Span} {ts rest : List Lexeme} {all : BlockItems} → ReadsCompound d ts all span rest → length rest < length ts
  compound_shorter (s.block e p f) = omega (arith, block_items_shorter p)

  pub block_items_shorter : {d : Dialect} {ts rest : List Lexeme} {all : BlockItems} → ReadsBlockItems d ts all rest → length rest ≤ length ts
  block_items_shorter (s.block_end e) = omega arith
  block_items_shorter (s.local e p q) = omega (arith, declaration_shorter p, block_items_shorter q)
  block_items_shorter (s.statement e f p q) = omega (arith, statement_shorter p, block_items_shorter q)

pub item_shorter : {d : Dialect} {ts rest : List Lexeme} {one : Item} → ReadsItem d ts one rest → length rest < length ts
item_shorter (i.declared p) = declaration_shorter p
item_shorter (i.defined p e q f v w) = omega (arith, specifiers_shorter p, stars_shorter q, parameters_shorter v, compound_shorter w)
