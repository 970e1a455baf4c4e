-- The tree of a text has no bracket of a probe: each bracket of a text starts before what it encloses.
use Rattle.std.proofs.Common.{◌≡◌, ◌<◌, ℕ, Bool, false, List, [], ◌∷◌, Option, Some, None, refl, ap, ap₂, subst, ◌∙◌, arith}
use Rattle.std.proofs.lemmas.Bool.{ne_eqb}
use Rattle.mc_span.specs.declared.span.Span.{Span}
use Rattle.mc_lex.specs.declared.token.Dialect.{Dialect}
use Rattle.mc_lex.specs.Tokens.{Tok}
use Rattle.mc_tree.specs.Tree.{Expression, Expressions, TypeName, Specifiers, StructMember, Members, Enumerator, Enumerators, Declarator, Declarators, ArrayLengths, Parameters, Parameter, ParameterList, Initializer, Initializers, InitDeclarator, Declaration, ForStart, Statement, BlockItems, Item, span_of, span_of_statement, span_of_parameters}
use Rattle.mc_tree.specs.Tree as t
use Rattle.mc_grammar.specs.Words.{Lexeme}
use Rattle.mc_grammar.specs.Places.{at, name_at, to, end_of_expressions}
use Rattle.mc_grammar.specs.Nonterminal.{Nonterminal, Level, operand}
use Rattle.mc_grammar.specs.Nonterminal as n
use Rattle.mc_grammar.specs.Expressions.{Reads, ReadsExpressions, ReadsTypeName, ReadsSpecifiers, ReadsMembers, ReadsMember, ReadsDeclarators, ReadsEnumerators, ReadsEnumerator, ReadsDeclarator, ReadsArrayLengths, ReadsParameters, ReadsParameterList, ReadsParameter}
use Rattle.mc_grammar.specs.Expressions as r
use Rattle.mc_grammar.specs.Statements.{ReadsOptional, ReadsTest, ReadsInitializer, ReadsInitializers, ReadsInitDeclarator, ReadsInitDeclarators, ReadsDeclaration, ReadsForStart, ReadsStatement, ReadsCompound, ReadsBlockItems}
use Rattle.mc_grammar.specs.Statements as g
use Rattle.mc_grammar.specs.Items.{ReadsItem, ReadsUnit, IsTree}
use Rattle.mc_grammar.specs.Items as i
use Rattle.mc_grammar.proofs.Ends.{stars_ends, expression_ends, type_name_ends, specifiers_ends, members_ends, member_ends, enumerators_ends, enumerator_ends, declarator_ends, parameters_ends, parameter_ends, initializer_ends}
use Rattle.mc_grammar.proofs.Extent.{stands, statement_stands}
use Rattle.reread_law_texts.specs.alike.Moves.{FollowFrom}
use Rattle.reread_plain_tree.specs.Unprobed.{is_at, is_probes, parenthesized, compound, unprobed, unprobed_expressions, unprobed_type_name, unprobed_specifiers, unprobed_member, unprobed_members, unprobed_enumerator, unprobed_enumerators, unprobed_declarator, unprobed_declarators, unprobed_lengths, unprobed_parameters, unprobed_parameter, unprobed_parameter_list, unprobed_initializer, unprobed_initializers, unprobed_init_declarator, unprobed_init_declarators, unprobed_declaration, unprobed_optional, unprobed_start, unprobed_statement, unprobed_block, unprobed_item, unprobed_unit}
use Rattle.reread_law_texts.proofs.Unwoven.Ascend.{Later, Ascend, left, follow_ascend, starts_later, after_ascend, init_declarator_left, declaration_left, optional_left, test_left, for_start_left, statement_left, item_left}

-- a bracket that starts before what it encloses
starts_before : (first last : Span) (inner : Span) → first.start < inner.start → is_at (to first last) inner ≡ false
starts_before first last inner lt = ne_eqb first.start inner.start (λ e. omega (arith, lt, e))

-- the rest of a repetition keeps what the tree before it keeps
abbrev Kept : Nonterminal → Expression → Type 0
Kept (n.operations k a) b = unprobed a ≡ a → unprobed b ≡ b
Kept (n.suffixes a) b = unprobed a ≡ a → unprobed b ≡ b
Kept _ b = unprobed b ≡ b

operand_kept : (k : Level) (a : Expression) → Kept (operand k) a → unprobed a ≡ a
operand_kept n.product a h = h
operand_kept n.sum a h = h
operand_kept n.shift a h = h
operand_kept n.relation a h = h
operand_kept n.equality a h = h
operand_kept n.bit_and a h = h
operand_kept n.bit_xor a h = h
operand_kept n.bit_or a h = h
operand_kept n.land a h = h
operand_kept n.lor a h = h

mutual
  kept : {d : Dialect} {k : Nonterminal} {ts rest : List Lexeme} {a : Expression} → Reads d k ts a rest → Ascend ts → Kept k a
  kept (r.comma_one p e) h = kept p h
  kept (r.comma {a = a} {all = all} p e q) h =
      ap₂ (λ x y. t.Comma (t.expressions x y) (to (span_of a) (end_of_expressions (span_of a) all))) (kept p h) (kept_expressions q (left (expression_ends p) h).1)
  kept (r.assign_cond p e) h = kept p h
  kept (r.assign {operator = operator} {a = a} {b = b} p e q) h =
      ap₂ (λ x y. t.Assignment operator x y (to (span_of a) (span_of b))) (kept p h) (kept q (left (expression_ends p) h).1)
  kept (r.cond_level p e) h = kept p h
  kept (r.cond {a = a} {b = b} {c = c} p e q f v) h =
      let h2 = (left (expression_ends p) h).1 in
      let h3 = (left (expression_ends q) h2).1 in
      ap₂ (λ x y. t.Conditional x y (unprobed c) (to (span_of a) (span_of c))) (kept p h) (kept q h2) ∙ ap (λ z. t.Conditional a b z (to (span_of a) (span_of c))) (kept v h3)
  kept (r.level {k = k} {a = a} p q) h = kept q (left (expression_ends p) h) (operand_kept k a (kept p h))
  kept (r.operation {k = k} {operator = operator} {a = a} {b = b} e p q) h =
      λ same. kept q (left (expression_ends p) h.1) (ap₂ (λ x y. t.Binary operator x y (to (span_of a) (span_of b))) same (operand_kept k b (kept p h.1)))
  kept (r.operations_end e) h = λ same. same
  kept (r.cast_unary e p) h = kept p h
  kept (r.cast {x = x} {a = a} e f p v q) h =
      ap₂ (λ y z. t.Cast y z (to (at x) (span_of a))) (kept_type_name p h.1) (kept q (left (type_name_ends p) h.1).1)
  kept (r.unary_postfix e p) h = kept p h
  kept (r.prefix_step {x = x} {operator = operator} {a = a} e p) h = ap (λ y. t.PrefixStep operator y (to (at x) (span_of a))) (kept p h.1)
  kept (r.unary {x = x} {operator = operator} {a = a} e p) h = ap (λ y. t.Unary operator y (to (at x) (span_of a))) (kept p h.1)
  kept (r.postfix p q) h = kept q (left (expression_ends p) h) (kept p h)
  kept (r.index {y = y} {a = a} e p f q) h =
      λ same. kept q (left (expression_ends p) h.1).1 (ap₂ (λ u v. t.Index u v (to (span_of a) (at y))) same (kept p h.1))
  kept (r.member {y = y} {a = a} e f q) h = λ same. kept q h.1.1 (ap (λ u. t.Member u (name_at y) (to (span_of a) (at y))) same)
  kept (r.postfix_step {x = x} {operator = operator} {a = a} e q) h = λ same. kept q h.1 (ap (λ u. t.PostfixStep operator u (to (span_of a) (at x))) same)
  kept (r.suffixes_end e) h = λ same. same
  kept (r.named e f) h = refl
  kept (r.constant e) h = refl
  kept (r.character e) h = refl
  kept (r.parenthesized {x = x} {y = y} {ts = ts} {rest = rest} {a = a} e f p v) h =
      ap₂ (λ probes z. parenthesized probes z (to (at x) (at y))) (starts_before (at x) (at y) (span_of a) (starts_later x.token.start (span_of a) ts (y ∷ rest) (stands refl p) h.0)) (kept p h.1)
  kept (r.call_empty e f v) h = refl
  kept (r.call {x = x} {z = z} e f v p u) h = ap (λ y. t.Call (name_at x) y (to (at x) (at z))) (kept_expressions p h.1.1)

  kept_expressions : {d : Dialect} {ts rest : List Lexeme} {all : Expressions} → ReadsExpressions d ts all rest → Ascend ts → unprobed_expressions all ≡ all
  kept_expressions (r.last_expression p e) h = ap (λ x. t.expressions x t.no_expressions) (kept p h)
  kept_expressions (r.more_expressions p e q) h = ap₂ (λ x y. t.expressions x y) (kept p h) (kept_expressions q (left (expression_ends p) h).1)

  kept_type_name : {d : Dialect} {ts rest : List Lexeme} {type : TypeName} → ReadsTypeName d ts type rest → Ascend ts → unprobed_type_name type ≡ type
  kept_type_name (r.type_name {x = x} {end = end} {stars = stars} p e q) h = ap (λ y. t.type_name y stars (to (at x) end)) (kept_specifiers p h)

  kept_specifiers : {d : Dialect} {has : Bool} {ts rest : List Lexeme} {all : Specifiers} → ReadsSpecifiers d has ts all rest → Ascend ts → unprobed_specifiers all ≡ all
  kept_specifiers (r.specifiers_end e) h = refl
  kept_specifiers (r.word {x = x} {w = w} e p) h = ap (t.specifiers (t.Word w (at x))) (kept_specifiers p h.1)
  kept_specifiers (r.typedef_name {x = x} e p) h = ap (t.specifiers (t.TypedefName (name_at x))) (kept_specifiers p h.1)
  kept_specifiers (r.structure_tag {x = x} {y = y} e f v p) h = ap (t.specifiers (t.StructureTag (name_at y) (to (at x) (at y)))) (kept_specifiers p h.1.1)
  kept_specifiers (r.structure {x = x} {y = y} {v = z} e f k p v q) h =
      ap₂ (λ a b. t.specifiers (t.Structure (Some (name_at y)) a (to (at x) (at z))) b) (kept_members p h.1.1.1) (kept_specifiers q (left (members_ends p) h.1.1.1).1)
  kept_specifiers (r.untagged_structure {x = x} {v = z} e k p v q) h =
      ap₂ (λ a b. t.specifiers (t.Structure None a (to (at x) (at z))) b) (kept_members p h.1.1) (kept_specifiers q (left (members_ends p) h.1.1).1)
  kept_specifiers (r.enumeration_tag {x = x} {y = y} e f v p) h = ap (t.specifiers (t.EnumerationTag (name_at y) (to (at x) (at y)))) (kept_specifiers p h.1.1)
  kept_specifiers (r.enumeration {x = x} {y = y} {v = z} e f k p v q) h =
      ap₂ (λ a b. t.specifiers (t.Enumeration (Some (name_at y)) a (to (at x) (at z))) b) (kept_enumerators p h.1.1.1) (kept_specifiers q (left (enumerators_ends p) h.1.1.1).1)
  kept_specifiers (r.untagged_enumeration {x = x} {v = z} e k p v q) h =
      ap₂ (λ a b. t.specifiers (t.Enumeration None a (to (at x) (at z))) b) (kept_enumerators p h.1.1) (kept_specifiers q (left (enumerators_ends p) h.1.1).1)

  kept_members : {d : Dialect} {ts rest : List Lexeme} {all : Members} → ReadsMembers d ts all rest → Ascend ts → unprobed_members all ≡ all
  kept_members (r.last_member p e) h = ap (λ x. t.members x t.no_members) (kept_member p h)
  kept_members (r.more_members p e q) h = ap₂ (λ x y. t.members x y) (kept_member p h) (kept_members q (left (member_ends p) h))

  kept_member : {d : Dialect} {ts rest : List Lexeme} {one : StructMember} → ReadsMember d ts one rest → Ascend ts → unprobed_member one ≡ one
  kept_member (r.struct_member {x = x} {y = y} p e q f) h = ap₂ (λ a b. t.member a b (to (at x) (at y))) (kept_specifiers p h) (kept_declarators q (left (specifiers_ends p) h))

  kept_declarators : {d : Dialect} {ts rest : List Lexeme} {all : Declarators} → ReadsDeclarators d ts all rest → Ascend ts → unprobed_declarators all ≡ all
  kept_declarators (r.last_declarator p e) h = ap (λ x. t.declarators x t.no_declarators) (kept_declarator p h)
  kept_declarators (r.more_declarators p e q) h = ap₂ (λ x y. t.declarators x y) (kept_declarator p h) (kept_declarators q (left (declarator_ends p) h).1)

  kept_enumerators : {d : Dialect} {ts rest : List Lexeme} {all : Enumerators} → ReadsEnumerators d ts all rest → Ascend ts → unprobed_enumerators all ≡ all
  kept_enumerators (r.last_enumerator p e) h = ap (λ x. t.enumerators x t.no_enumerators) (kept_enumerator p h)
  kept_enumerators (r.last_enumerator_comma p e f) h = ap (λ x. t.enumerators x t.no_enumerators) (kept_enumerator p h)
  kept_enumerators (r.more_enumerators p e f q) h = ap₂ (λ x y. t.enumerators x y) (kept_enumerator p h) (kept_enumerators q (left (enumerator_ends p) h).1)

  kept_enumerator : {d : Dialect} {ts rest : List Lexeme} {one : Enumerator} → ReadsEnumerator d ts one rest → Ascend ts → unprobed_enumerator one ≡ one
  kept_enumerator (r.enumerator e f) h = refl
  kept_enumerator (r.valued_enumerator {x = x} e f p) h = ap (t.valued_enumerator (name_at x)) (kept p h.1.1)

  kept_declarator : {d : Dialect} {ts rest : List Lexeme} {one : Declarator} → ReadsDeclarator d ts one rest → Ascend ts → unprobed_declarator one ≡ one
  kept_declarator (r.object {x = x} {y = y} {end = end} {stars = stars} p e f q) h = ap (λ a. t.object stars (name_at y) a (to (at x) end)) (kept_lengths q (left (stars_ends p) h).1)
  kept_declarator (r.function {x = x} {y = y} {stars = stars} {ps = ps} p e q) h = ap (λ a. t.function stars (name_at y) a (to (at x) (span_of_parameters ps))) (kept_parameters q (left (stars_ends p) h).1)

  kept_lengths : {d : Dialect} {before end : Span} {ts rest : List Lexeme} {all : ArrayLengths} → ReadsArrayLengths d before ts all end rest → Ascend ts → unprobed_lengths all ≡ all
  kept_lengths (r.lengths_end e) h = refl
  kept_lengths (r.absent_length e f p) h = ap t.absent_length (kept_lengths p h.1.1)
  kept_lengths (r.given_length e f p v q) h = ap₂ (λ x y. t.given_length x y) (kept p h.1) (kept_lengths q (left (expression_ends p) h.1).1)

  kept_parameters : {d : Dialect} {ts rest : List Lexeme} {all : Parameters} → ReadsParameters d ts all rest → Ascend ts → unprobed_parameters all ≡ all
  kept_parameters (r.empty_parameters e f) h = refl
  kept_parameters (r.void_parameters e f v) h = refl
  kept_parameters (r.listed_parameters {x = x} {y = y} e f k p v) h = ap (λ a. t.Listed a (to (at x) (at y))) (kept_parameter_list p h.1)

  kept_parameter_list : {d : Dialect} {ts rest : List Lexeme} {all : ParameterList} → ReadsParameterList d ts all rest → Ascend ts → unprobed_parameter_list all ≡ all
  kept_parameter_list (r.last_parameter p e) h = ap (λ x. t.parameters x t.no_parameters) (kept_parameter p h)
  kept_parameter_list (r.more_parameters p e q) h = ap₂ (λ x y. t.parameters x y) (kept_parameter p h) (kept_parameter_list q (left (parameter_ends p) h).1)

  kept_parameter : {d : Dialect} {ts rest : List Lexeme} {one : Parameter} → ReadsParameter d ts one rest → Ascend ts → unprobed_parameter one ≡ one
  kept_parameter (r.parameter {x = x} {y = y} {end = end} {stars = stars} p e q f v) h =
      ap₂ (λ a b. t.parameter a stars (Some (name_at y)) b (to (at x) end)) (kept_specifiers p h) (kept_lengths v (left (stars_ends q) (left (specifiers_ends p) h)).1)
  kept_parameter (r.unnamed_parameter {x = x} {end = end} {stars = stars} p e q f v) h =
      ap₂ (λ a b. t.parameter a stars None b (to (at x) end)) (kept_specifiers p h) (kept_lengths v (left (stars_ends q) (left (specifiers_ends p) h)))

-- ---- declarations

mutual
  kept_initializer : {d : Dialect} {ts rest : List Lexeme} {one : Initializer} → ReadsInitializer d ts one rest → Ascend ts → unprobed_initializer one ≡ one
  kept_initializer (g.single e p) h = ap t.Single (kept p h)
  kept_initializer (g.braced {x = x} {y = y} e p f) h = ap (λ a. t.Braced a (to (at x) (at y))) (kept_initializers p h.1)

  kept_initializers : {d : Dialect} {ts rest : List Lexeme} {all : Initializers} → ReadsInitializers d ts all rest → Ascend ts → unprobed_initializers all ≡ all
  kept_initializers (g.last_initializer p e) h = ap (λ x. t.initializers x t.no_initializers) (kept_initializer p h)
  kept_initializers (g.last_initializer_comma p e f) h = ap (λ x. t.initializers x t.no_initializers) (kept_initializer p h)
  kept_initializers (g.more_initializers p e f q) h = ap₂ (λ x y. t.initializers x y) (kept_initializer p h) (kept_initializers q (left (initializer_ends p) h).1)

kept_init_declarator : {d : Dialect} {typedef : Bool} {ts rest : List Lexeme} {one : InitDeclarator} → ReadsInitDeclarator d typedef ts one rest → Ascend ts → unprobed_init_declarator one ≡ one
kept_init_declarator (g.bare p e) h = ap t.bare (kept_declarator p h)
kept_init_declarator {typedef = typedef} (g.initialized {mid = mid} {d = one} p k e q) h =
    ap₂ (λ x y. t.initialized x y) (kept_declarator p h) (kept_initializer q (subst (λ us. Ascend us) k (after_ascend typedef one mid (left (declarator_ends p) h))).1)

kept_init_declarators : {d : Dialect} {typedef : Bool} {ts rest : List Lexeme} {all : List InitDeclarator} → ReadsInitDeclarators d typedef ts all rest → Ascend ts → unprobed_init_declarators all ≡ all
kept_init_declarators (g.no_init_declarator e) h = refl
kept_init_declarators (g.last_init_declarator p e) h = ap (λ x. x ∷ []) (kept_init_declarator p h)
kept_init_declarators (g.more_init_declarators p e f q) h = ap₂ (λ x y. x ∷ y) (kept_init_declarator p h) (kept_init_declarators q (init_declarator_left p h).1)

kept_declaration : {d : Dialect} {typedef : Bool} {allowed : Specifiers → Bool} {ts rest : List Lexeme} {one : Declaration} → ReadsDeclaration d typedef allowed ts one rest → Ascend ts → unprobed_declaration one ≡ one
kept_declaration (g.declaration {x = x} {y = y} e p f q v) h =
    ap₂ (λ a b. t.declaration a b (to (at x) (at y))) (kept_specifiers p h) (kept_init_declarators q (left (specifiers_ends p) h))

-- ---- statements

kept_optional : {d : Dialect} {stop : List ℕ} {ts rest : List Lexeme} {a : Option Expression} → ReadsOptional d stop ts a rest → Ascend ts → unprobed_optional a ≡ a
kept_optional (g.no_expression e) h = refl
kept_optional (g.an_expression e p) h = ap Some (kept p h)

kept_test : {d : Dialect} {ts rest : List Lexeme} {a : Expression} → ReadsTest d ts a rest → Ascend ts → unprobed a ≡ a
kept_test (g.test e p f) h = kept p h.1

kept_start : {d : Dialect} {ts rest : List Lexeme} {start : ForStart} → ReadsForStart d ts start rest → Ascend ts → unprobed_start start ≡ start
kept_start (g.starts_local p) h = ap t.StartsLocal (kept_declaration p h)
kept_start (g.starts_expression e p f) h = ap t.StartsExpression (kept_optional p h)

-- braces of a text start before the statement in them
no_probes : {d : Dialect} (x y : Lexeme) {ts rest : List Lexeme} {b : BlockItems} → ReadsBlockItems d ts b rest → Later x.token.start ts → is_probes b (to (at x) (at y)) ≡ false
no_probes x y (g.block_end e) h = refl
no_probes x y (g.local e p q) h = refl
no_probes x y (g.statement {ts = ts} {mid = mid} {s = one} e f p (g.block_end k)) h =
    starts_before (at x) (at y) (span_of_statement one) (starts_later x.token.start (span_of_statement one) ts mid (statement_stands p) h)
no_probes x y (g.statement e f p (g.local k c q)) h = refl
no_probes x y (g.statement e f p (g.statement k c v q)) h = refl

mutual
  kept_statement : {d : Dialect} {ts rest : List Lexeme} {one : Statement} → ReadsStatement d ts one rest → Ascend ts → unprobed_statement one ≡ one
  kept_statement (g.compound {span = span} {b = b} p) h = kept_compound p h
  kept_statement (g.null e) h = refl
  kept_statement (g.expression_statement {y = y} {a = a} e f p v) h = ap (λ z. t.ExpressionStatement z (to (span_of a) (at y))) (kept p h)
  kept_statement (g.if_only {x = x} {s = one} e p q f) h = ap₂ (λ y z. t.If y z (to (at x) (span_of_statement one))) (kept_test p h.1) (kept_statement q (test_left p h.1))
  kept_statement (g.if_else {x = x} {a = a} {s = one} {u = other} e p q f v) h =
      let h2 = test_left p h.1 in
      ap₂ (λ y z. t.IfElse y z (unprobed_statement other) (to (at x) (span_of_statement other))) (kept_test p h.1) (kept_statement q h2)
      ∙ ap (λ z. t.IfElse a one z (to (at x) (span_of_statement other))) (kept_statement v (statement_left q h2).1)
  kept_statement (g.switch {x = x} {s = one} e p q) h = ap₂ (λ y z. t.Switch y z (to (at x) (span_of_statement one))) (kept_test p h.1) (kept_statement q (test_left p h.1))
  kept_statement (g.while {x = x} {s = one} e p q) h = ap₂ (λ y z. t.While y z (to (at x) (span_of_statement one))) (kept_test p h.1) (kept_statement q (test_left p h.1))
  kept_statement (g.do_while {x = x} {z = z} e p f q v) h = ap₂ (λ u a. t.DoWhile u a (to (at x) (at z))) (kept_statement p h.1) (kept_test q (statement_left p h.1).1)
  kept_statement (g.for {x = x} {start = start} {a = a} {b = b} {s = one} e f p q v m k c) h =
      let h2 = for_start_left p h.1.1 in
      let h3 = (optional_left q h2).1 in
      ap₂ (λ y z. t.For y z (unprobed_optional b) (unprobed_statement one) (to (at x) (span_of_statement one))) (kept_start p h.1.1) (kept_optional q h2)
      ∙ ap₂ (λ y z. t.For start a y z (to (at x) (span_of_statement one))) (kept_optional m h3) (kept_statement c (optional_left m h3).1)
  kept_statement (g.case_label {x = x} {y = y} {s = one} e p f q) h =
      ap₂ (λ a z. t.Case a (to (at x) (at y)) z (to (at x) (span_of_statement one))) (kept p h.1) (kept_statement q (left (expression_ends p) h.1).1)
  kept_statement (g.default {x = x} {y = y} {s = one} e f p) h = ap (λ z. t.Default (to (at x) (at y)) z (to (at x) (span_of_statement one))) (kept_statement p h.1.1)
  kept_statement (g.label {x = x} {s = one} e f p) h = ap (λ z. t.Label (name_at x) z (to (at x) (span_of_statement one))) (kept_statement p h.1.1)
  kept_statement (g.goto e f v) h = refl
  kept_statement (g.continue e f) h = refl
  kept_statement (g.break e f) h = refl
  kept_statement (g.return {x = x} {y = y} e p f) h = ap (λ z. t.Return z (to (at x) (at y))) (kept_optional p h.1)

  kept_compound : {d : Dialect} {span : Span} {ts rest : List Lexeme} {b : BlockItems} → ReadsCompound d ts b span rest → Ascend ts → unprobed_statement (t.Compound b span) ≡ t.Compound b span
  kept_compound (g.block {x = x} {y = y} {b = b} e p f) h = ap₂ (λ probes z. compound probes z (to (at x) (at y))) (no_probes x y p h.0) (kept_block p h.1)

  kept_block : {d : Dialect} {ts rest : List Lexeme} {b : BlockItems} → ReadsBlockItems d ts b rest → Ascend ts → unprobed_block b ≡ b
  kept_block (g.block_end e) h = refl
  kept_block (g.local e p q) h = ap₂ (λ x y. t.local x y) (kept_declaration p h) (kept_block q (declaration_left p h))
  kept_block (g.statement e f p q) h = ap₂ (λ x y. t.statement x y) (kept_statement p h) (kept_block q (statement_left p h))

kept_body : {d : Dialect} {span : Span} {ts rest : List Lexeme} {b : BlockItems} → ReadsCompound d ts b span rest → Ascend ts → unprobed_block b ≡ b
kept_body (g.block e p f) h = kept_block p h.1

-- ---- items

kept_item : {d : Dialect} {ts rest : List Lexeme} {one : Item} → ReadsItem d ts one rest → Ascend ts → unprobed_item one ≡ one
kept_item (i.declared p) h = ap t.Declared (kept_declaration p h)
kept_item (i.defined {x = x} {y = y} {z = z} {span = span} {s = words} {stars = stars} {ps = ps} {b = b} p e q f v c) h =
    let h2 = (left (stars_ends q) (left (specifiers_ends p) h)).1 in
    let place = to (at y) (span_of_parameters ps) in
    ap₂ (λ k m. t.Defined k (t.function stars (name_at z) m place) (unprobed_block b) (to (at x) span)) (kept_specifiers p h) (kept_parameters v h2)
    ∙ ap (λ k. t.Defined words (t.function stars (name_at z) ps place) k (to (at x) span)) (kept_body c (left (parameters_ends v) h2))

kept_unit : {d : Dialect} {ts : List Lexeme} {unit : List Item} → ReadsUnit d ts unit → Ascend ts → unprobed_unit unit ≡ unit
kept_unit i.no_items h = refl
kept_unit (i.item p q) h = ap₂ (λ x y. x ∷ y) (kept_item p h) (kept_unit q (item_left p h))

pub text_kept : (d : Dialect) (tokens : List Tok) (unit : List Item) → FollowFrom 0 tokens → IsTree d tokens unit → unprobed_unit unit ≡ unit
text_kept d tokens unit h p = kept_unit p (follow_ascend 0 tokens h)
