-- The brackets of a text start before what they enclose: one case for each alternative of a production.
use Rattle.std.proofs.Common.{◌≤◌, ◌<◌, ◌+◌, ℕ, Bool, List, [], ◌∷◌, Option, length, sym, ap, ◌∙◌, subst, arith}
use Rattle.mc_span.specs.declared.span.Span.{Span}
use Rattle.mc_lex.specs.declared.token.Dialect.{Dialect}
use Rattle.mc_lex.specs.Tokens.{Tok}
use Rattle.mc_tree.specs.Tree.{Expression, Expressions, TypeName, Specifiers, StructMember, Members, Enumerator, Enumerators, Declarator, Declarators, ArrayLengths, Parameters, Parameter, ParameterList, Initializer, Initializers, InitDeclarator, Declaration, ForStart, Statement, BlockItems, Item, span_of, span_of_statement}
use Rattle.mc_grammar.specs.Words.{Lexeme}
use Rattle.mc_grammar.specs.Extent.{IsPlace, places, span_of_type_name, span_of_declaration}
use Rattle.mc_grammar.specs.Extent as extent
use Rattle.mc_grammar.specs.Nonterminal.{Nonterminal, Level, operand}
use Rattle.mc_grammar.specs.Nonterminal as n
use Rattle.mc_grammar.specs.Expressions.{Reads, ReadsExpressions, ReadsTypeName, ReadsSpecifiers, ReadsMembers, ReadsMember, ReadsDeclarators, ReadsEnumerators, ReadsEnumerator, ReadsDeclarator, ReadsArrayLengths, ReadsParameters, ReadsParameterList, ReadsParameter}
use Rattle.mc_grammar.specs.Expressions as r
use Rattle.mc_grammar.specs.Statements.{ReadsOptional, ReadsTest, ReadsInitializer, ReadsInitializers, ReadsInitDeclarator, ReadsInitDeclarators, ReadsDeclaration, ReadsForStart, ReadsStatement, ReadsCompound, ReadsBlockItems}
use Rattle.mc_grammar.specs.Statements as g
use Rattle.mc_grammar.specs.Items.{ReadsItem, ReadsUnit, IsTree}
use Rattle.mc_grammar.specs.Items as i
use Rattle.mc_grammar.proofs.Extent.{statement_stands}
use Rattle.reread_law_texts.specs.alike.Moves.{FollowFrom, end_of}
use Rattle.reread_law_texts.specs.apart.Enclosed.{Encloses, EnclosesAll, EnclosesInTypeName, EnclosesInSpecifiers, EnclosesInMembers, EnclosesInMember, EnclosesInDeclarators, EnclosesInEnumerators, EnclosesInEnumerator, EnclosesInDeclarator, EnclosesInLengths, EnclosesInParameters, EnclosesInParameterList, EnclosesInParameter, EnclosesInInitializer, EnclosesInInitializers, EnclosesInInitDeclarator, EnclosesInInitDeclarators, EnclosesInDeclaration, EnclosesInOptional, EnclosesInStart, StartsAfter, EnclosesInStatement, EnclosesInBlock, EnclosesInItem, EnclosesInUnit}
use Rattle.reread_law_texts.proofs.Apart.Ascending.{own}
use Rattle.reread_law_texts.proofs.Apart.ApartExpressions.{stars_apart, apart, operand_apart, apart_type_name, apart_specifiers, apart_members, apart_member, apart_enumerators, apart_enumerator, apart_declarator, apart_parameters, apart_parameter}
use Rattle.reread_law_texts.proofs.Apart.ApartStatements.{apart_initializer, apart_init_declarator, apart_declaration, apart_optional, apart_test, apart_start, apart_statement, apart_item}
use Rattle.reread_law_texts.proofs.Tokens.{tk, after_tokens, same_tokens}

-- ---- what starts after a byte

beyond : (n c start : ℕ) → n < c → c ≤ start → n < start
beyond n c start h k = omega (arith, h, k)

type_starts : {d : Dialect} (n c : ℕ) {ts rest : List Lexeme} {type : TypeName} → ReadsTypeName d ts type rest → n < c → FollowFrom c (tk ts) → n < (span_of_type_name type).start
type_starts n c (r.type_name {x = x} p e q) h k = beyond n c x.token.start h k.0

declaration_starts : {d : Dialect} {typedef : Bool} {allowed : Specifiers → Bool} (n c : ℕ) {ts rest : List Lexeme} {one : Declaration} → ReadsDeclaration d typedef allowed ts one rest → n < c → FollowFrom c (tk ts)
    → n < (span_of_declaration one).start
declaration_starts n c (g.declaration {x = x} e p f q v) h k = beyond n c x.token.start h k.0

abbrev HeadFrom : ℕ → List Span → Type 0
HeadFrom c [] = Unit {0}
HeadFrom c (place ∷ all) = c ≤ place.start

head_from : (c : ℕ) (ts : List Lexeme) → FollowFrom c (tk ts) → HeadFrom c (places ts)
head_from c [] h = tt
head_from c (x ∷ ts) h = h.0

lowest : (c : ℕ) {span : Span} {all rest : List Span} → IsPlace span all rest → HeadFrom c all → c ≤ span.start
lowest c extent.single h = h
lowest c (extent.longer p) h = h

block_starts : {d : Dialect} (n c : ℕ) {ts rest : List Lexeme} {b : BlockItems} → ReadsBlockItems d ts b rest → n < c → FollowFrom c (tk ts) → StartsAfter n b
block_starts n c (g.block_end e) h k = tt
block_starts n c (g.local e p q) h k = declaration_starts n c p h k
block_starts n c (g.statement {ts = ts} {s = one} e f p q) h k = beyond n c (span_of_statement one).start h (lowest c (statement_stands p) (head_from c ts k))

beyond_token : (n c start length : ℕ) → n < c → c ≤ start → n < start + length
beyond_token n c start length h k = omega (arith, h, k)

body_starts : {d : Dialect} (n c : ℕ) {span : Span} {ts rest : List Lexeme} {b : BlockItems} → ReadsCompound d ts b span rest → n < c → FollowFrom c (tk ts) → StartsAfter n b
body_starts n c (g.block {x = x} e p f) h k = block_starts n (end_of x.token) p (beyond_token n c x.token.start (length x.token.text) h k.0) k.2

-- ---- expressions and declarators

-- the rest of a repetition goes on from an expression
abbrev Kept : Nonterminal → Expression → Type 0
Kept (n.operations k a) b = Encloses a → Encloses b
Kept (n.suffixes a) b = Encloses a → Encloses b
Kept _ b = Encloses b

operand_kept : (k : Level) (a : Expression) → Kept (operand k) a → Encloses a
operand_kept n.product a h = h
operand_kept n.sum a h = h
operand_kept n.shift a h = h
operand_kept n.relation a h = h
operand_kept n.equality a h = h
operand_kept n.bit_and a h = h
operand_kept n.bit_xor a h = h
operand_kept n.bit_or a h = h
operand_kept n.land a h = h
operand_kept n.lor a h = h

mutual
  kept : {d : Dialect} {k : Nonterminal} {ts rest : List Lexeme} {a : Expression} → Reads d k ts a rest → (c : ℕ) → FollowFrom c (tk ts) → Kept k a
  kept (r.comma_one p e) c h = kept p c h
  kept (r.comma {x = x} p e q) c h = let first = apart p c h in (kept p c h, kept_expressions q (end_of x.token) first.follow.2)
  kept (r.assign_cond p e) c h = kept p c h
  kept (r.assign {x = x} p e q) c h = let first = apart p c h in (kept p c h, kept q (end_of x.token) first.follow.2)
  kept (r.cond_level p e) c h = kept p c h
  kept (r.cond {x = x} {y = y} p e q f v) c h =
      let first = apart p c h in
      let second = apart q (end_of x.token) first.follow.2 in
      (kept p c h, kept q (end_of x.token) first.follow.2, kept v (end_of y.token) second.follow.2)
  kept (r.level {k = k} {ts = ts} {mid = mid} {a = a} p q) c h = kept q (span_of a).end (operand_apart k ts a mid (apart p) c h).follow (operand_kept k a (kept p c h))
  kept (r.operation {k = k} {x = x} {ts = ts} {mid = mid} {b = b} e p q) c h =
      let second = operand_apart k ts b mid (apart p) (end_of x.token) h.2 in
      λ first. kept q (span_of b).end second.follow (first, operand_kept k b (kept p (end_of x.token) h.2))
  kept (r.operations_end e) c h = λ first. first
  kept (r.cast_unary e p) c h = kept p c h
  kept (r.cast {x = x} {y = y} e f p v q) c h =
      let type = apart_type_name p (end_of x.token) h.2 in
      (type_starts x.token.start (end_of x.token) p (own x h.1) h.2, kept_type_name p (end_of x.token) h.2, kept q (end_of y.token) type.part.follow.2)
  kept (r.unary_postfix e p) c h = kept p c h
  kept (r.prefix_step {x = x} e p) c h = kept p (end_of x.token) h.2
  kept (r.unary {x = x} e p) c h = kept p (end_of x.token) h.2
  kept (r.postfix {a = a} p q) c h = kept q (span_of a).end (apart p c h).follow (kept p c h)
  kept (r.index {x = x} {y = y} e p f q) c h = let second = apart p (end_of x.token) h.2 in λ first. kept q (end_of y.token) second.follow.2 (first, kept p (end_of x.token) h.2)
  kept (r.member {y = y} e f q) c h = λ first. kept q (end_of y.token) h.2.2 first
  kept (r.postfix_step {x = x} e q) c h = λ first. kept q (end_of x.token) h.2 first
  kept (r.suffixes_end e) c h = λ first. first
  kept (r.named e f) c h = tt
  kept (r.constant e) c h = tt
  kept (r.character e) c h = tt
  kept (r.parenthesized {x = x} {a = a} e f p v) c h =
      let inner = apart p (end_of x.token) h.2 in
      (beyond x.token.start (end_of x.token) (span_of a).start (own x h.1) inner.lower, kept p (end_of x.token) h.2)
  kept (r.call_empty e f v) c h = tt
  kept (r.call {y = y} e f v p u) c h = kept_expressions p (end_of y.token) h.2.2

  kept_expressions : {d : Dialect} {ts rest : List Lexeme} {all : Expressions} → ReadsExpressions d ts all rest → (c : ℕ) → FollowFrom c (tk ts) → EnclosesAll all
  kept_expressions (r.last_expression p e) c h = (kept p c h, tt)
  kept_expressions (r.more_expressions {x = x} p e q) c h = let first = apart p c h in (kept p c h, kept_expressions q (end_of x.token) first.follow.2)

  kept_type_name : {d : Dialect} {ts rest : List Lexeme} {type : TypeName} → ReadsTypeName d ts type rest → (c : ℕ) → FollowFrom c (tk ts) → EnclosesInTypeName type
  kept_type_name (r.type_name p e q) c h = kept_specifiers p c h

  kept_specifiers : {d : Dialect} {has : Bool} {ts rest : List Lexeme} {all : Specifiers} → ReadsSpecifiers d has ts all rest → (c : ℕ) → FollowFrom c (tk ts) → EnclosesInSpecifiers all
  kept_specifiers (r.specifiers_end e) c h = tt
  kept_specifiers (r.word {x = x} e p) c h = (tt, kept_specifiers p (end_of x.token) h.2)
  kept_specifiers (r.typedef_name {x = x} e p) c h = (tt, kept_specifiers p (end_of x.token) h.2)
  kept_specifiers (r.structure_tag {y = y} e f v p) c h = (tt, kept_specifiers p (end_of y.token) h.2.2)
  kept_specifiers (r.structure {z = z} {v = last} e f k p v q) c h =
      let inner = apart_members p (end_of z.token) h.2.2.2 in
      (kept_members p (end_of z.token) h.2.2.2, kept_specifiers q (end_of last.token) inner.part.follow.2)
  kept_specifiers (r.untagged_structure {z = z} {v = last} e k p v q) c h =
      let inner = apart_members p (end_of z.token) h.2.2 in
      (kept_members p (end_of z.token) h.2.2, kept_specifiers q (end_of last.token) inner.part.follow.2)
  kept_specifiers (r.enumeration_tag {y = y} e f v p) c h = (tt, kept_specifiers p (end_of y.token) h.2.2)
  kept_specifiers (r.enumeration {z = z} {v = last} e f k p v q) c h =
      let inner = apart_enumerators p (end_of z.token) h.2.2.2 in
      (kept_enumerators p (end_of z.token) h.2.2.2, kept_specifiers q (end_of last.token) inner.part.follow.2)
  kept_specifiers (r.untagged_enumeration {z = z} {v = last} e k p v q) c h =
      let inner = apart_enumerators p (end_of z.token) h.2.2 in
      (kept_enumerators p (end_of z.token) h.2.2, kept_specifiers q (end_of last.token) inner.part.follow.2)

  kept_members : {d : Dialect} {ts rest : List Lexeme} {all : Members} → ReadsMembers d ts all rest → (c : ℕ) → FollowFrom c (tk ts) → EnclosesInMembers all
  kept_members (r.last_member p e) c h = (kept_member p c h, tt)
  kept_members (r.more_members p e q) c h = let one = apart_member p c h in (kept_member p c h, kept_members q one.end one.part.follow)

  kept_member : {d : Dialect} {ts rest : List Lexeme} {one : StructMember} → ReadsMember d ts one rest → (c : ℕ) → FollowFrom c (tk ts) → EnclosesInMember one
  kept_member (r.struct_member p e q f) c h = let words = apart_specifiers p c h in (kept_specifiers p c h, kept_declarators q words.end words.part.follow)

  kept_declarators : {d : Dialect} {ts rest : List Lexeme} {all : Declarators} → ReadsDeclarators d ts all rest → (c : ℕ) → FollowFrom c (tk ts) → EnclosesInDeclarators all
  kept_declarators (r.last_declarator p e) c h = (kept_declarator p c h, tt)
  kept_declarators (r.more_declarators {x = x} p e q) c h = let one = apart_declarator p c h in (kept_declarator p c h, kept_declarators q (end_of x.token) one.part.follow.2)

  kept_enumerators : {d : Dialect} {ts rest : List Lexeme} {all : Enumerators} → ReadsEnumerators d ts all rest → (c : ℕ) → FollowFrom c (tk ts) → EnclosesInEnumerators all
  kept_enumerators (r.last_enumerator p e) c h = (kept_enumerator p c h, tt)
  kept_enumerators (r.last_enumerator_comma p e f) c h = (kept_enumerator p c h, tt)
  kept_enumerators (r.more_enumerators {x = x} p e f q) c h = let one = apart_enumerator p c h in (kept_enumerator p c h, kept_enumerators q (end_of x.token) one.part.follow.2)

  kept_enumerator : {d : Dialect} {ts rest : List Lexeme} {one : Enumerator} → ReadsEnumerator d ts one rest → (c : ℕ) → FollowFrom c (tk ts) → EnclosesInEnumerator one
  kept_enumerator (r.enumerator e f) c h = tt
  kept_enumerator (r.valued_enumerator {y = y} e f p) c h = kept p (end_of y.token) h.2.2

  kept_declarator : {d : Dialect} {ts rest : List Lexeme} {one : Declarator} → ReadsDeclarator d ts one rest → (c : ℕ) → FollowFrom c (tk ts) → EnclosesInDeclarator one
  kept_declarator (r.object {y = y} p e f q) c h = let stars = stars_apart p c h in kept_lengths q (end_of y.token) stars.part.follow.2
  kept_declarator (r.function {y = y} p e q) c h = let stars = stars_apart p c h in kept_parameters q (end_of y.token) stars.part.follow.2

  kept_lengths : {d : Dialect} {before end : Span} {ts rest : List Lexeme} {all : ArrayLengths} → ReadsArrayLengths d before ts all end rest → (c : ℕ) → FollowFrom c (tk ts) → EnclosesInLengths all
  kept_lengths (r.lengths_end e) c h = tt
  kept_lengths (r.absent_length {y = y} e f p) c h = kept_lengths p (end_of y.token) h.2.2
  kept_lengths (r.given_length {x = x} {y = y} e f p v q) c h = let inner = apart p (end_of x.token) h.2 in (kept p (end_of x.token) h.2, kept_lengths q (end_of y.token) inner.follow.2)

  kept_parameters : {d : Dialect} {ts rest : List Lexeme} {all : Parameters} → ReadsParameters d ts all rest → (c : ℕ) → FollowFrom c (tk ts) → EnclosesInParameters all
  kept_parameters (r.empty_parameters e f) c h = tt
  kept_parameters (r.void_parameters e f v) c h = tt
  kept_parameters (r.listed_parameters {x = x} e f k p v) c h = kept_parameter_list p (end_of x.token) h.2

  kept_parameter_list : {d : Dialect} {ts rest : List Lexeme} {all : ParameterList} → ReadsParameterList d ts all rest → (c : ℕ) → FollowFrom c (tk ts) → EnclosesInParameterList all
  kept_parameter_list (r.last_parameter p e) c h = (kept_parameter p c h, tt)
  kept_parameter_list (r.more_parameters {x = x} p e q) c h = let one = apart_parameter p c h in (kept_parameter p c h, kept_parameter_list q (end_of x.token) one.part.follow.2)

  kept_parameter : {d : Dialect} {ts rest : List Lexeme} {one : Parameter} → ReadsParameter d ts one rest → (c : ℕ) → FollowFrom c (tk ts) → EnclosesInParameter one
  kept_parameter (r.parameter {y = y} p e q f v) c h =
      let words = apart_specifiers p c h in
      let stars = stars_apart q words.end words.part.follow in
      (kept_specifiers p c h, kept_lengths v (end_of y.token) stars.part.follow.2)
  kept_parameter (r.unnamed_parameter p e q f v) c h =
      let words = apart_specifiers p c h in
      let stars = stars_apart q words.end words.part.follow in
      (kept_specifiers p c h, kept_lengths v stars.end stars.part.follow)

-- ---- declarations

mutual
  kept_initializer : {d : Dialect} {ts rest : List Lexeme} {one : Initializer} → ReadsInitializer d ts one rest → (c : ℕ) → FollowFrom c (tk ts) → EnclosesInInitializer one
  kept_initializer (g.single e p) c h = kept p c h
  kept_initializer (g.braced {x = x} e p f) c h = kept_initializers p (end_of x.token) h.2

  kept_initializers : {d : Dialect} {ts rest : List Lexeme} {all : Initializers} → ReadsInitializers d ts all rest → (c : ℕ) → FollowFrom c (tk ts) → EnclosesInInitializers all
  kept_initializers (g.last_initializer p e) c h = (kept_initializer p c h, tt)
  kept_initializers (g.last_initializer_comma p e f) c h = (kept_initializer p c h, tt)
  kept_initializers (g.more_initializers {x = x} p e f q) c h = let one = apart_initializer p c h in (kept_initializer p c h, kept_initializers q (end_of x.token) one.part.follow.2)

kept_init_declarator : {d : Dialect} {typedef : Bool} {ts rest : List Lexeme} {one : InitDeclarator} → ReadsInitDeclarator d typedef ts one rest → (c : ℕ) → FollowFrom c (tk ts) → EnclosesInInitDeclarator one
kept_init_declarator (g.bare p e) c h = kept_declarator p c h
kept_init_declarator {typedef = typedef} (g.initialized {x = x} {mid = mid} {d = one} p k e q) c h =
    let name = apart_declarator p c h in
    (kept_declarator p c h, kept_initializer q (end_of x.token) (subst (λ us. FollowFrom name.end us) (sym (after_tokens typedef one mid) ∙ ap tk k) name.part.follow).2)

kept_init_declarators : {d : Dialect} {typedef : Bool} {ts rest : List Lexeme} {all : List InitDeclarator} → ReadsInitDeclarators d typedef ts all rest → (c : ℕ) → FollowFrom c (tk ts) → EnclosesInInitDeclarators all
kept_init_declarators (g.no_init_declarator e) c h = tt
kept_init_declarators (g.last_init_declarator p e) c h = (kept_init_declarator p c h, tt)
kept_init_declarators (g.more_init_declarators {x = x} p e f q) c h = let one = apart_init_declarator p c h in (kept_init_declarator p c h, kept_init_declarators q (end_of x.token) one.part.follow.2)

kept_declaration : {d : Dialect} {typedef : Bool} {allowed : Specifiers → Bool} {ts rest : List Lexeme} {one : Declaration} → ReadsDeclaration d typedef allowed ts one rest → (c : ℕ) → FollowFrom c (tk ts) → EnclosesInDeclaration one
kept_declaration (g.declaration e p f q v) c h = let words = apart_specifiers p c h in (kept_specifiers p c h, kept_init_declarators q words.end words.part.follow)

-- ---- statements

kept_optional : {d : Dialect} {stop : List ℕ} {ts rest : List Lexeme} {a : Option Expression} → ReadsOptional d stop ts a rest → (c : ℕ) → FollowFrom c (tk ts) → EnclosesInOptional a
kept_optional (g.no_expression e) c h = tt
kept_optional (g.an_expression e p) c h = kept p c h

kept_test : {d : Dialect} {ts rest : List Lexeme} {a : Expression} → ReadsTest d ts a rest → (c : ℕ) → FollowFrom c (tk ts) → Encloses a
kept_test (g.test {x = x} e p f) c h = kept p (end_of x.token) h.2

kept_start : {d : Dialect} {ts rest : List Lexeme} {start : ForStart} → ReadsForStart d ts start rest → (c : ℕ) → FollowFrom c (tk ts) → EnclosesInStart start
kept_start (g.starts_local p) c h = kept_declaration p c h
kept_start (g.starts_expression e p f) c h = kept_optional p c h

mutual
  kept_statement : {d : Dialect} {ts rest : List Lexeme} {one : Statement} → ReadsStatement d ts one rest → (c : ℕ) → FollowFrom c (tk ts) → EnclosesInStatement one
  kept_statement (g.compound p) c h = kept_compound p c h
  kept_statement (g.null e) c h = tt
  kept_statement (g.expression_statement e f p v) c h = kept p c h
  kept_statement (g.if_only {x = x} e p q f) c h =
      let test = apart_test p (end_of x.token) h.2 in
      (kept_test p (end_of x.token) h.2, kept_statement q test.end test.part.follow)
  kept_statement (g.if_else {x = x} {y = y} e p q f v) c h =
      let test = apart_test p (end_of x.token) h.2 in
      let first = apart_statement q test.end test.part.follow in
      (kept_test p (end_of x.token) h.2, kept_statement q test.end test.part.follow, kept_statement v (end_of y.token) first.part.follow.2)
  kept_statement (g.switch {x = x} e p q) c h =
      let test = apart_test p (end_of x.token) h.2 in
      (kept_test p (end_of x.token) h.2, kept_statement q test.end test.part.follow)
  kept_statement (g.while {x = x} e p q) c h =
      let test = apart_test p (end_of x.token) h.2 in
      (kept_test p (end_of x.token) h.2, kept_statement q test.end test.part.follow)
  kept_statement (g.do_while {x = x} {y = y} e p f q v) c h =
      let body = apart_statement p (end_of x.token) h.2 in
      (kept_statement p (end_of x.token) h.2, kept_test q (end_of y.token) body.part.follow.2)
  kept_statement (g.for {y = y} {z = z} {v = close} e f p q v m k u) c h =
      let first = apart_start p (end_of y.token) h.2.2 in
      let second = apart_optional q first.end first.part.follow in
      let third = apart_optional m (end_of z.token) second.part.follow.2 in (
        kept_start p (end_of y.token) h.2.2,
        kept_optional q first.end first.part.follow,
        kept_optional m (end_of z.token) second.part.follow.2,
        kept_statement u (end_of close.token) third.part.follow.2,
      )
  kept_statement (g.case_label {x = x} {y = y} e p f q) c h =
      let value = apart p (end_of x.token) h.2 in
      (kept p (end_of x.token) h.2, kept_statement q (end_of y.token) value.follow.2)
  kept_statement (g.default {y = y} e f p) c h = kept_statement p (end_of y.token) h.2.2
  kept_statement (g.label {y = y} e f p) c h = kept_statement p (end_of y.token) h.2.2
  kept_statement (g.goto e f v) c h = tt
  kept_statement (g.continue e f) c h = tt
  kept_statement (g.break e f) c h = tt
  kept_statement (g.return {x = x} e p f) c h = kept_optional p (end_of x.token) h.2

  kept_compound : {d : Dialect} {span : Span} {ts rest : List Lexeme} {b : BlockItems} → ReadsCompound d ts b span rest → (c : ℕ) → FollowFrom c (tk ts) → StartsAfter span.start b × EnclosesInBlock b
  kept_compound (g.block {x = x} e p f) c h = (block_starts x.token.start (end_of x.token) p (own x h.1) h.2, kept_block p (end_of x.token) h.2)

  kept_block : {d : Dialect} {ts rest : List Lexeme} {b : BlockItems} → ReadsBlockItems d ts b rest → (c : ℕ) → FollowFrom c (tk ts) → EnclosesInBlock b
  kept_block (g.block_end e) c h = tt
  kept_block (g.local e p q) c h = let one = apart_declaration p c h in (kept_declaration p c h, kept_block q one.end one.part.follow)
  kept_block (g.statement e f p q) c h = let one = apart_statement p c h in (kept_statement p c h, kept_block q one.end one.part.follow)

-- ---- items

same_byte : (n : ℕ) → n ≤ n
same_byte n = omega arith

-- A function's name stands after its specifiers, and its body after that.
name_ends : (first words stars start length end : ℕ) → first ≤ words → words ≤ stars → stars ≤ start → 0 < length → start + length ≤ end → first < end
name_ends first words stars start length end a b c d e = omega (arith, a, b, c, d, e)

kept_item : {d : Dialect} {ts rest : List Lexeme} {one : Item} → ReadsItem d ts one rest → (c : ℕ) → FollowFrom c (tk ts) → EnclosesInItem one
kept_item (i.declared p) c h = kept_declaration p c h
kept_item (i.defined {x = x} {z = z} p e q f v u) c h =
    let first = x.token.start in
    let words = apart_specifiers p first (same_byte first, h.1, h.2) in
    let stars = stars_apart q words.end words.part.follow in
    let given = apart_parameters v (end_of z.token) stars.part.follow.2 in
    let past = name_ends first words.end stars.end z.token.start (length z.token.text) given.end words.part.forward stars.part.forward stars.part.follow.0 stars.part.follow.1 given.part.forward in
    (body_starts first given.end u past given.part.follow, kept_specifiers p c h, kept_parameters v (end_of z.token) stars.part.follow.2, (kept_compound u given.end given.part.follow).1)

kept_unit : {d : Dialect} {ts : List Lexeme} {unit : List Item} → ReadsUnit d ts unit → (c : ℕ) → FollowFrom c (tk ts) → EnclosesInUnit unit
kept_unit i.no_items c h = tt
kept_unit (i.item p q) c h = let one = apart_item p c h in (kept_item p c h, kept_unit q one.end one.part.follow)

pub text_kept : (d : Dialect) (tokens : List Tok) (unit : List Item) → FollowFrom 0 tokens → IsTree d tokens unit → EnclosesInUnit unit
text_kept d tokens unit h p = kept_unit p 0 (subst (FollowFrom 0) (sym (same_tokens tokens)) h)
