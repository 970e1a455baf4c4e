-- The brackets of what is read are balanced: one case for each alternative of a production.
use Rattle.std.proofs.Common.{Bool, ℕ, List, refl, codes}
use Rattle.mc_span.specs.declared.span.Span.{Span}
use Rattle.mc_lex.specs.declared.token.Dialect.{Dialect}
use Rattle.mc_tree.specs.Tree.{Expression, Expressions, TypeName, Specifiers, StructMember, Members, Enumerator, Enumerators, Declarator, Declarators, ArrayLengths, Parameters, Parameter, ParameterList}
use Rattle.mc_grammar.specs.Words.{Lexeme}
use Rattle.mc_grammar.specs.Nonterminal.{Nonterminal}
use Rattle.mc_grammar.specs.Expressions.{Reads, ReadsExpressions, ReadsTypeName, ReadsStars, ReadsSpecifiers, ReadsMembers, ReadsMember, ReadsDeclarators, ReadsEnumerators, ReadsEnumerator, ReadsDeclarator, ReadsArrayLengths, ReadsParameters, ReadsParameterList, ReadsParameter}
use Rattle.mc_grammar.specs.Expressions as r
use Rattle.reread_law_rows.proofs.Fitting.Words.{AreClear}
use Rattle.reread_law_rows.proofs.Fitting.Sections.{Some_, no_token, plain, chain, round, square, curly, semicolon_free, comma_mild, question_mild, colon_free, member_mild, star_mild, equals_mild, operator_mild, assignment_mild, step_mild, unary_mild, keyword_free, identifier_free, name_free, type_free, word_free}
use Rattle.reread_law_texts.proofs.Tokens.{tk}

pub stars : {before last : Span} {ts rest : List Lexeme} {k : ℕ} → ReadsStars before ts k last rest → AreClear (tk ts) → Some_ (tk ts) (tk rest)
stars (r.star {x = x} e p) h = chain (plain x (star_mild x e).bracket h) (λ h. stars p h)
stars (r.no_star e) h = no_token h

mutual
  pub expression : {d : Dialect} {k : Nonterminal} {ts rest : List Lexeme} {a : Expression} → Reads d k ts a rest → AreClear (tk ts) → Some_ (tk ts) (tk rest)
  expression (r.comma_one p e) h = expression p h
  expression (r.comma {x = x} p e q) h = chain (expression p h) (λ h. chain (plain x (comma_mild x e).bracket h) (λ h. expressions q h))
  expression (r.assign_cond p e) h = expression p h
  expression (r.assign {x = x} p e q) h = chain (expression p h) (λ h. chain (plain x (assignment_mild x e).bracket h) (λ h. expression q h))
  expression (r.cond_level p e) h = expression p h
  expression (r.cond {x = x} {y = y} p e q f v) h =
      chain (expression p h) (λ h. chain (plain x (question_mild x e).bracket h) (λ h. chain (expression q h) (λ h. chain (plain y (colon_free y f) h) (λ h. expression v h))))
  expression (r.level p q) h = chain (expression p h) (λ h. expression q h)
  expression (r.operation {k = k} {x = x} e p q) h = chain (plain x (operator_mild k x e).bracket h) (λ h. chain (expression p h) (λ h. expression q h))
  expression (r.operations_end e) h = no_token h
  expression (r.cast_unary e p) h = expression p h
  expression (r.cast {x = x} {y = y} e f p v q) h = chain (round x y e v h (λ h. type_name p h)) (λ h. expression q h)
  expression (r.unary_postfix e p) h = expression p h
  expression (r.prefix_step {x = x} e p) h = chain (plain x (step_mild x e).bracket h) (λ h. expression p h)
  expression (r.unary {x = x} e p) h = chain (plain x (unary_mild x e).bracket h) (λ h. expression p h)
  expression (r.postfix p q) h = chain (expression p h) (λ h. expression q h)
  expression (r.index {x = x} {y = y} e p f q) h = chain (square x y e f h (λ h. expression p h)) (λ h. expression q h)
  expression (r.member {x = x} {y = y} e f q) h = chain (plain x (member_mild x e).bracket h) (λ h. chain (plain y (name_free y f h.0) h) (λ h. expression q h))
  expression (r.postfix_step {x = x} e q) h = chain (plain x (step_mild x e).bracket h) (λ h. expression q h)
  expression (r.suffixes_end e) h = no_token h
  expression (r.named {x = x} e f) h = plain x (name_free x e h.0) h
  expression (r.constant {x = x} e) h = plain x (h.0.bracket (rw e refl)) h
  expression (r.character {x = x} e) h = plain x (h.0.bracket (rw e refl)) h
  expression (r.parenthesized {x = x} {y = y} e f p v) h = round x y e v h (λ h. expression p h)
  expression (r.call_empty {x = x} {y = y} {z = z} e f v) h = chain (plain x (name_free x e h.0) h) (λ h. round y z f v h (λ h. no_token h))
  expression (r.call {x = x} {y = y} {z = z} e f v p u) h = chain (plain x (name_free x e h.0) h) (λ h. round y z f u h (λ h. expressions p h))

  expressions : {d : Dialect} {ts rest : List Lexeme} {all : Expressions} → ReadsExpressions d ts all rest → AreClear (tk ts) → Some_ (tk ts) (tk rest)
  expressions (r.last_expression p e) h = expression p h
  expressions (r.more_expressions {x = x} p e q) h = chain (expression p h) (λ h. chain (plain x (comma_mild x e).bracket h) (λ h. expressions q h))

  pub type_name : {d : Dialect} {ts rest : List Lexeme} {type : TypeName} → ReadsTypeName d ts type rest → AreClear (tk ts) → Some_ (tk ts) (tk rest)
  type_name (r.type_name p e q) h = chain (specifiers p h) (λ h. stars q h)

  pub specifiers : {d : Dialect} {has : Bool} {ts rest : List Lexeme} {all : Specifiers} → ReadsSpecifiers d has ts all rest → AreClear (tk ts) → Some_ (tk ts) (tk rest)
  specifiers (r.specifiers_end e) h = no_token h
  specifiers (r.word {x = x} e p) h = chain (plain x (word_free e h.0) h) (λ h. specifiers p h)
  specifiers (r.typedef_name {x = x} e p) h = chain (plain x (type_free x e h.0) h) (λ h. specifiers p h)
  specifiers (r.structure_tag {x = x} {y = y} e f v p) h = chain (plain x (keyword_free (codes "struct") x e h.0) h) (λ h. chain (plain y (identifier_free y f h.0) h) (λ h. specifiers p h))
  specifiers (r.structure {x = x} {y = y} {z = z} {v = last} e f k p v q) h =
      chain (plain x (keyword_free (codes "struct") x e h.0) h) (λ h. chain (plain y (identifier_free y f h.0) h) (λ h. chain (curly z last k v h (λ h. members p h)) (λ h. specifiers q h)))
  specifiers (r.untagged_structure {x = x} {z = z} {v = last} e k p v q) h =
      chain (plain x (keyword_free (codes "struct") x e h.0) h) (λ h. chain (curly z last k v h (λ h. members p h)) (λ h. specifiers q h))
  specifiers (r.enumeration_tag {x = x} {y = y} e f v p) h = chain (plain x (keyword_free (codes "enum") x e h.0) h) (λ h. chain (plain y (identifier_free y f h.0) h) (λ h. specifiers p h))
  specifiers (r.enumeration {x = x} {y = y} {z = z} {v = last} e f k p v q) h =
      chain (plain x (keyword_free (codes "enum") x e h.0) h) (λ h. chain (plain y (identifier_free y f h.0) h) (λ h. chain (curly z last k v h (λ h. enumerators p h)) (λ h. specifiers q h)))
  specifiers (r.untagged_enumeration {x = x} {z = z} {v = last} e k p v q) h =
      chain (plain x (keyword_free (codes "enum") x e h.0) h) (λ h. chain (curly z last k v h (λ h. enumerators p h)) (λ h. specifiers q h))

  members : {d : Dialect} {ts rest : List Lexeme} {all : Members} → ReadsMembers d ts all rest → AreClear (tk ts) → Some_ (tk ts) (tk rest)
  members (r.last_member p e) h = member p h
  members (r.more_members p e q) h = chain (member p h) (λ h. members q h)

  member : {d : Dialect} {ts rest : List Lexeme} {a : StructMember} → ReadsMember d ts a rest → AreClear (tk ts) → Some_ (tk ts) (tk rest)
  member (r.struct_member {y = y} p e q f) h = chain (specifiers p h) (λ h. chain (declarators q h) (λ h. plain y (semicolon_free y f) h))

  declarators : {d : Dialect} {ts rest : List Lexeme} {all : Declarators} → ReadsDeclarators d ts all rest → AreClear (tk ts) → Some_ (tk ts) (tk rest)
  declarators (r.last_declarator p e) h = declarator p h
  declarators (r.more_declarators {x = x} p e q) h = chain (declarator p h) (λ h. chain (plain x (comma_mild x e).bracket h) (λ h. declarators q h))

  enumerators : {d : Dialect} {ts rest : List Lexeme} {all : Enumerators} → ReadsEnumerators d ts all rest → AreClear (tk ts) → Some_ (tk ts) (tk rest)
  enumerators (r.last_enumerator p e) h = enumerator p h
  enumerators (r.last_enumerator_comma {x = x} p e f) h = chain (enumerator p h) (λ h. plain x (comma_mild x e).bracket h)
  enumerators (r.more_enumerators {x = x} p e f q) h = chain (enumerator p h) (λ h. chain (plain x (comma_mild x e).bracket h) (λ h. enumerators q h))

  enumerator : {d : Dialect} {ts rest : List Lexeme} {a : Enumerator} → ReadsEnumerator d ts a rest → AreClear (tk ts) → Some_ (tk ts) (tk rest)
  enumerator (r.enumerator {x = x} e f) h = plain x (name_free x e h.0) h
  enumerator (r.valued_enumerator {x = x} {y = y} e f p) h = chain (plain x (name_free x e h.0) h) (λ h. chain (plain y (equals_mild y f).bracket h) (λ h. expression p h))

  pub declarator : {d : Dialect} {ts rest : List Lexeme} {a : Declarator} → ReadsDeclarator d ts a rest → AreClear (tk ts) → Some_ (tk ts) (tk rest)
  declarator (r.object {y = y} p e f q) h = chain (stars p h) (λ h. chain (plain y (name_free y e h.0) h) (λ h. lengths q h))
  declarator (r.function {y = y} p e q) h = chain (stars p h) (λ h. chain (plain y (name_free y e h.0) h) (λ h. parameters q h))

  lengths : {d : Dialect} {before last : Span} {ts rest : List Lexeme} {all : ArrayLengths} → ReadsArrayLengths d before ts all last rest → AreClear (tk ts) → Some_ (tk ts) (tk rest)
  lengths (r.lengths_end e) h = no_token h
  lengths (r.absent_length {x = x} {y = y} e f p) h = chain (square x y e f h (λ h. no_token h)) (λ h. lengths p h)
  lengths (r.given_length {x = x} {y = y} e f p v q) h = chain (square x y e v h (λ h. expression p h)) (λ h. lengths q h)

  pub parameters : {d : Dialect} {ts rest : List Lexeme} {all : Parameters} → ReadsParameters d ts all rest → AreClear (tk ts) → Some_ (tk ts) (tk rest)
  parameters (r.empty_parameters {x = x} {y = y} e f) h = round x y e f h (λ h. no_token h)
  parameters (r.void_parameters {x = x} {y = y} {z = z} e f v) h = round x z e v h (λ h. plain y (keyword_free (codes "void") y f h.0) h)
  parameters (r.listed_parameters {x = x} {y = y} e f k p v) h = round x y e v h (λ h. parameter_list p h)

  parameter_list : {d : Dialect} {ts rest : List Lexeme} {all : ParameterList} → ReadsParameterList d ts all rest → AreClear (tk ts) → Some_ (tk ts) (tk rest)
  parameter_list (r.last_parameter p e) h = parameter p h
  parameter_list (r.more_parameters {x = x} p e q) h = chain (parameter p h) (λ h. chain (plain x (comma_mild x e).bracket h) (λ h. parameter_list q h))

  parameter : {d : Dialect} {ts rest : List Lexeme} {a : Parameter} → ReadsParameter d ts a rest → AreClear (tk ts) → Some_ (tk ts) (tk rest)
  parameter (r.parameter {y = y} p e q f v) h = chain (specifiers p h) (λ h. chain (stars q h) (λ h. chain (plain y (name_free y f h.0) h) (λ h. lengths v h)))
  parameter (r.unnamed_parameter p e q f v) h = chain (specifiers p h) (λ h. chain (stars q h) (λ h. lengths v h))
