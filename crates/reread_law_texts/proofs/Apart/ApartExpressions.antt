-- The places in an expression and in a declarator follow each other: one case for each alternative of
-- a production.
use Rattle.std.proofs.Common.{ℕ, Bool, List, ◌∷◌, refl}
use Rattle.mc_span.specs.declared.span.Span.{Span}
use Rattle.mc_lex.specs.declared.token.Dialect.{Dialect}
use Rattle.mc_tree.specs.Tree.{Expression, Expressions, TypeName, Specifiers, StructMember, Members, Enumerator, Enumerators, Declarator, Declarators, ArrayLengths, Parameters, Parameter, ParameterList, span_of}
use Rattle.mc_tree.specs.Tree as t
use Rattle.mc_grammar.specs.Words.{Lexeme}
use Rattle.mc_grammar.specs.Places.{at, name_at, to, end_of_expressions}
use Rattle.mc_grammar.specs.Nonterminal.{Nonterminal, Level, operand}
use Rattle.mc_grammar.specs.Nonterminal as n
use Rattle.mc_grammar.specs.Expressions.{Reads, ReadsExpressions, ReadsTypeName, ReadsStars, ReadsSpecifiers, ReadsMembers, ReadsMember, ReadsDeclarators, ReadsEnumerators, ReadsEnumerator, ReadsDeclarator, ReadsArrayLengths, ReadsParameters, ReadsParameterList, ReadsParameter}
use Rattle.mc_grammar.specs.Expressions as r
use Rattle.reread_law_texts.specs.alike.Moves.{FollowFrom, end_of}
use Rattle.reread_law_texts.specs.apart.Places.{spans_in_expressions, spans_in_type_name, spans_in_specifiers, spans_in_members, spans_in_member, spans_in_declarators, spans_in_enumerators, spans_in_enumerator, spans_in_declarator, spans_in_lengths, spans_in_parameters, spans_in_parameter_list, spans_in_parameter}
use Rattle.reread_law_texts.proofs.Apart.Ascending.{Part, Goes, nothing, token, join, some, chain, one, Node, as_part, begun, past, grown, own}
use Rattle.reread_law_texts.proofs.Tokens.{tk}

-- The rest of a repetition goes on from an expression that stands there.
abbrev Apart : Nonterminal → List Lexeme → Expression → List Lexeme → Type 0
Apart (n.operations k a) ts b rest = (c : ℕ) → Node c (tk ts) a → Node c (tk rest) b
Apart (n.suffixes a) ts b rest = (c : ℕ) → Node c (tk ts) a → Node c (tk rest) b
Apart k ts a rest = (c : ℕ) → FollowFrom c (tk ts) → Node c (tk rest) a

pub operand_apart : (k : Level) (ts : List Lexeme) (a : Expression) (rest : List Lexeme) → Apart (operand k) ts a rest → (c : ℕ) → FollowFrom c (tk ts) → Node c (tk rest) a
operand_apart n.product ts a rest h = h
operand_apart n.sum ts a rest h = h
operand_apart n.shift ts a rest h = h
operand_apart n.relation ts a rest h = h
operand_apart n.equality ts a rest h = h
operand_apart n.bit_and ts a rest h = h
operand_apart n.bit_xor ts a rest h = h
operand_apart n.bit_or ts a rest h = h
operand_apart n.land ts a rest h = h
operand_apart n.lor ts a rest h = h

pub stars_apart : {before last : Span} {ts rest : List Lexeme} {k : ℕ} (p : ReadsStars before ts k last rest) (c : ℕ) → FollowFrom c (tk ts) → Goes c (tk rest) (λ ps. ps)
stars_apart (r.star {x = x} {ts = ts} e p) c h = chain (one c x.token (tk ts) h) (λ e h. stars_apart p e h)
stars_apart (r.no_star {ts = ts} e) c h = some (nothing c (tk ts) h)

mutual
  pub apart : {d : Dialect} {k : Nonterminal} {ts rest : List Lexeme} {a : Expression} → Reads d k ts a rest → Apart k ts a rest
  apart (r.comma_one p e) = λ c h. apart p c h
  apart (r.comma {x = x} {mid = mid} {a = a} {all = all} p e q) =
      λ c h.
      let first = apart p c h in
      grown a (t.Comma (t.expressions a all) (to (span_of a) (end_of_expressions (span_of a) all))) first refl
      (past a _ x.token (tk mid) first.follow (λ h. apart_expressions q (span_of a) (end_of x.token) h)) (λ ps. refl)
  apart (r.assign_cond p e) = λ c h. apart p c h
  apart (r.assign {x = x} {mid = mid} {operator = operator} {a = a} {b = b} p e q) =
      λ c h.
      let first = apart p c h in
      grown a (t.Assignment operator a b (to (span_of a) (span_of b))) first refl
      (past a _ x.token (tk mid) first.follow (λ h. as_part b (apart q (end_of x.token) h))) (λ ps. refl)
  apart (r.cond_level p e) = λ c h. apart p c h
  apart (r.cond {x = x} {y = y} {mid = mid} {other = other} {a = a} {b = b} {c = last} p e q f v) =
      λ c h.
      let first = apart p c h in
      grown a (t.Conditional a b last (to (span_of a) (span_of last))) first refl
      (past a _ x.token (tk mid) first.follow
      (λ h. join (as_part b (apart q (end_of x.token) h)) (λ h. join (token (span_of b).end y.token (tk other) h) (λ h. as_part last (apart v (end_of y.token) h)))))
      (λ ps. refl)
  apart (r.level {k = k} {ts = ts} {mid = mid} {a = a} p q) = λ c h. apart q c (operand_apart k ts a mid (apart p) c h)
  apart (r.operation {k = k} {x = x} {ts = ts} {mid = mid} {operator = operator} {a = a} {b = b} e p q) =
      λ c first.
      apart q c (grown a (t.Binary operator a b (to (span_of a) (span_of b))) first refl
      (past a _ x.token (tk ts) first.follow (λ h. as_part b (operand_apart k ts b mid (apart p) (end_of x.token) h))) (λ ps. refl))
  apart (r.operations_end e) = λ c first. first
  apart (r.cast_unary e p) = λ c h. apart p c h
  apart (r.cast {x = x} {y = y} {ts = ts} {mid = mid} {type = type} {a = a} e f p v q) =
      λ c h.
      begun (t.Cast type a (to (at x) (span_of a))) c (end_of x.token) h.0 (own x h.1)
      (let part = apart_type_name p (end_of x.token) h.2 in
      join part.part (λ h. join (token part.end y.token (tk mid) h) (λ h. as_part a (apart q (end_of y.token) h))))
  apart (r.unary_postfix e p) = λ c h. apart p c h
  apart (r.prefix_step {x = x} {operator = operator} {a = a} e p) =
      λ c h. begun (t.PrefixStep operator a (to (at x) (span_of a))) c (end_of x.token) h.0 (own x h.1) (as_part a (apart p (end_of x.token) h.2))
  apart (r.unary {x = x} {operator = operator} {a = a} e p) =
      λ c h. begun (t.Unary operator a (to (at x) (span_of a))) c (end_of x.token) h.0 (own x h.1) (as_part a (apart p (end_of x.token) h.2))
  apart (r.postfix p q) = λ c h. apart q c (apart p c h)
  apart (r.index {x = x} {y = y} {ts = ts} {mid = mid} {a = a} {b = b} e p f q) =
      λ c first.
      apart q c (grown a (t.Index a b (to (span_of a) (at y))) first refl
      (past a _ x.token (tk ts) first.follow (λ h. join (as_part b (apart p (end_of x.token) h)) (λ h. token (span_of b).end y.token (tk mid) h))) (λ ps. refl))
  apart (r.member {x = x} {y = y} {ts = ts} {a = a} e f q) =
      λ c first.
      apart q c (grown a (t.Member a (name_at y) (to (span_of a) (at y))) first refl
      (past a _ x.token (y.token ∷ tk ts) first.follow (λ h. token (end_of x.token) y.token (tk ts) h)) (λ ps. refl))
  apart (r.postfix_step {x = x} {ts = ts} {operator = operator} {a = a} e q) =
      λ c first.
      apart q c (grown a (t.PostfixStep operator a (to (span_of a) (at x))) first refl
      (past a _ x.token (tk ts) first.follow (λ h. nothing (end_of x.token) (tk ts) h)) (λ ps. refl))
  apart (r.suffixes_end e) = λ c first. first
  apart (r.named {x = x} {ts = ts} e f) = λ c h. begun (t.Named (name_at x)) c (end_of x.token) h.0 (own x h.1) (nothing (end_of x.token) (tk ts) h.2)
  apart (r.constant {x = x} {ts = ts} {value = value} {decimal = decimal} {unsigned = unsigned} {longs = longs} e) =
      λ c h. begun (t.Constant value decimal unsigned longs (at x)) c (end_of x.token) h.0 (own x h.1) (nothing (end_of x.token) (tk ts) h.2)
  apart (r.character {x = x} {ts = ts} {value = value} e) = λ c h. begun (t.Character value (at x)) c (end_of x.token) h.0 (own x h.1) (nothing (end_of x.token) (tk ts) h.2)
  apart (r.parenthesized {x = x} {y = y} {rest = rest} {a = a} e f p v) =
      λ c h.
      begun (t.Parenthesized a (to (at x) (at y))) c (end_of x.token) h.0 (own x h.1)
      (join (as_part a (apart p (end_of x.token) h.2)) (λ h. token (span_of a).end y.token (tk rest) h))
  apart (r.call_empty {x = x} {y = y} {z = z} {rest = rest} e f v) =
      λ c h.
      begun (t.Call (name_at x) t.no_expressions (to (at x) (at z))) c (end_of x.token) h.0 (own x h.1)
      (join (token (end_of x.token) y.token (z.token ∷ tk rest) h.2) (λ h. token (end_of y.token) z.token (tk rest) h))
  apart (r.call {x = x} {y = y} {z = z} {ts = ts} {rest = rest} {all = all} e f v p u) =
      λ c h.
      begun (t.Call (name_at x) all (to (at x) (at z))) c (end_of x.token) h.0 (own x h.1)
      (join (token (end_of x.token) y.token (tk ts) h.2) (λ h. join (apart_expressions p (at y) (end_of y.token) h) (λ h. token (end_of_expressions (at y) all).end z.token (tk rest) h)))

  apart_expressions : {d : Dialect} {ts rest : List Lexeme} {all : Expressions} (p : ReadsExpressions d ts all rest) (place : Span) (c : ℕ) → FollowFrom c (tk ts)
      → Part c (end_of_expressions place all).end (tk rest) (spans_in_expressions all)
  apart_expressions (r.last_expression {rest = rest} {a = a} p e) place c h = join (as_part a (apart p c h)) (λ h. nothing (span_of a).end (tk rest) h)
  apart_expressions (r.more_expressions {x = x} {mid = mid} {a = a} p e q) place c h =
      join (as_part a (apart p c h)) (λ h. join (token (span_of a).end x.token (tk mid) h) (λ h. apart_expressions q (span_of a) (end_of x.token) h))

  pub apart_type_name : {d : Dialect} {ts rest : List Lexeme} {type : TypeName} (p : ReadsTypeName d ts type rest) (c : ℕ) → FollowFrom c (tk ts) → Goes c (tk rest) (spans_in_type_name type)
  apart_type_name (r.type_name p e q) c h = chain (apart_specifiers p c h) (λ e h. stars_apart q e h)

  pub apart_specifiers : {d : Dialect} {has : Bool} {ts rest : List Lexeme} {all : Specifiers} (p : ReadsSpecifiers d has ts all rest) (c : ℕ) → FollowFrom c (tk ts) → Goes c (tk rest) (spans_in_specifiers all)
  apart_specifiers (r.specifiers_end {ts = ts} e) c h = some (nothing c (tk ts) h)
  apart_specifiers (r.word {x = x} {ts = ts} e p) c h = chain (one c x.token (tk ts) h) (λ e h. apart_specifiers p e h)
  apart_specifiers (r.typedef_name {x = x} {ts = ts} e p) c h = chain (one c x.token (tk ts) h) (λ e h. apart_specifiers p e h)
  apart_specifiers (r.structure_tag {x = x} {y = y} {ts = ts} e f v p) c h =
      chain (one c x.token (y.token ∷ tk ts) h) (λ e h. chain (one e y.token (tk ts) h) (λ e h. apart_specifiers p e h))
  apart_specifiers (r.structure {x = x} {y = y} {z = z} {v = last} {ts = ts} {mid = mid} e f k p v q) c h =
      chain (one c x.token (y.token ∷ z.token ∷ tk ts) h) (λ e h. chain (one e y.token (z.token ∷ tk ts) h) (λ e h. chain (one e z.token (tk ts) h)
      (λ e h. chain (apart_members p e h) (λ e h. chain (one e last.token (tk mid) h) (λ e h. apart_specifiers q e h)))))
  apart_specifiers (r.untagged_structure {x = x} {z = z} {v = last} {ts = ts} {mid = mid} e k p v q) c h =
      chain (one c x.token (z.token ∷ tk ts) h) (λ e h. chain (one e z.token (tk ts) h)
      (λ e h. chain (apart_members p e h) (λ e h. chain (one e last.token (tk mid) h) (λ e h. apart_specifiers q e h))))
  apart_specifiers (r.enumeration_tag {x = x} {y = y} {ts = ts} e f v p) c h =
      chain (one c x.token (y.token ∷ tk ts) h) (λ e h. chain (one e y.token (tk ts) h) (λ e h. apart_specifiers p e h))
  apart_specifiers (r.enumeration {x = x} {y = y} {z = z} {v = last} {ts = ts} {mid = mid} e f k p v q) c h =
      chain (one c x.token (y.token ∷ z.token ∷ tk ts) h) (λ e h. chain (one e y.token (z.token ∷ tk ts) h) (λ e h. chain (one e z.token (tk ts) h)
      (λ e h. chain (apart_enumerators p e h) (λ e h. chain (one e last.token (tk mid) h) (λ e h. apart_specifiers q e h)))))
  apart_specifiers (r.untagged_enumeration {x = x} {z = z} {v = last} {ts = ts} {mid = mid} e k p v q) c h =
      chain (one c x.token (z.token ∷ tk ts) h) (λ e h. chain (one e z.token (tk ts) h)
      (λ e h. chain (apart_enumerators p e h) (λ e h. chain (one e last.token (tk mid) h) (λ e h. apart_specifiers q e h))))

  pub apart_members : {d : Dialect} {ts rest : List Lexeme} {all : Members} (p : ReadsMembers d ts all rest) (c : ℕ) → FollowFrom c (tk ts) → Goes c (tk rest) (spans_in_members all)
  apart_members (r.last_member {rest = rest} p e) c h = chain (apart_member p c h) (λ e h. some (nothing e (tk rest) h))
  apart_members (r.more_members p e q) c h = chain (apart_member p c h) (λ e h. apart_members q e h)

  pub apart_member : {d : Dialect} {ts rest : List Lexeme} {a : StructMember} (p : ReadsMember d ts a rest) (c : ℕ) → FollowFrom c (tk ts) → Goes c (tk rest) (spans_in_member a)
  apart_member (r.struct_member {y = y} {rest = rest} p e q f) c h = chain (apart_specifiers p c h) (λ e h. chain (apart_declarators q e h) (λ e h. one e y.token (tk rest) h))

  apart_declarators : {d : Dialect} {ts rest : List Lexeme} {all : Declarators} (p : ReadsDeclarators d ts all rest) (c : ℕ) → FollowFrom c (tk ts) → Goes c (tk rest) (spans_in_declarators all)
  apart_declarators (r.last_declarator {rest = rest} p e) c h = chain (apart_declarator p c h) (λ e h. some (nothing e (tk rest) h))
  apart_declarators (r.more_declarators {x = x} {mid = mid} p e q) c h = chain (apart_declarator p c h) (λ e h. chain (one e x.token (tk mid) h) (λ e h. apart_declarators q e h))

  pub apart_enumerators : {d : Dialect} {ts rest : List Lexeme} {all : Enumerators} (p : ReadsEnumerators d ts all rest) (c : ℕ) → FollowFrom c (tk ts) → Goes c (tk rest) (spans_in_enumerators all)
  apart_enumerators (r.last_enumerator {rest = rest} p e) c h = chain (apart_enumerator p c h) (λ e h. some (nothing e (tk rest) h))
  apart_enumerators (r.last_enumerator_comma {x = x} {rest = rest} p e f) c h = chain (apart_enumerator p c h) (λ e h. one e x.token (tk rest) h)
  apart_enumerators (r.more_enumerators {x = x} {mid = mid} p e f q) c h = chain (apart_enumerator p c h) (λ e h. chain (one e x.token (tk mid) h) (λ e h. apart_enumerators q e h))

  pub apart_enumerator : {d : Dialect} {ts rest : List Lexeme} {a : Enumerator} (p : ReadsEnumerator d ts a rest) (c : ℕ) → FollowFrom c (tk ts) → Goes c (tk rest) (spans_in_enumerator a)
  apart_enumerator (r.enumerator {x = x} {rest = rest} e f) c h = one c x.token (tk rest) h
  apart_enumerator (r.valued_enumerator {x = x} {y = y} {ts = ts} {a = a} e f p) c h =
      chain (one c x.token (y.token ∷ tk ts) h) (λ e h. chain (one e y.token (tk ts) h) (λ e h. some (as_part a (apart p e h))))

  pub apart_declarator : {d : Dialect} {ts rest : List Lexeme} {a : Declarator} (p : ReadsDeclarator d ts a rest) (c : ℕ) → FollowFrom c (tk ts) → Goes c (tk rest) (spans_in_declarator a)
  apart_declarator (r.object {y = y} {mid = mid} p e f q) c h = chain (stars_apart p c h) (λ e h. chain (one e y.token (tk mid) h) (λ e h. apart_lengths q e h))
  apart_declarator (r.function {y = y} {mid = mid} p e q) c h = chain (stars_apart p c h) (λ e h. chain (one e y.token (tk mid) h) (λ e h. apart_parameters q e h))

  apart_lengths : {d : Dialect} {before last : Span} {ts rest : List Lexeme} {all : ArrayLengths} (p : ReadsArrayLengths d before ts all last rest) (c : ℕ) → FollowFrom c (tk ts) → Goes c (tk rest) (spans_in_lengths all)
  apart_lengths (r.lengths_end {ts = ts} e) c h = some (nothing c (tk ts) h)
  apart_lengths (r.absent_length {x = x} {y = y} {ts = ts} e f p) c h = chain (one c x.token (y.token ∷ tk ts) h) (λ e h. chain (one e y.token (tk ts) h) (λ e h. apart_lengths p e h))
  apart_lengths (r.given_length {x = x} {y = y} {ts = ts} {mid = mid} {a = a} e f p v q) c h =
      chain (one c x.token (tk ts) h) (λ e h. chain (some (as_part a (apart p e h))) (λ e h. chain (one e y.token (tk mid) h) (λ e h. apart_lengths q e h)))

  pub apart_parameters : {d : Dialect} {ts rest : List Lexeme} {all : Parameters} (p : ReadsParameters d ts all rest) (c : ℕ) → FollowFrom c (tk ts) → Goes c (tk rest) (spans_in_parameters all)
  apart_parameters (r.empty_parameters {x = x} {y = y} {rest = rest} e f) c h = chain (one c x.token (y.token ∷ tk rest) h) (λ e h. one e y.token (tk rest) h)
  apart_parameters (r.void_parameters {x = x} {y = y} {z = z} {rest = rest} e f v) c h =
      chain (one c x.token (y.token ∷ z.token ∷ tk rest) h) (λ e h. chain (one e y.token (z.token ∷ tk rest) h) (λ e h. one e z.token (tk rest) h))
  apart_parameters (r.listed_parameters {x = x} {y = y} {ts = ts} {rest = rest} e f k p v) c h =
      chain (one c x.token (tk ts) h) (λ e h. chain (apart_parameter_list p e h) (λ e h. one e y.token (tk rest) h))

  apart_parameter_list : {d : Dialect} {ts rest : List Lexeme} {all : ParameterList} (p : ReadsParameterList d ts all rest) (c : ℕ) → FollowFrom c (tk ts) → Goes c (tk rest) (spans_in_parameter_list all)
  apart_parameter_list (r.last_parameter {rest = rest} p e) c h = chain (apart_parameter p c h) (λ e h. some (nothing e (tk rest) h))
  apart_parameter_list (r.more_parameters {x = x} {mid = mid} p e q) c h = chain (apart_parameter p c h) (λ e h. chain (one e x.token (tk mid) h) (λ e h. apart_parameter_list q e h))

  pub apart_parameter : {d : Dialect} {ts rest : List Lexeme} {a : Parameter} (p : ReadsParameter d ts a rest) (c : ℕ) → FollowFrom c (tk ts) → Goes c (tk rest) (spans_in_parameter a)
  apart_parameter (r.parameter {y = y} {mid = mid} p e q f v) c h =
      chain (apart_specifiers p c h) (λ e h. chain (stars_apart q e h) (λ e h. chain (one e y.token (tk mid) h) (λ e h. apart_lengths v e h)))
  apart_parameter (r.unnamed_parameter p e q f v) c h = chain (apart_specifiers p c h) (λ e h. chain (stars_apart q e h) (λ e h. apart_lengths v e h))
