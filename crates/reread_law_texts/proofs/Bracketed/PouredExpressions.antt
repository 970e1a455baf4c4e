-- The brackets of an expression and of a declarator, put by their places: one case for each
-- alternative of a production.
use Rattle.std.proofs.Common.{ℕ, Bool, List, ◌∷◌, refl}
use Rattle.mc_span.specs.declared.span.Span.{Span}
use Rattle.mc_lex.specs.declared.token.Dialect.{Dialect}
use Rattle.mc_tree.specs.Tree.{Expression, Expressions, TypeName, Specifiers, StructMember, Members, Enumerator, Enumerators, Declarator, Declarators, ArrayLengths, Parameters, Parameter, ParameterList, span_of}
use Rattle.mc_grammar.specs.Words.{Lexeme}
use Rattle.mc_grammar.specs.Places.{at, to, end_of_expressions}
use Rattle.mc_grammar.specs.Nonterminal.{Nonterminal, Level, operand}
use Rattle.mc_grammar.specs.Nonterminal as n
use Rattle.mc_grammar.specs.Expressions.{Reads, ReadsExpressions, ReadsTypeName, ReadsStars, ReadsSpecifiers, ReadsMembers, ReadsMember, ReadsDeclarators, ReadsEnumerators, ReadsEnumerator, ReadsDeclarator, ReadsArrayLengths, ReadsParameters, ReadsParameterList, ReadsParameter}
use Rattle.mc_grammar.specs.Expressions as r
use Rattle.mc_grammar.proofs.Lengths.{operand_takes}
use Rattle.mc_grammar.proofs.Extent.{stands}
use Rattle.reread_law_texts.specs.weave.Brackets.{Brackets, copy, in_parentheses}
use Rattle.reread_law_texts.specs.weave.Weaving.{Steps, none, in_expression, in_expressions, in_type_name, in_stars, in_specifiers, in_members, in_member, in_declarators, in_enumerators, in_enumerator, in_declarator, in_lengths, in_parameters, in_parameter_list, in_parameter}
use Rattle.reread_law_texts.specs.alike.Moves.{FollowFrom, end_of}
use Rattle.reread_law_texts.specs.brackets.Signs.{signs, signs_in_expressions, signs_in_type_name, signs_in_specifiers, signs_in_members, signs_in_member, signs_in_declarators, signs_in_enumerators, signs_in_enumerator, signs_in_declarator, signs_in_lengths, signs_in_parameters, signs_in_parameter_list, signs_in_parameter}
use Rattle.reread_law_texts.proofs.Bracketed.Pour.{Part, Goes, Placed, nothing, token, join, some, chain, one, wrap, placed, onward, begun}
use Rattle.reread_law_texts.proofs.Tokens.{tk}

abbrev Pours : Brackets → Nonterminal → List Lexeme → Expression → List Lexeme → (Steps → Steps) → Type 0
Pours w (n.operations k a) ts b rest f =
    (from : List Lexeme) (left : Steps) (c : ℕ) → Placed c (span_of a) (tk from) (tk ts) → Part c (span_of a).end (tk from) (tk ts) left (signs w a) → Part c (span_of b).end (tk from) (tk rest) (f left) (signs w b)
Pours w (n.suffixes a) ts b rest f =
    (from : List Lexeme) (left : Steps) (c : ℕ) → Placed c (span_of a) (tk from) (tk ts) → Part c (span_of a).end (tk from) (tk ts) left (signs w a) → Part c (span_of b).end (tk from) (tk rest) (f left) (signs w b)
Pours w k ts a rest f = (c : ℕ) → FollowFrom c (tk ts) → Part c (span_of a).end (tk ts) (tk rest) (f none) (signs w a)

operand_pours : (w : Brackets) (k : Level) (ts : List Lexeme) (a : Expression) (rest : List Lexeme) (f : Steps → Steps) → Pours w (operand k) ts a rest f
    → (c : ℕ) → FollowFrom c (tk ts) → Part c (span_of a).end (tk ts) (tk rest) (f none) (signs w a)
operand_pours w n.product ts a rest f h = h
operand_pours w n.sum ts a rest f h = h
operand_pours w n.shift ts a rest f h = h
operand_pours w n.relation ts a rest f h = h
operand_pours w n.equality ts a rest f h = h
operand_pours w n.bit_and ts a rest f h = h
operand_pours w n.bit_xor ts a rest f h = h
operand_pours w n.bit_or ts a rest f h = h
operand_pours w n.land ts a rest f h = h
operand_pours w n.lor ts a rest f h = h

pub stars_pour : {before last : Span} {ts rest : List Lexeme} {k : ℕ} (p : ReadsStars before ts k last rest) (c : ℕ) → FollowFrom c (tk ts) → Goes c (tk ts) (tk rest) (in_stars p) (λ ps. ps)
stars_pour (r.star {x = x} {ts = ts} e p) c h = chain (one c x.token (tk ts) h) (λ e h. stars_pour p e h)
stars_pour (r.no_star {ts = ts} e) c h = some (nothing c (tk ts) h)

mutual
  pub pour : {d : Dialect} (w : Brackets) {k : Nonterminal} {ts rest : List Lexeme} {a : Expression} (p : Reads d k ts a rest) → Pours w k ts a rest (in_expression w p)
  pour w (r.comma_one p e) = λ c h. pour w p c h
  pour w (r.comma {x = x} {ts = ts} {mid = mid} {rest = rest} {a = a} {all = all} p e q) =
      let span = to (span_of a) (end_of_expressions (span_of a) all) in
      λ c h.
      let whole = join (pour w p c h) (λ h. join (token (span_of a).end x.token (tk mid) h) (λ h. pour_expressions w q (span_of a) (end_of x.token) h)) in
      wrap w span c (tk ts) (tk rest) (λ s. in_expression w p none (copy ∷ in_expressions w q s)) (λ ps. signs w a (signs_in_expressions w all ps))
      (onward (end_of_expressions (span_of a) all) (placed c (span_of a) ts (x ∷ mid) (stands refl p) h) whole.follow) whole
  pour w (r.assign_cond p e) = λ c h. pour w p c h
  pour w (r.assign {x = x} {ts = ts} {mid = mid} {rest = rest} {a = a} {b = b} p e q) =
      let span = to (span_of a) (span_of b) in
      λ c h.
      let whole = join (pour w p c h) (λ h. join (token (span_of a).end x.token (tk mid) h) (λ h. pour w q (end_of x.token) h)) in
      wrap w span c (tk ts) (tk rest) (λ s. in_expression w p none (copy ∷ in_expression w q none s)) (λ ps. signs w a (signs w b ps))
      (onward (span_of b) (placed c (span_of a) ts (x ∷ mid) (stands refl p) h) whole.follow) whole
  pour w (r.cond_level p e) = λ c h. pour w p c h
  pour w (r.cond {x = x} {y = y} {ts = ts} {mid = mid} {other = other} {rest = rest} {a = a} {b = b} {c = last} p e q f v) =
      let span = to (span_of a) (span_of last) in
      λ c h.
      let whole = join (pour w p c h) (λ h. join (token (span_of a).end x.token (tk mid) h) (λ h. join (pour w q (end_of x.token) h)
      (λ h. join (token (span_of b).end y.token (tk other) h) (λ h. pour w v (end_of y.token) h)))) in
      wrap w span c (tk ts) (tk rest) (λ s. in_expression w p none (copy ∷ in_expression w q none (copy ∷ in_expression w v none s))) (λ ps. signs w a (signs w b (signs w last ps)))
      (onward (span_of last) (placed c (span_of a) ts (x ∷ mid) (stands refl p) h) whole.follow) whole
  pour w (r.level {k = k} {ts = ts} {mid = mid} {a = a} p q) =
      λ c h. pour w q ts (in_expression w p none) c (placed c (span_of a) ts mid (stands (operand_takes k) p) h) (operand_pours w k ts a mid (in_expression w p) (pour w p) c h)
  pour w (r.operation {k = k} {x = x} {ts = ts} {mid = mid} {a = a} {b = b} e p q) =
      let span = to (span_of a) (span_of b) in
      λ from left c place part.
      let whole = join part (λ h. join (token (span_of a).end x.token (tk ts) h) (λ h. operand_pours w k ts b mid (in_expression w p) (pour w p) (end_of x.token) h)) in
      let all = onward (span_of b) place whole.follow in
      pour w q from (in_parentheses w span (λ s. left (copy ∷ in_expression w p none s))) c all
      (wrap w span c (tk from) (tk mid) (λ s. left (copy ∷ in_expression w p none s)) (λ ps. signs w a (signs w b ps)) all whole)
  pour w (r.operations_end e) = λ from left c place part. part
  pour w (r.cast_unary e p) = λ c h. pour w p c h
  pour w (r.cast {x = x} {y = y} {ts = ts} {mid = mid} {rest = rest} {type = type} {a = a} e f p v q) =
      let span = to (at x) (span_of a) in
      λ c h.
      let whole = join (token c x.token (tk ts) h) (λ h. let type_part = pour_type_name w p (end_of x.token) h in
      join type_part.part (λ h. join (token type_part.end y.token (tk mid) h) (λ h. pour w q (end_of y.token) h))) in
      wrap w span c (x.token ∷ tk ts) (tk rest) (λ s. copy ∷ in_type_name w p (copy ∷ in_expression w q none s)) (λ ps. signs_in_type_name w type (signs w a ps))
      (begun c x (span_of a) (tk ts) (tk rest) h whole.follow) whole
  pour w (r.unary_postfix e p) = λ c h. pour w p c h
  pour w (r.prefix_step {x = x} {ts = ts} {rest = rest} {a = a} e p) =
      λ c h.
      let whole = join (token c x.token (tk ts) h) (λ h. pour w p (end_of x.token) h) in
      wrap w (to (at x) (span_of a)) c (x.token ∷ tk ts) (tk rest) (λ s. copy ∷ in_expression w p none s) (signs w a) (begun c x (span_of a) (tk ts) (tk rest) h whole.follow) whole
  pour w (r.unary {x = x} {ts = ts} {rest = rest} {a = a} e p) =
      λ c h.
      let whole = join (token c x.token (tk ts) h) (λ h. pour w p (end_of x.token) h) in
      wrap w (to (at x) (span_of a)) c (x.token ∷ tk ts) (tk rest) (λ s. copy ∷ in_expression w p none s) (signs w a) (begun c x (span_of a) (tk ts) (tk rest) h whole.follow) whole
  pour w (r.postfix {ts = ts} {mid = mid} {a = a} p q) =
      λ c h. pour w q ts (in_expression w p none) c (placed c (span_of a) ts mid (stands refl p) h) (pour w p c h)
  pour w (r.index {x = x} {y = y} {ts = ts} {mid = mid} {a = a} {b = b} e p f q) =
      let span = to (span_of a) (at y) in
      λ from left c place part.
      let whole = join part (λ h. join (token (span_of a).end x.token (tk ts) h) (λ h. join (pour w p (end_of x.token) h) (λ h. token (span_of b).end y.token (tk mid) h))) in
      let all = onward (at y) place whole.follow in
      pour w q from (in_parentheses w span (λ s. left (copy ∷ in_expression w p none (copy ∷ s)))) c all
      (wrap w span c (tk from) (tk mid) (λ s. left (copy ∷ in_expression w p none (copy ∷ s))) (λ ps. signs w a (signs w b ps)) all whole)
  pour w (r.member {x = x} {y = y} {ts = ts} {a = a} e f q) =
      let span = to (span_of a) (at y) in
      λ from left c place part.
      let whole = join part (λ h. join (token (span_of a).end x.token (y.token ∷ tk ts) h) (λ h. token (end_of x.token) y.token (tk ts) h)) in
      let all = onward (at y) place whole.follow in
      pour w q from (in_parentheses w span (λ s. left (copy ∷ copy ∷ s))) c all
      (wrap w span c (tk from) (tk ts) (λ s. left (copy ∷ copy ∷ s)) (signs w a) all whole)
  pour w (r.postfix_step {x = x} {ts = ts} {a = a} e q) =
      let span = to (span_of a) (at x) in
      λ from left c place part.
      let whole = join part (λ h. token (span_of a).end x.token (tk ts) h) in
      let all = onward (at x) place whole.follow in
      pour w q from (in_parentheses w span (λ s. left (copy ∷ s))) c all
      (wrap w span c (tk from) (tk ts) (λ s. left (copy ∷ s)) (signs w a) all whole)
  pour w (r.suffixes_end e) = λ from left c place part. part
  pour w (r.named {x = x} {ts = ts} e f) =
      λ c h. let whole = token c x.token (tk ts) h in wrap w (at x) c (x.token ∷ tk ts) (tk ts) (λ s. copy ∷ s) (λ ps. ps) (begun c x (at x) (tk ts) (tk ts) h whole.follow) whole
  pour w (r.constant {x = x} {ts = ts} e) =
      λ c h. let whole = token c x.token (tk ts) h in wrap w (at x) c (x.token ∷ tk ts) (tk ts) (λ s. copy ∷ s) (λ ps. ps) (begun c x (at x) (tk ts) (tk ts) h whole.follow) whole
  pour w (r.character {x = x} {ts = ts} e) =
      λ c h. let whole = token c x.token (tk ts) h in wrap w (at x) c (x.token ∷ tk ts) (tk ts) (λ s. copy ∷ s) (λ ps. ps) (begun c x (at x) (tk ts) (tk ts) h whole.follow) whole
  pour w (r.parenthesized {x = x} {y = y} {ts = ts} {rest = rest} {a = a} e f p v) =
      λ c h.
      let whole = join (token c x.token (tk ts) h) (λ h. join (pour w p (end_of x.token) h) (λ h. token (span_of a).end y.token (tk rest) h)) in
      wrap w (to (at x) (at y)) c (x.token ∷ tk ts) (tk rest) (λ s. copy ∷ in_expression w p none (copy ∷ s)) (signs w a) (begun c x (at y) (tk ts) (tk rest) h whole.follow) whole
  pour w (r.call_empty {x = x} {y = y} {z = z} {rest = rest} e f v) =
      λ c h.
      let whole = join (token c x.token (y.token ∷ z.token ∷ tk rest) h) (λ h. join (token (end_of x.token) y.token (z.token ∷ tk rest) h) (λ h. token (end_of y.token) z.token (tk rest) h)) in
      wrap w (to (at x) (at z)) c (x.token ∷ y.token ∷ z.token ∷ tk rest) (tk rest) (λ s. copy ∷ copy ∷ copy ∷ s) (λ ps. ps)
      (begun c x (at z) (y.token ∷ z.token ∷ tk rest) (tk rest) h whole.follow) whole
  pour w (r.call {x = x} {y = y} {z = z} {ts = ts} {rest = rest} {all = all} e f v p u) =
      λ c h.
      let whole = join (token c x.token (y.token ∷ tk ts) h) (λ h. join (token (end_of x.token) y.token (tk ts) h)
      (λ h. join (pour_expressions w p (at y) (end_of y.token) h) (λ h. token (end_of_expressions (at y) all).end z.token (tk rest) h))) in
      wrap w (to (at x) (at z)) c (x.token ∷ y.token ∷ tk ts) (tk rest) (λ s. copy ∷ copy ∷ in_expressions w p (copy ∷ s)) (signs_in_expressions w all)
      (begun c x (at z) (y.token ∷ tk ts) (tk rest) h whole.follow) whole

  pour_expressions : {d : Dialect} (w : Brackets) {ts rest : List Lexeme} {all : Expressions} (p : ReadsExpressions d ts all rest) (place : Span) (c : ℕ) → FollowFrom c (tk ts)
      → Part c (end_of_expressions place all).end (tk ts) (tk rest) (in_expressions w p) (signs_in_expressions w all)
  pour_expressions w (r.last_expression {rest = rest} {a = a} p e) place c h = join (pour w p c h) (λ h. nothing (span_of a).end (tk rest) h)
  pour_expressions w (r.more_expressions {x = x} {mid = mid} {a = a} p e q) place c h =
      join (pour w p c h) (λ h. join (token (span_of a).end x.token (tk mid) h) (λ h. pour_expressions w q (span_of a) (end_of x.token) h))

  pub pour_type_name : {d : Dialect} (w : Brackets) {ts rest : List Lexeme} {type : TypeName} (p : ReadsTypeName d ts type rest) (c : ℕ) → FollowFrom c (tk ts) → Goes c (tk ts) (tk rest) (in_type_name w p) (signs_in_type_name w type)
  pour_type_name w (r.type_name p e q) c h = chain (pour_specifiers w p c h) (λ e h. stars_pour q e h)

  pub pour_specifiers : {d : Dialect} (w : Brackets) {has : Bool} {ts rest : List Lexeme} {all : Specifiers} (p : ReadsSpecifiers d has ts all rest) (c : ℕ) → FollowFrom c (tk ts) → Goes c (tk ts) (tk rest) (in_specifiers w p) (signs_in_specifiers w all)
  pour_specifiers w (r.specifiers_end {ts = ts} e) c h = some (nothing c (tk ts) h)
  pour_specifiers w (r.word {x = x} {ts = ts} e p) c h = chain (one c x.token (tk ts) h) (λ e h. pour_specifiers w p e h)
  pour_specifiers w (r.typedef_name {x = x} {ts = ts} e p) c h = chain (one c x.token (tk ts) h) (λ e h. pour_specifiers w p e h)
  pour_specifiers w (r.structure_tag {x = x} {y = y} {ts = ts} e f v p) c h =
      chain (one c x.token (y.token ∷ tk ts) h) (λ e h. chain (one e y.token (tk ts) h) (λ e h. pour_specifiers w p e h))
  pour_specifiers w (r.structure {x = x} {y = y} {z = z} {v = last} {ts = ts} {mid = mid} e f k p v q) c h =
      chain (one c x.token (y.token ∷ z.token ∷ tk ts) h) (λ e h. chain (one e y.token (z.token ∷ tk ts) h) (λ e h. chain (one e z.token (tk ts) h)
      (λ e h. chain (pour_members w p e h) (λ e h. chain (one e last.token (tk mid) h) (λ e h. pour_specifiers w q e h)))))
  pour_specifiers w (r.untagged_structure {x = x} {z = z} {v = last} {ts = ts} {mid = mid} e k p v q) c h =
      chain (one c x.token (z.token ∷ tk ts) h) (λ e h. chain (one e z.token (tk ts) h)
      (λ e h. chain (pour_members w p e h) (λ e h. chain (one e last.token (tk mid) h) (λ e h. pour_specifiers w q e h))))
  pour_specifiers w (r.enumeration_tag {x = x} {y = y} {ts = ts} e f v p) c h =
      chain (one c x.token (y.token ∷ tk ts) h) (λ e h. chain (one e y.token (tk ts) h) (λ e h. pour_specifiers w p e h))
  pour_specifiers w (r.enumeration {x = x} {y = y} {z = z} {v = last} {ts = ts} {mid = mid} e f k p v q) c h =
      chain (one c x.token (y.token ∷ z.token ∷ tk ts) h) (λ e h. chain (one e y.token (z.token ∷ tk ts) h) (λ e h. chain (one e z.token (tk ts) h)
      (λ e h. chain (pour_enumerators w p e h) (λ e h. chain (one e last.token (tk mid) h) (λ e h. pour_specifiers w q e h)))))
  pour_specifiers w (r.untagged_enumeration {x = x} {z = z} {v = last} {ts = ts} {mid = mid} e k p v q) c h =
      chain (one c x.token (z.token ∷ tk ts) h) (λ e h. chain (one e z.token (tk ts) h)
      (λ e h. chain (pour_enumerators w p e h) (λ e h. chain (one e last.token (tk mid) h) (λ e h. pour_specifiers w q e h))))

  pour_members : {d : Dialect} (w : Brackets) {ts rest : List Lexeme} {all : Members} (p : ReadsMembers d ts all rest) (c : ℕ) → FollowFrom c (tk ts) → Goes c (tk ts) (tk rest) (in_members w p) (signs_in_members w all)
  pour_members w (r.last_member {rest = rest} p e) c h = chain (pour_member w p c h) (λ e h. some (nothing e (tk rest) h))
  pour_members w (r.more_members p e q) c h = chain (pour_member w p c h) (λ e h. pour_members w q e h)

  pour_member : {d : Dialect} (w : Brackets) {ts rest : List Lexeme} {a : StructMember} (p : ReadsMember d ts a rest) (c : ℕ) → FollowFrom c (tk ts) → Goes c (tk ts) (tk rest) (in_member w p) (signs_in_member w a)
  pour_member w (r.struct_member {y = y} {rest = rest} p e q f) c h = chain (pour_specifiers w p c h) (λ e h. chain (pour_declarators w q e h) (λ e h. one e y.token (tk rest) h))

  pour_declarators : {d : Dialect} (w : Brackets) {ts rest : List Lexeme} {all : Declarators} (p : ReadsDeclarators d ts all rest) (c : ℕ) → FollowFrom c (tk ts) → Goes c (tk ts) (tk rest) (in_declarators w p) (signs_in_declarators w all)
  pour_declarators w (r.last_declarator {rest = rest} p e) c h = chain (pour_declarator w p c h) (λ e h. some (nothing e (tk rest) h))
  pour_declarators w (r.more_declarators {x = x} {mid = mid} p e q) c h = chain (pour_declarator w p c h) (λ e h. chain (one e x.token (tk mid) h) (λ e h. pour_declarators w q e h))

  pour_enumerators : {d : Dialect} (w : Brackets) {ts rest : List Lexeme} {all : Enumerators} (p : ReadsEnumerators d ts all rest) (c : ℕ) → FollowFrom c (tk ts) → Goes c (tk ts) (tk rest) (in_enumerators w p) (signs_in_enumerators w all)
  pour_enumerators w (r.last_enumerator {rest = rest} p e) c h = chain (pour_enumerator w p c h) (λ e h. some (nothing e (tk rest) h))
  pour_enumerators w (r.last_enumerator_comma {x = x} {rest = rest} p e f) c h = chain (pour_enumerator w p c h) (λ e h. one e x.token (tk rest) h)
  pour_enumerators w (r.more_enumerators {x = x} {mid = mid} p e f q) c h = chain (pour_enumerator w p c h) (λ e h. chain (one e x.token (tk mid) h) (λ e h. pour_enumerators w q e h))

  pour_enumerator : {d : Dialect} (w : Brackets) {ts rest : List Lexeme} {a : Enumerator} (p : ReadsEnumerator d ts a rest) (c : ℕ) → FollowFrom c (tk ts) → Goes c (tk ts) (tk rest) (in_enumerator w p) (signs_in_enumerator w a)
  pour_enumerator w (r.enumerator {x = x} {rest = rest} e f) c h = one c x.token (tk rest) h
  pour_enumerator w (r.valued_enumerator {x = x} {y = y} {ts = ts} e f p) c h =
      chain (one c x.token (y.token ∷ tk ts) h) (λ e h. chain (one e y.token (tk ts) h) (λ e h. some (pour w p e h)))

  pub pour_declarator : {d : Dialect} (w : Brackets) {ts rest : List Lexeme} {a : Declarator} (p : ReadsDeclarator d ts a rest) (c : ℕ) → FollowFrom c (tk ts) → Goes c (tk ts) (tk rest) (in_declarator w p) (signs_in_declarator w a)
  pour_declarator w (r.object {y = y} {mid = mid} p e f q) c h = chain (stars_pour p c h) (λ e h. chain (one e y.token (tk mid) h) (λ e h. pour_lengths w q e h))
  pour_declarator w (r.function {y = y} {mid = mid} p e q) c h = chain (stars_pour p c h) (λ e h. chain (one e y.token (tk mid) h) (λ e h. pour_parameters w q e h))

  pour_lengths : {d : Dialect} (w : Brackets) {before last : Span} {ts rest : List Lexeme} {all : ArrayLengths} (p : ReadsArrayLengths d before ts all last rest) (c : ℕ) → FollowFrom c (tk ts) → Goes c (tk ts) (tk rest) (in_lengths w p) (signs_in_lengths w all)
  pour_lengths w (r.lengths_end {ts = ts} e) c h = some (nothing c (tk ts) h)
  pour_lengths w (r.absent_length {x = x} {y = y} {ts = ts} e f p) c h = chain (one c x.token (y.token ∷ tk ts) h) (λ e h. chain (one e y.token (tk ts) h) (λ e h. pour_lengths w p e h))
  pour_lengths w (r.given_length {x = x} {y = y} {ts = ts} {mid = mid} e f p v q) c h =
      chain (one c x.token (tk ts) h) (λ e h. chain (some (pour w p e h)) (λ e h. chain (one e y.token (tk mid) h) (λ e h. pour_lengths w q e h)))

  pub pour_parameters : {d : Dialect} (w : Brackets) {ts rest : List Lexeme} {all : Parameters} (p : ReadsParameters d ts all rest) (c : ℕ) → FollowFrom c (tk ts) → Goes c (tk ts) (tk rest) (in_parameters w p) (signs_in_parameters w all)
  pour_parameters w (r.empty_parameters {x = x} {y = y} {rest = rest} e f) c h = chain (one c x.token (y.token ∷ tk rest) h) (λ e h. one e y.token (tk rest) h)
  pour_parameters w (r.void_parameters {x = x} {y = y} {z = z} {rest = rest} e f v) c h =
      chain (one c x.token (y.token ∷ z.token ∷ tk rest) h) (λ e h. chain (one e y.token (z.token ∷ tk rest) h) (λ e h. one e z.token (tk rest) h))
  pour_parameters w (r.listed_parameters {x = x} {y = y} {ts = ts} {rest = rest} e f k p v) c h =
      chain (one c x.token (tk ts) h) (λ e h. chain (pour_parameter_list w p e h) (λ e h. one e y.token (tk rest) h))

  pour_parameter_list : {d : Dialect} (w : Brackets) {ts rest : List Lexeme} {all : ParameterList} (p : ReadsParameterList d ts all rest) (c : ℕ) → FollowFrom c (tk ts) → Goes c (tk ts) (tk rest) (in_parameter_list w p) (signs_in_parameter_list w all)
  pour_parameter_list w (r.last_parameter {rest = rest} p e) c h = chain (pour_parameter w p c h) (λ e h. some (nothing e (tk rest) h))
  pour_parameter_list w (r.more_parameters {x = x} {mid = mid} p e q) c h = chain (pour_parameter w p c h) (λ e h. chain (one e x.token (tk mid) h) (λ e h. pour_parameter_list w q e h))

  pour_parameter : {d : Dialect} (w : Brackets) {ts rest : List Lexeme} {a : Parameter} (p : ReadsParameter d ts a rest) (c : ℕ) → FollowFrom c (tk ts) → Goes c (tk ts) (tk rest) (in_parameter w p) (signs_in_parameter w a)
  pour_parameter w (r.parameter {y = y} {mid = mid} p e q f v) c h =
      chain (pour_specifiers w p c h) (λ e h. chain (stars_pour q e h) (λ e h. chain (one e y.token (tk mid) h) (λ e h. pour_lengths w v e h)))
  pour_parameter w (r.unnamed_parameter p e q f v) c h = chain (pour_specifiers w p c h) (λ e h. chain (stars_pour q e h) (λ e h. pour_lengths w v e h))
