-- Expressions fit where they stand: one case for each alternative of a production.
use Rattle.std.proofs.Common.{List, [], ◌∷◌, ◌++◌, refl, codes}
use Rattle.mc_span.specs.declared.span.Span.{Span}
use Rattle.mc_lex.specs.declared.token.Dialect.{Dialect}
use Rattle.mc_lex.specs.Tokens.{Tok}
use Rattle.mc_tree.specs.Tree.{Expression, Expressions, span_of}
use Rattle.mc_tree.specs.Tree as t
use Rattle.mc_grammar.specs.Words.{Lexeme}
use Rattle.mc_grammar.specs.Places.{at as place_at, name_at, to, end_of_expressions}
use Rattle.mc_grammar.specs.Nonterminal.{Nonterminal, Level, operand}
use Rattle.mc_grammar.specs.Nonterminal as n
use Rattle.mc_grammar.specs.Expressions.{Reads, ReadsExpressions}
use Rattle.mc_grammar.specs.Expressions as r
use Rattle.reread_law_rows.proofs.Fitting.Words.{AreClear}
use Rattle.reread_law_rows.proofs.Fitting.Sections.{empty, token, join, put, enclosed, are_round, are_square, colon_free, comma_mild, question_mild, member_mild, operator_mild, assignment_mild, step_mild, unary_mild, name_free}
use Rattle.reread_law_rows.proofs.Fitting.Spots.{Spot, at, next, after, over, sign_name, Node, Nodes, whole, grown, ends_put, ends_append, ends_last}
use Rattle.reread_law_rows.proofs.Fitting.Balance.{type_name}
use Rattle.reread_law_texts.proofs.Tokens.{tk}

abbrev Fits : List Tok → Nonterminal → List Lexeme → Expression → List Lexeme → Type 0
Fits tokens (n.operations k a) ts b rest = (from : List Tok) → Spot tokens from → Node tokens from (tk ts) a → Node tokens from (tk rest) b
Fits tokens (n.suffixes a) ts b rest = (from : List Tok) → Spot tokens from → Node tokens from (tk ts) a → Node tokens from (tk rest) b
Fits tokens k ts a rest = Spot tokens (tk ts) → AreClear (tk ts) → Node tokens (tk ts) (tk rest) a

operand_fits : (tokens : List Tok) (k : Level) (ts : List Lexeme) (a : Expression) (rest : List Lexeme) → Fits tokens (operand k) ts a rest → Spot tokens (tk ts) → AreClear (tk ts) → Node tokens (tk ts) (tk rest) a
operand_fits tokens n.product ts a rest h = h
operand_fits tokens n.sum ts a rest h = h
operand_fits tokens n.shift ts a rest h = h
operand_fits tokens n.relation ts a rest h = h
operand_fits tokens n.equality ts a rest h = h
operand_fits tokens n.bit_and ts a rest h = h
operand_fits tokens n.bit_xor ts a rest h = h
operand_fits tokens n.bit_or ts a rest h = h
operand_fits tokens n.land ts a rest h = h
operand_fits tokens n.lor ts a rest h = h

mutual
  pub fit : (tokens : List Tok) {d : Dialect} {k : Nonterminal} {ts rest : List Lexeme} {a : Expression} → Reads d k ts a rest → Fits tokens k ts a rest
  fit tokens (r.comma_one p e) = λ s h. fit tokens p s h
  fit tokens (r.comma {x = x} {a = a} {all = all} p e q) =
      λ s h.
      let first = fit tokens p s h in
      let others = fit_expressions tokens q (span_of a) (after (over (at s) first.section) (comma_mild x e).name) first.section.clear.1 in
      let b = t.Comma (t.expressions a all) (to (span_of a) (end_of_expressions (span_of a) all)) in
      grown a b s first (put x.token (comma_mild x e).bracket others.section) (ends_put (span_of b).end x.token others.inside others.end) refl (λ o. (o, (first.fits, others.fits)))
  fit tokens (r.assign_cond p e) = λ s h. fit tokens p s h
  fit tokens (r.assign {x = x} {operator = operator} {a = a} {b = b} p e q) =
      λ s h.
      let first = fit tokens p s h in
      let second = fit tokens q (after (over (at s) first.section) (assignment_mild x e).name) first.section.clear.1 in
      grown a (t.Assignment operator a b (to (span_of a) (span_of b))) s first (put x.token (assignment_mild x e).bracket second.section) (ends_put (span_of b).end x.token second.inside second.end) refl
      (λ o. (o, first.fits, second.fits))
  fit tokens (r.cond_level p e) = λ s h. fit tokens p s h
  fit tokens (r.cond {x = x} {y = y} {a = a} {b = b} {c = c} p e q f v) =
      λ s h.
      let first = fit tokens p s h in
      let second = fit tokens q (after (over (at s) first.section) (question_mild x e).name) first.section.clear.1 in
      let third = fit tokens v (after (over (next (over (at s) first.section)) second.section) (sign_name (codes ":") y f refl)) second.section.clear.1 in
      let inside = second.inside ++ y.token ∷ third.inside in
      grown a (t.Conditional a b c (to (span_of a) (span_of c))) s first (put x.token (question_mild x e).bracket (join second.section (put y.token (colon_free y f) third.section)))
      (ends_put (span_of c).end x.token inside (ends_append (span_of c).end second.inside (y.token ∷ third.inside) (ends_put (span_of c).end y.token third.inside third.end))) refl
      (λ o. (o, first.fits, second.fits, third.fits))
  fit tokens (r.level {k = k} {ts = ts} {mid = mid} {a = a} p q) = λ s h. fit tokens q (tk ts) s (operand_fits tokens k ts a mid (fit tokens p) s h)
  fit tokens (r.operation {k = k} {x = x} {ts = ts} {mid = mid} {operator = operator} {a = a} {b = b} e p q) =
      λ from s first.
      let second = operand_fits tokens k ts b mid (fit tokens p) (after (over (at s) first.section) (operator_mild k x e).name) first.section.clear.1 in
      fit tokens q from s
      (grown a (t.Binary operator a b (to (span_of a) (span_of b))) s first (put x.token (operator_mild k x e).bracket second.section) (ends_put (span_of b).end x.token second.inside second.end) refl
      (λ o. (o, first.fits, second.fits)))
  fit tokens (r.operations_end e) = λ from s first. first
  fit tokens (r.cast_unary e p) = λ s h. fit tokens p s h
  fit tokens (r.cast {x = x} {y = y} {type = type} {a = a} e f p v q) =
      λ s h.
      let words = type_name p h.1 in
      let inner = fit tokens q (after (over (next (at s)) words.is) (sign_name (codes ")") y v refl)) words.is.clear.1 in
      whole (t.Cast type a (to (place_at x) (span_of a))) s (join (enclosed x.token y.token (are_round x y e v) words.is) inner.section) refl
      (ends_append (span_of a).end (x.token ∷ words.inside ++ y.token ∷ []) inner.inside inner.end) (λ o. (o, inner.fits))
  fit tokens (r.unary_postfix e p) = λ s h. fit tokens p s h
  fit tokens (r.prefix_step {x = x} {operator = operator} {a = a} e p) =
      λ s h.
      let inner = fit tokens p (after (at s) (step_mild x e).name) h.1 in
      whole (t.PrefixStep operator a (to (place_at x) (span_of a))) s (put x.token (step_mild x e).bracket inner.section) refl (ends_put (span_of a).end x.token inner.inside inner.end) (λ o. (o, inner.fits))
  fit tokens (r.unary {x = x} {operator = operator} {a = a} e p) =
      λ s h.
      let inner = fit tokens p (after (at s) (unary_mild x e).name) h.1 in
      whole (t.Unary operator a (to (place_at x) (span_of a))) s (put x.token (unary_mild x e).bracket inner.section) refl (ends_put (span_of a).end x.token inner.inside inner.end) (λ o. (o, inner.fits))
  fit tokens (r.postfix {ts = ts} p q) = λ s h. fit tokens q (tk ts) s (fit tokens p s h)
  fit tokens (r.index {x = x} {y = y} {a = a} {b = b} e p f q) =
      λ from s first.
      let second = fit tokens p (after (over (at s) first.section) (sign_name (codes "[") x e refl)) first.section.clear.1 in
      fit tokens q from s
      (grown a (t.Index a b (to (span_of a) (place_at y))) s first (enclosed x.token y.token (are_square x y e f) second.section) (ends_last (x.token ∷ second.inside) y.token) refl
      (λ o. (o, first.fits, second.fits)))
  fit tokens (r.member {x = x} {y = y} {a = a} e f q) =
      λ from s first.
      fit tokens q from s
      (grown a (t.Member a (name_at y) (to (span_of a) (place_at y))) s first
      (put x.token (member_mild x e).bracket (token y.token (name_free y f first.section.clear.1.0) first.section.clear.1)) refl refl (λ o. (o, first.fits)))
  fit tokens (r.postfix_step {x = x} {operator = operator} {a = a} e q) =
      λ from s first.
      fit tokens q from s
      (grown a (t.PostfixStep operator a (to (span_of a) (place_at x))) s first (token x.token (step_mild x e).bracket first.section.clear) refl refl (λ o. (o, first.fits)))
  fit tokens (r.suffixes_end e) = λ from s first. first
  fit tokens (r.named {x = x} e f) = λ s h. whole (t.Named (name_at x)) s (token x.token (name_free x e h.0) h) refl refl (λ o. o)
  fit tokens (r.constant {x = x} {value = value} {decimal = decimal} {unsigned = unsigned} {longs = longs} e) =
      λ s h. whole (t.Constant value decimal unsigned longs (place_at x)) s (token x.token (h.0.bracket (rw e refl)) h) refl refl (λ o. o)
  fit tokens (r.character {x = x} {value = value} e) = λ s h. whole (t.Character value (place_at x)) s (token x.token (h.0.bracket (rw e refl)) h) refl refl (λ o. o)
  fit tokens (r.parenthesized {x = x} {y = y} {a = a} e f p v) =
      λ s h.
      let inner = fit tokens p (after (at s) (sign_name (codes "(") x e refl)) h.1 in
      whole (t.Parenthesized a (to (place_at x) (place_at y))) s (enclosed x.token y.token (are_round x y e v) inner.section) refl (ends_last (x.token ∷ inner.inside) y.token) (λ o. inner.fits)
  fit tokens (r.call_empty {x = x} {y = y} {z = z} e f v) =
      λ s h.
      whole (t.Call (name_at x) t.no_expressions (to (place_at x) (place_at z))) s (put x.token (name_free x e h.0) (enclosed y.token z.token (are_round y z f v) (empty h.1.1))) refl refl (λ o. (o, tt))
  fit tokens (r.call {x = x} {y = y} {z = z} {all = all} e f v p u) =
      λ s h.
      let given = fit_expressions tokens p (place_at y) (after (next (at s)) (sign_name (codes "(") y f refl)) h.1.1 in
      whole (t.Call (name_at x) all (to (place_at x) (place_at z))) s (put x.token (name_free x e h.0) (enclosed y.token z.token (are_round y z f u) given.section)) refl
      (ends_last (x.token ∷ y.token ∷ given.inside) z.token) (λ o. (o, given.fits))

  fit_expressions : (tokens : List Tok) {d : Dialect} {ts rest : List Lexeme} {all : Expressions} → ReadsExpressions d ts all rest → (place : Span) → Spot tokens (tk ts) → AreClear (tk ts) → Nodes tokens (tk ts) (tk rest) place all
  fit_expressions tokens (r.last_expression p e) place s h =
      let only = fit tokens p s h in
      record { inside = only.inside; section = only.section; end = only.end; fits = (only.fits, tt) }
  fit_expressions tokens (r.more_expressions {x = x} {a = a} {all = all} p e q) place s h =
      let first = fit tokens p s h in
      let others = fit_expressions tokens q (span_of a) (after (over (at s) first.section) (comma_mild x e).name) first.section.clear.1 in
      record {
        inside = first.inside ++ x.token ∷ others.inside;
        section = join first.section (put x.token (comma_mild x e).bracket others.section);
        end = ends_append (end_of_expressions (span_of a) all).end first.inside (x.token ∷ others.inside) (ends_put (end_of_expressions (span_of a) all).end x.token others.inside others.end);
        fits = (first.fits, others.fits);
      }
