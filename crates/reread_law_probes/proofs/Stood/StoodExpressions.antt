-- The places of an expression, and of its steps, follow each other: one case for each alternative of
-- a production.
use Rattle.std.proofs.Common.{ℕ, List, ◌∷◌, refl}
use Rattle.mc_span.specs.declared.span.Span.{Span}
use Rattle.mc_lex.specs.declared.token.Dialect.{Dialect}
use Rattle.mc_tree.specs.Tree.{Expression, Expressions, span_of}
use Rattle.mc_tree.specs.Tree as t
use Rattle.mc_grammar.specs.Words.{Lexeme}
use Rattle.mc_grammar.specs.Places.{at, name_at, to, end_of_expressions}
use Rattle.mc_grammar.specs.Nonterminal.{Nonterminal, Level, operand}
use Rattle.mc_grammar.specs.Nonterminal as n
use Rattle.mc_grammar.specs.Expressions.{Reads, ReadsExpressions}
use Rattle.mc_grammar.specs.Expressions as r
use Rattle.reread_law_texts.specs.alike.Moves.{FollowFrom, end_of}
use Rattle.reread_law_texts.proofs.Apart.Ascending.{Part, nothing, token, join, passed_goes, own}
use Rattle.reread_law_texts.proofs.Apart.ApartExpressions.{apart_type_name}
use Rattle.reread_law_probes.specs.stood.Stands.{stands_in_expressions}
use Rattle.reread_law_probes.proofs.Stood.Ascents.{Node, as_part, begun, past, grown, after, before}
use Rattle.reread_law_texts.proofs.Tokens.{tk}

-- The rest of a repetition goes on from an expression that stands there.
abbrev Stood : Nonterminal → List Lexeme → Expression → List Lexeme → Type 0
Stood (n.operations k a) ts b rest = (c : ℕ) → Node c (tk ts) a → Node c (tk rest) b
Stood (n.suffixes a) ts b rest = (c : ℕ) → Node c (tk ts) a → Node c (tk rest) b
Stood k ts a rest = (c : ℕ) → FollowFrom c (tk ts) → Node c (tk rest) a

pub operand_stood : (k : Level) (ts : List Lexeme) (a : Expression) (rest : List Lexeme) → Stood (operand k) ts a rest → (c : ℕ) → FollowFrom c (tk ts) → Node c (tk rest) a
operand_stood n.product ts a rest h = h
operand_stood n.sum ts a rest h = h
operand_stood n.shift ts a rest h = h
operand_stood n.relation ts a rest h = h
operand_stood n.equality ts a rest h = h
operand_stood n.bit_and ts a rest h = h
operand_stood n.bit_xor ts a rest h = h
operand_stood n.bit_or ts a rest h = h
operand_stood n.land ts a rest h = h
operand_stood n.lor ts a rest h = h

mutual
  pub stood : {d : Dialect} {k : Nonterminal} {ts rest : List Lexeme} {a : Expression} → Reads d k ts a rest → Stood k ts a rest
  stood (r.comma_one p e) = λ c h. stood p c h
  stood (r.comma {x = x} {mid = mid} {a = a} {all = all} p e q) =
      λ c h.
      let first = stood p c h in
      grown a (t.Comma (t.expressions a all) (to (span_of a) (end_of_expressions (span_of a) all))) first refl
      (past a _ x.token (tk mid) first.follow (λ h. stood_expressions q (span_of a) (end_of x.token) h)) (λ ps. refl)
  stood (r.assign_cond p e) = λ c h. stood p c h
  stood (r.assign {x = x} {mid = mid} {operator = operator} {a = a} {b = b} p e q) =
      λ c h.
      let first = stood p c h in
      grown a (t.Assignment operator a b (to (span_of a) (span_of b))) first refl
      (past a _ x.token (tk mid) first.follow (λ h. as_part b (stood q (end_of x.token) h))) (λ ps. refl)
  stood (r.cond_level p e) = λ c h. stood p c h
  stood (r.cond {x = x} {y = y} {mid = mid} {other = other} {a = a} {b = b} {c = last} p e q f v) =
      λ c h.
      let first = stood p c h in
      grown a (t.Conditional a b last (to (span_of a) (span_of last))) first refl
      (past a _ x.token (tk mid) first.follow
      (λ h. join (as_part b (stood q (end_of x.token) h)) (λ h. join (token (span_of b).end y.token (tk other) h) (λ h. as_part last (stood v (end_of y.token) h)))))
      (λ ps. refl)
  stood (r.level {k = k} {ts = ts} {mid = mid} {a = a} p q) = λ c h. stood q c (operand_stood k ts a mid (stood p) c h)
  stood (r.operation {k = k} {x = x} {ts = ts} {mid = mid} {operator = operator} {a = a} {b = b} e p q) =
      λ c first.
      stood q c (grown a (t.Binary operator a b (to (span_of a) (span_of b))) first refl
      (past a _ x.token (tk ts) first.follow (λ h. as_part b (operand_stood k ts b mid (stood p) (end_of x.token) h))) (λ ps. refl))
  stood (r.operations_end e) = λ c first. first
  stood (r.cast_unary e p) = λ c h. stood p c h
  stood (r.cast {x = x} {y = y} {ts = ts} {mid = mid} {type = type} {a = a} e f p v q) =
      λ c h.
      begun (t.Cast type a (to (at x) (span_of a))) c (end_of x.token) h.0 (own x h.1)
      (let part = passed_goes (apart_type_name p (end_of x.token) h.2) in
      join part.part (λ h. join (token part.end y.token (tk mid) h) (λ h. as_part a (stood q (end_of y.token) h))))
  stood (r.unary_postfix e p) = λ c h. stood p c h
  stood (r.prefix_step {x = x} {operator = operator} {a = a} e p) =
      λ c h. before operator a x e h.0 (stood p (end_of x.token) h.2)
  stood (r.unary {x = x} {operator = operator} {a = a} e p) =
      λ c h. begun (t.Unary operator a (to (at x) (span_of a))) c (end_of x.token) h.0 (own x h.1) (as_part a (stood p (end_of x.token) h.2))
  stood (r.postfix p q) = λ c h. stood q c (stood p c h)
  stood (r.index {x = x} {y = y} {ts = ts} {mid = mid} {a = a} {b = b} e p f q) =
      λ c first.
      stood q c (grown a (t.Index a b (to (span_of a) (at y))) first refl
      (past a _ x.token (tk ts) first.follow (λ h. join (as_part b (stood p (end_of x.token) h)) (λ h. token (span_of b).end y.token (tk mid) h))) (λ ps. refl))
  stood (r.member {x = x} {y = y} {ts = ts} {a = a} e f q) =
      λ c first.
      stood q c (grown a (t.Member a (name_at y) (to (span_of a) (at y))) first refl
      (past a _ x.token (y.token ∷ tk ts) first.follow (λ h. token (end_of x.token) y.token (tk ts) h)) (λ ps. refl))
  stood (r.postfix_step {x = x} {operator = operator} {a = a} e q) =
      λ c first. stood q c (after operator a x e first)
  stood (r.suffixes_end e) = λ c first. first
  stood (r.named {x = x} {ts = ts} e f) = λ c h. begun (t.Named (name_at x)) c (end_of x.token) h.0 (own x h.1) (nothing (end_of x.token) (tk ts) h.2)
  stood (r.constant {x = x} {ts = ts} {value = value} {decimal = decimal} {unsigned = unsigned} {longs = longs} e) =
      λ c h. begun (t.Constant value decimal unsigned longs (at x)) c (end_of x.token) h.0 (own x h.1) (nothing (end_of x.token) (tk ts) h.2)
  stood (r.character {x = x} {ts = ts} {value = value} e) = λ c h. begun (t.Character value (at x)) c (end_of x.token) h.0 (own x h.1) (nothing (end_of x.token) (tk ts) h.2)
  stood (r.parenthesized {x = x} {y = y} {rest = rest} {a = a} e f p v) =
      λ c h.
      begun (t.Parenthesized a (to (at x) (at y))) c (end_of x.token) h.0 (own x h.1)
      (join (as_part a (stood p (end_of x.token) h.2)) (λ h. token (span_of a).end y.token (tk rest) h))
  stood (r.call_empty {x = x} {y = y} {z = z} {rest = rest} e f v) =
      λ c h.
      begun (t.Call (name_at x) t.no_expressions (to (at x) (at z))) c (end_of x.token) h.0 (own x h.1)
      (join (token (end_of x.token) y.token (z.token ∷ tk rest) h.2) (λ h. token (end_of y.token) z.token (tk rest) h))
  stood (r.call {x = x} {y = y} {z = z} {ts = ts} {rest = rest} {all = all} e f v p u) =
      λ c h.
      begun (t.Call (name_at x) all (to (at x) (at z))) c (end_of x.token) h.0 (own x h.1)
      (join (token (end_of x.token) y.token (tk ts) h.2) (λ h. join (stood_expressions p (at y) (end_of y.token) h) (λ h. token (end_of_expressions (at y) all).end z.token (tk rest) h)))

  stood_expressions : {d : Dialect} {ts rest : List Lexeme} {all : Expressions} (p : ReadsExpressions d ts all rest) (place : Span) (c : ℕ) → FollowFrom c (tk ts)
      → Part c (end_of_expressions place all).end (tk rest) (stands_in_expressions all)
  stood_expressions (r.last_expression {rest = rest} {a = a} p e) place c h = join (as_part a (stood p c h)) (λ h. nothing (span_of a).end (tk rest) h)
  stood_expressions (r.more_expressions {x = x} {mid = mid} {a = a} p e q) place c h =
      join (as_part a (stood p c h)) (λ h. join (token (span_of a).end x.token (tk mid) h) (λ h. stood_expressions q (span_of a) (end_of x.token) h))
