-- The places of statements follow each other: one case for each alternative of a production.
use Rattle.std.proofs.Common.{ℕ, List, ◌∷◌, sym, subst}
use Rattle.mc_span.specs.declared.span.Span.{Span}
use Rattle.mc_lex.specs.declared.token.Dialect.{Dialect}
use Rattle.mc_lex.specs.Tokens.{Tok}
use Rattle.mc_tree.specs.Tree.{Statement, BlockItems, Item, span_of, span_of_statement}
use Rattle.mc_grammar.specs.Words.{Lexeme}
use Rattle.mc_grammar.specs.Places.{at, to}
use Rattle.mc_grammar.specs.Statements.{ReadsStatement, ReadsCompound, ReadsBlockItems}
use Rattle.mc_grammar.specs.Statements as g
use Rattle.mc_grammar.specs.Items.{ReadsItem, ReadsUnit, IsTree}
use Rattle.mc_grammar.specs.Items as i
use Rattle.reread_law_texts.specs.alike.Moves.{FollowFrom, end_of}
use Rattle.reread_law_texts.specs.apart.Places.{statement_spans, statement_spans_in_block, statement_spans_in_item, statement_spans_in_unit}
use Rattle.reread_law_texts.proofs.Apart.Ascending.{Part, Goes, From, nothing, token, join, some, chain, one, as_part, passed, passed_goes, placed, own}
use Rattle.reread_law_texts.proofs.Apart.ApartExpressions.{stars_apart, apart, apart_specifiers, apart_parameters}
use Rattle.reread_law_texts.proofs.Apart.ApartStatements.{apart_declaration, apart_optional, apart_test, apart_start}
use Rattle.reread_law_texts.proofs.Tokens.{tk, same_tokens}

mutual
  part_statement : {d : Dialect} {ts rest : List Lexeme} {a : Statement} (p : ReadsStatement d ts a rest) (c : ℕ) → FollowFrom c (tk ts) → Part c (span_of_statement a).end (tk rest) (statement_spans a)
  part_statement (g.compound p) c h = part_compound p c h
  part_statement (g.null {y = y} {rest = rest} e) c h = placed (at y) c (end_of y.token) h.0 (own y h.1) (nothing (end_of y.token) (tk rest) h.2)
  part_statement (g.expression_statement {y = y} {rest = rest} {a = a} e f p v) c h =
      let value = apart p c h in
      placed (to (span_of a) (at y)) c (span_of a).end value.lower value.bytes (token (span_of a).end y.token (tk rest) value.follow)
  part_statement (g.if_only {x = x} {s = inner} e p q f) c h =
      let test = passed_goes (apart_test p (end_of x.token) h.2) in
      placed (to (at x) (span_of_statement inner)) c (end_of x.token) h.0 (own x h.1) (join test.part (λ h. part_statement q test.end h))
  part_statement (g.if_else {x = x} {y = y} {other = other} {s = first} {u = second} e p q f v) c h =
      let test = passed_goes (apart_test p (end_of x.token) h.2) in
      placed (to (at x) (span_of_statement second)) c (end_of x.token) h.0 (own x h.1)
      (join test.part (λ h. join (part_statement q test.end h) (λ h. join (token (span_of_statement first).end y.token (tk other) h) (λ h. part_statement v (end_of y.token) h))))
  part_statement (g.switch {x = x} {s = inner} e p q) c h =
      let test = passed_goes (apart_test p (end_of x.token) h.2) in
      placed (to (at x) (span_of_statement inner)) c (end_of x.token) h.0 (own x h.1) (join test.part (λ h. part_statement q test.end h))
  part_statement (g.while {x = x} {s = inner} e p q) c h =
      let test = passed_goes (apart_test p (end_of x.token) h.2) in
      placed (to (at x) (span_of_statement inner)) c (end_of x.token) h.0 (own x h.1) (join test.part (λ h. part_statement q test.end h))
  part_statement (g.do_while {x = x} {y = y} {z = z} {mid = mid} {rest = rest} {s = body} e p f q v) c h =
      placed (to (at x) (at z)) c (end_of x.token) h.0 (own x h.1)
      (join (part_statement p (end_of x.token) h.2) (λ h. join (token (span_of_statement body).end y.token (tk mid) h)
      (λ h. let test = passed_goes (apart_test q (end_of y.token) h) in join test.part (λ h. token test.end z.token (tk rest) h))))
  part_statement (g.for {x = x} {y = y} {z = z} {v = close} {ts = ts} {after_test = after_test} {body = body} {s = inner} e f p q k m v u) c h =
      placed (to (at x) (span_of_statement inner)) c (end_of x.token) h.0 (own x h.1)
      (join (token (end_of x.token) y.token (tk ts) h.2) (λ h. let first = passed_goes (apart_start p (end_of y.token) h) in join first.part
      (λ h. let second = passed_goes (apart_optional q first.end h) in join second.part (λ h. join (token second.end z.token (tk after_test) h)
      (λ h. let third = passed_goes (apart_optional m (end_of z.token) h) in join third.part (λ h. join (token third.end close.token (tk body) h)
      (λ h. part_statement u (end_of close.token) h)))))))
  part_statement (g.case_label {x = x} {y = y} {ts = ts} {mid = mid} {a = a} e p f q) c h =
      join (token c x.token (tk ts) h) (λ h. join (passed (as_part a (apart p (end_of x.token) h)))
      (λ h. join (token (span_of a).end y.token (tk mid) h) (λ h. part_statement q (end_of y.token) h)))
  part_statement (g.default {x = x} {y = y} {ts = ts} e f p) c h =
      join (token c x.token (y.token ∷ tk ts) h) (λ h. join (token (end_of x.token) y.token (tk ts) h) (λ h. part_statement p (end_of y.token) h))
  part_statement (g.label {x = x} {y = y} {ts = ts} e f p) c h =
      join (token c x.token (y.token ∷ tk ts) h) (λ h. join (token (end_of x.token) y.token (tk ts) h) (λ h. part_statement p (end_of y.token) h))
  part_statement (g.goto {x = x} {y = y} {z = z} {rest = rest} e f v) c h =
      placed (to (at x) (at z)) c (end_of x.token) h.0 (own x h.1)
      (join (token (end_of x.token) y.token (z.token ∷ tk rest) h.2) (λ h. token (end_of y.token) z.token (tk rest) h))
  part_statement (g.continue {x = x} {y = y} {rest = rest} e f) c h = placed (to (at x) (at y)) c (end_of x.token) h.0 (own x h.1) (token (end_of x.token) y.token (tk rest) h.2)
  part_statement (g.break {x = x} {y = y} {rest = rest} e f) c h = placed (to (at x) (at y)) c (end_of x.token) h.0 (own x h.1) (token (end_of x.token) y.token (tk rest) h.2)
  part_statement (g.return {x = x} {y = y} {rest = rest} e p f) c h =
      let value = passed_goes (apart_optional p (end_of x.token) h.2) in
      placed (to (at x) (at y)) c (end_of x.token) h.0 (own x h.1) (join value.part (λ h. token value.end y.token (tk rest) h))

  part_compound : {d : Dialect} {span : Span} {ts rest : List Lexeme} {b : BlockItems} (p : ReadsCompound d ts b span rest) (c : ℕ) → FollowFrom c (tk ts) → Part c span.end (tk rest) (statement_spans_in_block b)
  part_compound (g.block {x = x} {y = y} {ts = ts} {rest = rest} e p f) c h =
      join (token c x.token (tk ts) h) (λ h. let items = part_block p (end_of x.token) h in join items.part (λ h. token items.end y.token (tk rest) h))

  part_block : {d : Dialect} {ts rest : List Lexeme} {b : BlockItems} (p : ReadsBlockItems d ts b rest) (c : ℕ) → FollowFrom c (tk ts) → Goes c (tk rest) (statement_spans_in_block b)
  part_block (g.block_end {ts = ts} e) c h = some (nothing c (tk ts) h)
  part_block (g.local e p q) c h = chain (passed_goes (apart_declaration p c h)) (λ e h. part_block q e h)
  part_block (g.statement e f p q) c h = chain (some (part_statement p c h)) (λ e h. part_block q e h)

-- ---- items

part_item : {d : Dialect} {ts rest : List Lexeme} {a : Item} (p : ReadsItem d ts a rest) (c : ℕ) → FollowFrom c (tk ts) → Goes c (tk rest) (statement_spans_in_item a)
part_item (i.declared p) c h = passed_goes (apart_declaration p c h)
part_item (i.defined {z = z} {mid = mid} p e q f v u) c h =
    chain (passed_goes (apart_specifiers p c h)) (λ e h. chain (stars_apart q e h) (λ e h. chain (one e z.token (tk mid) h)
    (λ e h. chain (passed_goes (apart_parameters v e h)) (λ e h. some (part_compound u e h)))))

part_unit : {d : Dialect} {ts : List Lexeme} {unit : List Item} (p : ReadsUnit d ts unit) (c : ℕ) → FollowFrom c (tk ts) → From c (statement_spans_in_unit unit)
part_unit i.no_items c h = tt
part_unit (i.item {all = all} p q) c h =
    let first = part_item p c h in
    first.part.goes (statement_spans_in_unit all) (part_unit q first.end first.part.follow)

pub part_text : {d : Dialect} (tokens : List Tok) {unit : List Item} → IsTree d tokens unit → FollowFrom 0 tokens → From 0 (statement_spans_in_unit unit)
part_text tokens p h = part_unit p 0 (subst (FollowFrom 0) (sym (same_tokens tokens)) h)
