-- The places of the expressions in an initializer, a declaration, a statement and an item follow each
-- other: one case for each alternative of a production.
use Rattle.std.proofs.Common.{ℕ, Bool, List, ◌∷◌, Option, sym, ap, subst, ◌∙◌}
use Rattle.mc_span.specs.declared.span.Span.{Span}
use Rattle.mc_lex.specs.declared.token.Dialect.{Dialect}
use Rattle.mc_lex.specs.Tokens.{Tok}
use Rattle.mc_tree.specs.Tree.{Expression, Specifiers, Initializer, Initializers, InitDeclarator, Declaration, ForStart, Statement, BlockItems, Item}
use Rattle.mc_grammar.specs.Words.{Lexeme}
use Rattle.mc_grammar.specs.Statements.{ReadsOptional, ReadsTest, ReadsInitializer, ReadsInitializers, ReadsInitDeclarator, ReadsInitDeclarators, ReadsDeclaration, ReadsForStart, ReadsStatement, ReadsCompound, ReadsBlockItems}
use Rattle.mc_grammar.specs.Statements as g
use Rattle.mc_grammar.specs.Items.{ReadsItem, ReadsUnit, IsTree}
use Rattle.mc_grammar.specs.Items as i
use Rattle.reread_law_texts.specs.alike.Moves.{FollowFrom}
use Rattle.reread_law_texts.specs.apart.Places.{spans, spans_in_declarator, spans_in_initializer, spans_in_initializers, spans_in_init_declarator, spans_in_init_declarators, spans_in_declaration, spans_in_optional, spans_in_start, spans_in_statement, spans_in_block, spans_in_item, spans_in_unit}
use Rattle.reread_law_texts.proofs.Apart.Ascending.{Goes, From, nothing, some, chain, one, as_part}
use Rattle.reread_law_texts.proofs.Apart.ApartExpressions.{stars_apart, apart, apart_specifiers, apart_declarator, apart_parameters}
use Rattle.reread_law_texts.proofs.Tokens.{tk, same_tokens, after_tokens}

-- ---- declarations

mutual
  pub apart_initializer : {d : Dialect} {ts rest : List Lexeme} {a : Initializer} (p : ReadsInitializer d ts a rest) (c : ℕ) → FollowFrom c (tk ts) → Goes c (tk rest) (spans_in_initializer a)
  apart_initializer (g.single {a = a} e p) c h = some (as_part a (apart p c h))
  apart_initializer (g.braced {x = x} {y = y} {ts = ts} {rest = rest} e p f) c h =
      chain (one c x.token (tk ts) h) (λ e h. chain (apart_initializers p e h) (λ e h. one e y.token (tk rest) h))

  apart_initializers : {d : Dialect} {ts rest : List Lexeme} {all : Initializers} (p : ReadsInitializers d ts all rest) (c : ℕ) → FollowFrom c (tk ts) → Goes c (tk rest) (spans_in_initializers all)
  apart_initializers (g.last_initializer {rest = rest} p e) c h = chain (apart_initializer p c h) (λ e h. some (nothing e (tk rest) h))
  apart_initializers (g.last_initializer_comma {x = x} {rest = rest} p e f) c h = chain (apart_initializer p c h) (λ e h. one e x.token (tk rest) h)
  apart_initializers (g.more_initializers {x = x} {mid = mid} p e f q) c h =
      chain (apart_initializer p c h) (λ e h. chain (one e x.token (tk mid) h) (λ e h. apart_initializers q e h))

pub apart_init_declarator : {d : Dialect} {typedef : Bool} {ts rest : List Lexeme} {a : InitDeclarator} (p : ReadsInitDeclarator d typedef ts a rest) (c : ℕ) → FollowFrom c (tk ts)
    → Goes c (tk rest) (spans_in_init_declarator a)
apart_init_declarator {typedef = typedef} {ts = ts} (g.bare {mid = mid} {d = a} p e) c h =
    subst (λ us. Goes c us (spans_in_declarator a)) (sym (after_tokens typedef a mid)) (apart_declarator p c h)
apart_init_declarator {typedef = typedef} {ts = ts} (g.initialized {x = x} {mid = mid} {value = value} {d = a} p k e q) c h =
    chain (subst (λ us. Goes c us (spans_in_declarator a)) (sym (after_tokens typedef a mid) ∙ ap tk k) (apart_declarator p c h))
    (λ e h. chain (one e x.token (tk value) h) (λ e h. apart_initializer q e h))

apart_init_declarators : {d : Dialect} {typedef : Bool} {ts rest : List Lexeme} {all : List InitDeclarator} (p : ReadsInitDeclarators d typedef ts all rest) (c : ℕ) → FollowFrom c (tk ts)
    → Goes c (tk rest) (spans_in_init_declarators all)
apart_init_declarators (g.no_init_declarator {ts = ts} e) c h = some (nothing c (tk ts) h)
apart_init_declarators (g.last_init_declarator {rest = rest} p e) c h = chain (apart_init_declarator p c h) (λ e h. some (nothing e (tk rest) h))
apart_init_declarators (g.more_init_declarators {x = x} {mid = mid} p e f q) c h =
    chain (apart_init_declarator p c h) (λ e h. chain (one e x.token (tk mid) h) (λ e h. apart_init_declarators q e h))

pub apart_declaration : {d : Dialect} {typedef : Bool} {allowed : Specifiers → Bool} {ts rest : List Lexeme} {a : Declaration} (p : ReadsDeclaration d typedef allowed ts a rest) (c : ℕ) → FollowFrom c (tk ts)
    → Goes c (tk rest) (spans_in_declaration a)
apart_declaration (g.declaration {y = y} {rest = rest} e p f q v) c h =
    chain (apart_specifiers p c h) (λ e h. chain (apart_init_declarators q e h) (λ e h. one e y.token (tk rest) h))

-- ---- statements

pub apart_optional : {d : Dialect} {stop : List ℕ} {ts rest : List Lexeme} {a : Option Expression} (p : ReadsOptional d stop ts a rest) (c : ℕ) → FollowFrom c (tk ts) → Goes c (tk rest) (spans_in_optional a)
apart_optional (g.no_expression {ts = ts} e) c h = some (nothing c (tk ts) h)
apart_optional (g.an_expression {a = a} e p) c h = some (as_part a (apart p c h))

pub apart_test : {d : Dialect} {ts rest : List Lexeme} {a : Expression} (p : ReadsTest d ts a rest) (c : ℕ) → FollowFrom c (tk ts) → Goes c (tk rest) (spans a)
apart_test (g.test {x = x} {y = y} {ts = ts} {rest = rest} {a = a} e p f) c h =
    chain (one c x.token (tk ts) h) (λ e h. chain (some (as_part a (apart p e h))) (λ e h. one e y.token (tk rest) h))

pub apart_start : {d : Dialect} {ts rest : List Lexeme} {start : ForStart} (p : ReadsForStart d ts start rest) (c : ℕ) → FollowFrom c (tk ts) → Goes c (tk rest) (spans_in_start start)
apart_start (g.starts_local p) c h = apart_declaration p c h
apart_start (g.starts_expression {y = y} {rest = rest} e p f) c h = chain (apart_optional p c h) (λ e h. one e y.token (tk rest) h)

mutual
  pub apart_statement : {d : Dialect} {ts rest : List Lexeme} {a : Statement} (p : ReadsStatement d ts a rest) (c : ℕ) → FollowFrom c (tk ts) → Goes c (tk rest) (spans_in_statement a)
  apart_statement (g.compound p) c h = apart_compound p c h
  apart_statement (g.null {y = y} {rest = rest} e) c h = one c y.token (tk rest) h
  apart_statement (g.expression_statement {y = y} {rest = rest} {a = a} e f p v) c h = chain (some (as_part a (apart p c h))) (λ e h. one e y.token (tk rest) h)
  apart_statement (g.if_only {x = x} {ts = ts} e p q f) c h =
      chain (one c x.token (tk ts) h) (λ e h. chain (apart_test p e h) (λ e h. apart_statement q e h))
  apart_statement (g.if_else {x = x} {y = y} {ts = ts} {other = other} e p q f v) c h =
      chain (one c x.token (tk ts) h) (λ e h. chain (apart_test p e h) (λ e h. chain (apart_statement q e h)
      (λ e h. chain (one e y.token (tk other) h) (λ e h. apart_statement v e h))))
  apart_statement (g.switch {x = x} {ts = ts} e p q) c h =
      chain (one c x.token (tk ts) h) (λ e h. chain (apart_test p e h) (λ e h. apart_statement q e h))
  apart_statement (g.while {x = x} {ts = ts} e p q) c h =
      chain (one c x.token (tk ts) h) (λ e h. chain (apart_test p e h) (λ e h. apart_statement q e h))
  apart_statement (g.do_while {x = x} {y = y} {z = z} {ts = ts} {mid = mid} {rest = rest} e p f q v) c h =
      chain (one c x.token (tk ts) h) (λ e h. chain (apart_statement p e h) (λ e h. chain (one e y.token (tk mid) h)
      (λ e h. chain (apart_test q e h) (λ e h. one e z.token (tk rest) h))))
  apart_statement (g.for {x = x} {y = y} {z = z} {v = close} {ts = ts} {after_test = after_test} {body = body} e f p q k m v u) c h =
      chain (one c x.token (y.token ∷ tk ts) h) (λ e h. chain (one e y.token (tk ts) h) (λ e h. chain (apart_start p e h)
      (λ e h. chain (apart_optional q e h) (λ e h. chain (one e z.token (tk after_test) h)
      (λ e h. chain (apart_optional m e h) (λ e h. chain (one e close.token (tk body) h) (λ e h. apart_statement u e h)))))))
  apart_statement (g.case_label {x = x} {y = y} {ts = ts} {mid = mid} {a = a} e p f q) c h =
      chain (one c x.token (tk ts) h) (λ e h. chain (some (as_part a (apart p e h))) (λ e h. chain (one e y.token (tk mid) h) (λ e h. apart_statement q e h)))
  apart_statement (g.default {x = x} {y = y} {ts = ts} e f p) c h =
      chain (one c x.token (y.token ∷ tk ts) h) (λ e h. chain (one e y.token (tk ts) h) (λ e h. apart_statement p e h))
  apart_statement (g.label {x = x} {y = y} {ts = ts} e f p) c h =
      chain (one c x.token (y.token ∷ tk ts) h) (λ e h. chain (one e y.token (tk ts) h) (λ e h. apart_statement p e h))
  apart_statement (g.goto {x = x} {y = y} {z = z} {rest = rest} e f v) c h =
      chain (one c x.token (y.token ∷ z.token ∷ tk rest) h) (λ e h. chain (one e y.token (z.token ∷ tk rest) h) (λ e h. one e z.token (tk rest) h))
  apart_statement (g.continue {x = x} {y = y} {rest = rest} e f) c h = chain (one c x.token (y.token ∷ tk rest) h) (λ e h. one e y.token (tk rest) h)
  apart_statement (g.break {x = x} {y = y} {rest = rest} e f) c h = chain (one c x.token (y.token ∷ tk rest) h) (λ e h. one e y.token (tk rest) h)
  apart_statement (g.return {x = x} {y = y} {ts = ts} {rest = rest} e p f) c h =
      chain (one c x.token (tk ts) h) (λ e h. chain (apart_optional p e h) (λ e h. one e y.token (tk rest) h))

  apart_compound : {d : Dialect} {span : Span} {ts rest : List Lexeme} {b : BlockItems} (p : ReadsCompound d ts b span rest) (c : ℕ) → FollowFrom c (tk ts) → Goes c (tk rest) (spans_in_block b)
  apart_compound (g.block {x = x} {y = y} {ts = ts} {rest = rest} e p f) c h =
      chain (one c x.token (tk ts) h) (λ e h. chain (apart_block p e h) (λ e h. one e y.token (tk rest) h))

  apart_block : {d : Dialect} {ts rest : List Lexeme} {b : BlockItems} (p : ReadsBlockItems d ts b rest) (c : ℕ) → FollowFrom c (tk ts) → Goes c (tk rest) (spans_in_block b)
  apart_block (g.block_end {ts = ts} e) c h = some (nothing c (tk ts) h)
  apart_block (g.local e p q) c h = chain (apart_declaration p c h) (λ e h. apart_block q e h)
  apart_block (g.statement e f p q) c h = chain (apart_statement p c h) (λ e h. apart_block q e h)

-- ---- items

pub apart_item : {d : Dialect} {ts rest : List Lexeme} {a : Item} (p : ReadsItem d ts a rest) (c : ℕ) → FollowFrom c (tk ts) → Goes c (tk rest) (spans_in_item a)
apart_item (i.declared p) c h = apart_declaration p c h
apart_item (i.defined {z = z} {mid = mid} p e q f v u) c h =
    chain (apart_specifiers p c h) (λ e h. chain (stars_apart q e h) (λ e h. chain (one e z.token (tk mid) h) (λ e h. chain (apart_parameters v e h) (λ e h. apart_compound u e h))))

apart_unit : {d : Dialect} {ts : List Lexeme} {unit : List Item} (p : ReadsUnit d ts unit) (c : ℕ) → FollowFrom c (tk ts) → From c (spans_in_unit unit)
apart_unit i.no_items c h = tt
apart_unit (i.item {all = all} p q) c h =
    let first = apart_item p c h in
    first.part.goes (spans_in_unit all) (apart_unit q first.end first.part.follow)

pub apart_text : {d : Dialect} (tokens : List Tok) {unit : List Item} → IsTree d tokens unit → FollowFrom 0 tokens → From 0 (spans_in_unit unit)
apart_text tokens p h = apart_unit p 0 (subst (FollowFrom 0) (sym (same_tokens tokens)) h)
