-- The places of the expressions in an initializer, a declaration, a statement and an item
-- follow each other: one case for each alternative of a production.
use Rattle.std.proofs.Common.{ℕ, Bool, List, ◌∷◌, Option, sym, ap, subst, ◌∙◌}
use Rattle.mc_span.specs.declared.span.Span.{Span}
use Rattle.mc_lex.specs.declared.token.Dialect.{Dialect}
use Rattle.mc_lex.specs.Tokens.{Tok}
use Rattle.mc_tree.specs.Tree.{Expression, Specifiers, Initializer, Initializers, InitDeclarator, Declaration, ForStart, Statement, BlockItems, Item}
use Rattle.mc_grammar.specs.Words.{Lexeme}
use Rattle.mc_grammar.specs.Statements.{ReadsOptional, ReadsTest, ReadsInitializer, ReadsInitializers, ReadsInitDeclarator, ReadsInitDeclarators, ReadsDeclaration, ReadsForStart, ReadsStatement, ReadsCompound, ReadsBlockItems}
use Rattle.mc_grammar.specs.Statements as g
use Rattle.mc_grammar.specs.Items.{ReadsItem, ReadsUnit, IsTree}
use Rattle.mc_grammar.specs.Items as i
use Rattle.reread_law_texts.specs.alike.Moves.{FollowFrom}
use Rattle.reread_law_texts.proofs.Apart.Ascending.{Goes, From, nothing, some, chain, one, passed_goes}
use Rattle.reread_law_texts.proofs.Apart.ApartExpressions.{stars_apart, apart_specifiers, apart_declarator, apart_parameters}
use Rattle.reread_law_probes.specs.stood.Stands.{stands, stands_in_initializer, stands_in_initializers, stands_in_init_declarator, stands_in_init_declarators, stands_in_declaration, stands_in_optional, stands_in_start, stands_in_statement, stands_in_block, stands_in_item, stands_in_unit}
use Rattle.reread_law_probes.proofs.Stood.Ascents.{as_part}
use Rattle.reread_law_probes.proofs.Stood.StoodExpressions.{stood}
use Rattle.reread_law_texts.proofs.Tokens.{tk, same_tokens, after_tokens}

-- ---- declarations

mutual
  stood_initializer : {d : Dialect} {ts rest : List Lexeme} {a : Initializer} (p : ReadsInitializer d ts a rest) (c : ℕ) → FollowFrom c (tk ts) → Goes c (tk rest) (stands_in_initializer a)
  stood_initializer (g.single {a = a} e p) c h = some (as_part a (stood p c h))
  stood_initializer (g.braced {x = x} {y = y} {ts = ts} {rest = rest} e p f) c h =
      chain (one c x.token (tk ts) h) (λ e h. chain (stood_initializers p e h) (λ e h. one e y.token (tk rest) h))

  stood_initializers : {d : Dialect} {ts rest : List Lexeme} {all : Initializers} (p : ReadsInitializers d ts all rest) (c : ℕ) → FollowFrom c (tk ts) → Goes c (tk rest) (stands_in_initializers all)
  stood_initializers (g.last_initializer {rest = rest} p e) c h = chain (stood_initializer p c h) (λ e h. some (nothing e (tk rest) h))
  stood_initializers (g.last_initializer_comma {x = x} {rest = rest} p e f) c h = chain (stood_initializer p c h) (λ e h. one e x.token (tk rest) h)
  stood_initializers (g.more_initializers {x = x} {mid = mid} p e f q) c h =
      chain (stood_initializer p c h) (λ e h. chain (one e x.token (tk mid) h) (λ e h. stood_initializers q e h))

stood_init_declarator : {d : Dialect} {typedef : Bool} {ts rest : List Lexeme} {a : InitDeclarator} (p : ReadsInitDeclarator d typedef ts a rest) (c : ℕ) → FollowFrom c (tk ts)
    → Goes c (tk rest) (stands_in_init_declarator a)
stood_init_declarator {typedef = typedef} {ts = ts} (g.bare {mid = mid} {d = a} p e) c h =
    subst (λ us. Goes c us (λ ps. ps)) (sym (after_tokens typedef a mid)) (passed_goes (apart_declarator p c h))
stood_init_declarator {typedef = typedef} {ts = ts} (g.initialized {x = x} {mid = mid} {value = value} {d = a} p k e q) c h =
    chain (subst (λ us. Goes c us (λ ps. ps)) (sym (after_tokens typedef a mid) ∙ ap tk k) (passed_goes (apart_declarator p c h)))
    (λ e h. chain (one e x.token (tk value) h) (λ e h. stood_initializer q e h))

stood_init_declarators : {d : Dialect} {typedef : Bool} {ts rest : List Lexeme} {all : List InitDeclarator} (p : ReadsInitDeclarators d typedef ts all rest) (c : ℕ) → FollowFrom c (tk ts)
    → Goes c (tk rest) (stands_in_init_declarators all)
stood_init_declarators (g.no_init_declarator {ts = ts} e) c h = some (nothing c (tk ts) h)
stood_init_declarators (g.last_init_declarator {rest = rest} p e) c h = chain (stood_init_declarator p c h) (λ e h. some (nothing e (tk rest) h))
stood_init_declarators (g.more_init_declarators {x = x} {mid = mid} p e f q) c h =
    chain (stood_init_declarator p c h) (λ e h. chain (one e x.token (tk mid) h) (λ e h. stood_init_declarators q e h))

stood_declaration : {d : Dialect} {typedef : Bool} {allowed : Specifiers → Bool} {ts rest : List Lexeme} {a : Declaration} (p : ReadsDeclaration d typedef allowed ts a rest) (c : ℕ) → FollowFrom c (tk ts)
    → Goes c (tk rest) (stands_in_declaration a)
stood_declaration (g.declaration {y = y} {rest = rest} e p f q v) c h =
    chain (passed_goes (apart_specifiers p c h)) (λ e h. chain (stood_init_declarators q e h) (λ e h. one e y.token (tk rest) h))

-- ---- statements

stood_optional : {d : Dialect} {stop : List ℕ} {ts rest : List Lexeme} {a : Option Expression} (p : ReadsOptional d stop ts a rest) (c : ℕ) → FollowFrom c (tk ts) → Goes c (tk rest) (stands_in_optional a)
stood_optional (g.no_expression {ts = ts} e) c h = some (nothing c (tk ts) h)
stood_optional (g.an_expression {a = a} e p) c h = some (as_part a (stood p c h))

stood_test : {d : Dialect} {ts rest : List Lexeme} {a : Expression} (p : ReadsTest d ts a rest) (c : ℕ) → FollowFrom c (tk ts) → Goes c (tk rest) (stands a)
stood_test (g.test {x = x} {y = y} {ts = ts} {rest = rest} {a = a} e p f) c h =
    chain (one c x.token (tk ts) h) (λ e h. chain (some (as_part a (stood p e h))) (λ e h. one e y.token (tk rest) h))

stood_start : {d : Dialect} {ts rest : List Lexeme} {start : ForStart} (p : ReadsForStart d ts start rest) (c : ℕ) → FollowFrom c (tk ts) → Goes c (tk rest) (stands_in_start start)
stood_start (g.starts_local p) c h = stood_declaration p c h
stood_start (g.starts_expression {y = y} {rest = rest} e p f) c h = chain (stood_optional p c h) (λ e h. one e y.token (tk rest) h)

mutual
  stood_statement : {d : Dialect} {ts rest : List Lexeme} {a : Statement} (p : ReadsStatement d ts a rest) (c : ℕ) → FollowFrom c (tk ts) → Goes c (tk rest) (stands_in_statement a)
  stood_statement (g.compound p) c h = stood_compound p c h
  stood_statement (g.null {y = y} {rest = rest} e) c h = one c y.token (tk rest) h
  stood_statement (g.expression_statement {y = y} {rest = rest} {a = a} e f p v) c h = chain (some (as_part a (stood p c h))) (λ e h. one e y.token (tk rest) h)
  stood_statement (g.if_only {x = x} {ts = ts} e p q f) c h =
      chain (one c x.token (tk ts) h) (λ e h. chain (stood_test p e h) (λ e h. stood_statement q e h))
  stood_statement (g.if_else {x = x} {y = y} {ts = ts} {other = other} e p q f v) c h =
      chain (one c x.token (tk ts) h) (λ e h. chain (stood_test p e h) (λ e h. chain (stood_statement q e h)
      (λ e h. chain (one e y.token (tk other) h) (λ e h. stood_statement v e h))))
  stood_statement (g.switch {x = x} {ts = ts} e p q) c h =
      chain (one c x.token (tk ts) h) (λ e h. chain (stood_test p e h) (λ e h. stood_statement q e h))
  stood_statement (g.while {x = x} {ts = ts} e p q) c h =
      chain (one c x.token (tk ts) h) (λ e h. chain (stood_test p e h) (λ e h. stood_statement q e h))
  stood_statement (g.do_while {x = x} {y = y} {z = z} {ts = ts} {mid = mid} {rest = rest} e p f q v) c h =
      chain (one c x.token (tk ts) h) (λ e h. chain (stood_statement p e h) (λ e h. chain (one e y.token (tk mid) h)
      (λ e h. chain (stood_test q e h) (λ e h. one e z.token (tk rest) h))))
  stood_statement (g.for {x = x} {y = y} {z = z} {v = close} {ts = ts} {after_test = after_test} {body = body} e f p q k m v u) c h =
      chain (one c x.token (y.token ∷ tk ts) h) (λ e h. chain (one e y.token (tk ts) h) (λ e h. chain (stood_start p e h)
      (λ e h. chain (stood_optional q e h) (λ e h. chain (one e z.token (tk after_test) h)
      (λ e h. chain (stood_optional m e h) (λ e h. chain (one e close.token (tk body) h) (λ e h. stood_statement u e h)))))))
  stood_statement (g.case_label {x = x} {y = y} {ts = ts} {mid = mid} {a = a} e p f q) c h =
      chain (one c x.token (tk ts) h) (λ e h. chain (some (as_part a (stood p e h))) (λ e h. chain (one e y.token (tk mid) h) (λ e h. stood_statement q e h)))
  stood_statement (g.default {x = x} {y = y} {ts = ts} e f p) c h =
      chain (one c x.token (y.token ∷ tk ts) h) (λ e h. chain (one e y.token (tk ts) h) (λ e h. stood_statement p e h))
  stood_statement (g.label {x = x} {y = y} {ts = ts} e f p) c h =
      chain (one c x.token (y.token ∷ tk ts) h) (λ e h. chain (one e y.token (tk ts) h) (λ e h. stood_statement p e h))
  stood_statement (g.goto {x = x} {y = y} {z = z} {rest = rest} e f v) c h =
      chain (one c x.token (y.token ∷ z.token ∷ tk rest) h) (λ e h. chain (one e y.token (z.token ∷ tk rest) h) (λ e h. one e z.token (tk rest) h))
  stood_statement (g.continue {x = x} {y = y} {rest = rest} e f) c h = chain (one c x.token (y.token ∷ tk rest) h) (λ e h. one e y.token (tk rest) h)
  stood_statement (g.break {x = x} {y = y} {rest = rest} e f) c h = chain (one c x.token (y.token ∷ tk rest) h) (λ e h. one e y.token (tk rest) h)
  stood_statement (g.return {x = x} {y = y} {ts = ts} {rest = rest} e p f) c h =
      chain (one c x.token (tk ts) h) (λ e h. chain (stood_optional p e h) (λ e h. one e y.token (tk rest) h))

  stood_compound : {d : Dialect} {span : Span} {ts rest : List Lexeme} {b : BlockItems} (p : ReadsCompound d ts b span rest) (c : ℕ) → FollowFrom c (tk ts) → Goes c (tk rest) (stands_in_block b)
  stood_compound (g.block {x = x} {y = y} {ts = ts} {rest = rest} e p f) c h =
      chain (one c x.token (tk ts) h) (λ e h. chain (stood_block p e h) (λ e h. one e y.token (tk rest) h))

  stood_block : {d : Dialect} {ts rest : List Lexeme} {b : BlockItems} (p : ReadsBlockItems d ts b rest) (c : ℕ) → FollowFrom c (tk ts) → Goes c (tk rest) (stands_in_block b)
  stood_block (g.block_end {ts = ts} e) c h = some (nothing c (tk ts) h)
  stood_block (g.local e p q) c h = chain (stood_declaration p c h) (λ e h. stood_block q e h)
  stood_block (g.statement e f p q) c h = chain (stood_statement p c h) (λ e h. stood_block q e h)

-- ---- items

stood_item : {d : Dialect} {ts rest : List Lexeme} {a : Item} (p : ReadsItem d ts a rest) (c : ℕ) → FollowFrom c (tk ts) → Goes c (tk rest) (stands_in_item a)
stood_item (i.declared p) c h = stood_declaration p c h
stood_item (i.defined {z = z} {mid = mid} p e q f v u) c h =
    chain (passed_goes (apart_specifiers p c h)) (λ e h. chain (stars_apart q e h) (λ e h. chain (one e z.token (tk mid) h) (λ e h. chain (passed_goes (apart_parameters v e h)) (λ e h. stood_compound u e h))))

stood_unit : {d : Dialect} {ts : List Lexeme} {unit : List Item} (p : ReadsUnit d ts unit) (c : ℕ) → FollowFrom c (tk ts) → From c (stands_in_unit unit)
stood_unit i.no_items c h = tt
stood_unit (i.item {all = all} p q) c h =
    let first = stood_item p c h in
    first.part.goes (stands_in_unit all) (stood_unit q first.end first.part.follow)

pub stood_text : {d : Dialect} (tokens : List Tok) {unit : List Item} → IsTree d tokens unit → FollowFrom 0 tokens → From 0 (stands_in_unit unit)
stood_text tokens p h = stood_unit p 0 (subst (FollowFrom 0) (sym (same_tokens tokens)) h)
