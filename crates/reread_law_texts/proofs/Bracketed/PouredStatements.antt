-- The brackets of an initializer, a declaration, a statement and an item, put by their places: one
-- case for each alternative of a production.
use Rattle.std.proofs.Common.{◌≡◌, ℕ, Bool, List, ◌∷◌, Option, refl, sym, ap, subst, ◌∙◌}
use Rattle.mc_span.specs.declared.span.Span.{Span}
use Rattle.mc_lex.specs.declared.token.Dialect.{Dialect}
use Rattle.mc_lex.specs.Tokens.{Tok}
use Rattle.mc_tree.specs.Tree.{Expression, Specifiers, Initializer, Initializers, InitDeclarator, Declaration, ForStart, Statement, BlockItems, Item, span_of, span_of_statement}
use Rattle.mc_grammar.specs.Words.{Lexeme, lexemes_of}
use Rattle.mc_grammar.specs.Places.{at, to}
use Rattle.mc_grammar.specs.Statements.{ReadsOptional, ReadsTest, ReadsInitializer, ReadsInitializers, ReadsInitDeclarator, ReadsInitDeclarators, ReadsDeclaration, ReadsForStart, ReadsStatement, ReadsCompound, ReadsBlockItems}
use Rattle.mc_grammar.specs.Statements as g
use Rattle.mc_grammar.specs.Items.{ReadsItem, ReadsUnit, IsTree}
use Rattle.mc_grammar.specs.Items as i
use Rattle.mc_grammar.proofs.Extent.{stands}
use Rattle.reread_law_texts.specs.weave.Brackets.{Brackets, AreAfterTokens, copy, run}
use Rattle.reread_law_texts.specs.weave.Trees.{bracketed_unit}
use Rattle.reread_law_texts.specs.weave.Weaving.{none, in_expression, in_declarator, in_initializer, in_initializers, in_init_declarator, in_init_declarators, in_declaration, in_optional, in_test, in_for_start, in_statement, in_compound, in_block_items, in_item, in_unit}
use Rattle.reread_law_texts.proofs.Weave.WovenStatements.{weave_unit}
use Rattle.reread_law_texts.specs.alike.Moves.{FollowFrom, end_of}
use Rattle.reread_law_texts.specs.brackets.Signs.{poured, signs, signs_in_declarator, signs_in_initializer, signs_in_initializers, signs_in_init_declarator, signs_in_init_declarators, signs_in_declaration, signs_in_optional, signs_in_start, signs_in_statement, signs_in_block, signs_in_item, signs_in_unit}
use Rattle.reread_law_texts.proofs.Bracketed.Pour.{run_tokens, run_lexemes, Late, Part, Goes, nothing, token, join, some, chain, one, brace, placed, onward, begun}
use Rattle.reread_law_texts.proofs.Bracketed.PouredExpressions.{stars_pour, pour, pour_specifiers, pour_declarator, pour_parameters}
use Rattle.reread_law_texts.proofs.Tokens.{tk, same_tokens, after_tokens}

-- ---- declarations

mutual
  pour_initializer : {d : Dialect} (w : Brackets) {ts rest : List Lexeme} {a : Initializer} (p : ReadsInitializer d ts a rest) (c : ℕ) → FollowFrom c (tk ts) → Goes c (tk ts) (tk rest) (in_initializer w p) (signs_in_initializer w a)
  pour_initializer w (g.single e p) c h = some (pour w p c h)
  pour_initializer w (g.braced {x = x} {y = y} {ts = ts} {rest = rest} e p f) c h =
      chain (one c x.token (tk ts) h) (λ e h. chain (pour_initializers w p e h) (λ e h. one e y.token (tk rest) h))

  pour_initializers : {d : Dialect} (w : Brackets) {ts rest : List Lexeme} {all : Initializers} (p : ReadsInitializers d ts all rest) (c : ℕ) → FollowFrom c (tk ts) → Goes c (tk ts) (tk rest) (in_initializers w p) (signs_in_initializers w all)
  pour_initializers w (g.last_initializer {rest = rest} p e) c h = chain (pour_initializer w p c h) (λ e h. some (nothing e (tk rest) h))
  pour_initializers w (g.last_initializer_comma {x = x} {rest = rest} p e f) c h = chain (pour_initializer w p c h) (λ e h. one e x.token (tk rest) h)
  pour_initializers w (g.more_initializers {x = x} {mid = mid} p e f q) c h =
      chain (pour_initializer w p c h) (λ e h. chain (one e x.token (tk mid) h) (λ e h. pour_initializers w q e h))

pour_init_declarator : {d : Dialect} (w : Brackets) {typedef : Bool} {ts rest : List Lexeme} {a : InitDeclarator} (p : ReadsInitDeclarator d typedef ts a rest) (c : ℕ) → FollowFrom c (tk ts)
    → Goes c (tk ts) (tk rest) (in_init_declarator w p) (signs_in_init_declarator w a)
pour_init_declarator w {typedef = typedef} {ts = ts} (g.bare {mid = mid} {d = a} p e) c h =
    subst (λ us. Goes c (tk ts) us (in_declarator w p) (signs_in_declarator w a)) (sym (after_tokens typedef a mid)) (pour_declarator w p c h)
pour_init_declarator w {typedef = typedef} {ts = ts} (g.initialized {x = x} {mid = mid} {value = value} {d = a} p k e q) c h =
    chain (subst (λ us. Goes c (tk ts) us (in_declarator w p) (signs_in_declarator w a)) (sym (after_tokens typedef a mid) ∙ ap tk k) (pour_declarator w p c h))
    (λ e h. chain (one e x.token (tk value) h) (λ e h. pour_initializer w q e h))

pour_init_declarators : {d : Dialect} (w : Brackets) {typedef : Bool} {ts rest : List Lexeme} {all : List InitDeclarator} (p : ReadsInitDeclarators d typedef ts all rest) (c : ℕ) → FollowFrom c (tk ts)
    → Goes c (tk ts) (tk rest) (in_init_declarators w p) (signs_in_init_declarators w all)
pour_init_declarators w (g.no_init_declarator {ts = ts} e) c h = some (nothing c (tk ts) h)
pour_init_declarators w (g.last_init_declarator {rest = rest} p e) c h = chain (pour_init_declarator w p c h) (λ e h. some (nothing e (tk rest) h))
pour_init_declarators w (g.more_init_declarators {x = x} {mid = mid} p e f q) c h =
    chain (pour_init_declarator w p c h) (λ e h. chain (one e x.token (tk mid) h) (λ e h. pour_init_declarators w q e h))

pour_declaration : {d : Dialect} (w : Brackets) {typedef : Bool} {allowed : Specifiers → Bool} {ts rest : List Lexeme} {a : Declaration} (p : ReadsDeclaration d typedef allowed ts a rest) (c : ℕ) → FollowFrom c (tk ts)
    → Goes c (tk ts) (tk rest) (in_declaration w p) (signs_in_declaration w a)
pour_declaration w (g.declaration {y = y} {rest = rest} e p f q v) c h =
    chain (pour_specifiers w p c h) (λ e h. chain (pour_init_declarators w q e h) (λ e h. one e y.token (tk rest) h))

-- ---- statements

pour_optional : {d : Dialect} (w : Brackets) {stop : List ℕ} {ts rest : List Lexeme} {a : Option Expression} (p : ReadsOptional d stop ts a rest) (c : ℕ) → FollowFrom c (tk ts) → Goes c (tk ts) (tk rest) (in_optional w p) (signs_in_optional w a)
pour_optional w (g.no_expression {ts = ts} e) c h = some (nothing c (tk ts) h)
pour_optional w (g.an_expression e p) c h = some (pour w p c h)

pour_test : {d : Dialect} (w : Brackets) {ts rest : List Lexeme} {a : Expression} (p : ReadsTest d ts a rest) (c : ℕ) → FollowFrom c (tk ts) → Goes c (tk ts) (tk rest) (in_test w p) (signs w a)
pour_test w (g.test {x = x} {y = y} {ts = ts} {rest = rest} e p f) c h =
    chain (one c x.token (tk ts) h) (λ e h. chain (some (pour w p e h)) (λ e h. one e y.token (tk rest) h))

pour_start : {d : Dialect} (w : Brackets) {ts rest : List Lexeme} {start : ForStart} (p : ReadsForStart d ts start rest) (c : ℕ) → FollowFrom c (tk ts) → Goes c (tk ts) (tk rest) (in_for_start w p) (signs_in_start w start)
pour_start w (g.starts_local p) c h = pour_declaration w p c h
pour_start w (g.starts_expression {y = y} {rest = rest} e p f) c h = chain (pour_optional w p c h) (λ e h. one e y.token (tk rest) h)

mutual
  pour_statement : {d : Dialect} (w : Brackets) {ts rest : List Lexeme} {a : Statement} (p : ReadsStatement d ts a rest) (c : ℕ) → FollowFrom c (tk ts) → Part c (span_of_statement a).end (tk ts) (tk rest) (in_statement w p) (signs_in_statement w a)
  pour_statement w (g.compound p) c h = pour_compound w p c h
  pour_statement w (g.null {y = y} {rest = rest} e) c h =
      let whole = token c y.token (tk rest) h in
      brace w (at y) c (y.token ∷ tk rest) (tk rest) (λ z. copy ∷ z) (λ ps. ps) (begun c y (at y) (tk rest) (tk rest) h whole.follow) whole
  pour_statement w (g.expression_statement {y = y} {ts = ts} {rest = rest} {a = a} e f p v) c h =
      let whole = join (pour w p c h) (λ h. token (span_of a).end y.token (tk rest) h) in
      brace w (to (span_of a) (at y)) c (tk ts) (tk rest) (λ z. in_expression w p none (copy ∷ z)) (signs w a)
      (onward (at y) (placed c (span_of a) ts (y ∷ rest) (stands refl p) h) whole.follow) whole
  pour_statement w (g.if_only {x = x} {ts = ts} {rest = rest} {a = a} {s = inner} e p q f) c h =
      let whole = join (token c x.token (tk ts) h) (λ h. let test = pour_test w p (end_of x.token) h in join test.part (λ h. pour_statement w q test.end h)) in
      brace w (to (at x) (span_of_statement inner)) c (x.token ∷ tk ts) (tk rest) (λ z. copy ∷ in_test w p (in_statement w q z)) (λ ps. signs w a (signs_in_statement w inner ps))
      (begun c x (span_of_statement inner) (tk ts) (tk rest) h whole.follow) whole
  pour_statement w (g.if_else {x = x} {y = y} {ts = ts} {other = other} {rest = rest} {a = a} {s = first} {u = second} e p q f v) c h =
      let whole = join (token c x.token (tk ts) h) (λ h. let test = pour_test w p (end_of x.token) h in join test.part (λ h. join (pour_statement w q test.end h)
      (λ h. join (token (span_of_statement first).end y.token (tk other) h) (λ h. pour_statement w v (end_of y.token) h)))) in
      brace w (to (at x) (span_of_statement second)) c (x.token ∷ tk ts) (tk rest) (λ z. copy ∷ in_test w p (in_statement w q (copy ∷ in_statement w v z)))
      (λ ps. signs w a (signs_in_statement w first (signs_in_statement w second ps))) (begun c x (span_of_statement second) (tk ts) (tk rest) h whole.follow) whole
  pour_statement w (g.switch {x = x} {ts = ts} {rest = rest} {a = a} {s = inner} e p q) c h =
      let whole = join (token c x.token (tk ts) h) (λ h. let test = pour_test w p (end_of x.token) h in join test.part (λ h. pour_statement w q test.end h)) in
      brace w (to (at x) (span_of_statement inner)) c (x.token ∷ tk ts) (tk rest) (λ z. copy ∷ in_test w p (in_statement w q z)) (λ ps. signs w a (signs_in_statement w inner ps))
      (begun c x (span_of_statement inner) (tk ts) (tk rest) h whole.follow) whole
  pour_statement w (g.while {x = x} {ts = ts} {rest = rest} {a = a} {s = inner} e p q) c h =
      let whole = join (token c x.token (tk ts) h) (λ h. let test = pour_test w p (end_of x.token) h in join test.part (λ h. pour_statement w q test.end h)) in
      brace w (to (at x) (span_of_statement inner)) c (x.token ∷ tk ts) (tk rest) (λ z. copy ∷ in_test w p (in_statement w q z)) (λ ps. signs w a (signs_in_statement w inner ps))
      (begun c x (span_of_statement inner) (tk ts) (tk rest) h whole.follow) whole
  pour_statement w (g.do_while {x = x} {y = y} {z = z} {ts = ts} {mid = mid} {rest = rest} {a = a} {s = body} e p f q v) c h =
      let whole = join (token c x.token (tk ts) h) (λ h. join (pour_statement w p (end_of x.token) h) (λ h. join (token (span_of_statement body).end y.token (tk mid) h)
      (λ h. let test = pour_test w q (end_of y.token) h in join test.part (λ h. token test.end z.token (tk rest) h)))) in
      brace w (to (at x) (at z)) c (x.token ∷ tk ts) (tk rest) (λ s. copy ∷ in_statement w p (copy ∷ in_test w q (copy ∷ s))) (λ ps. signs_in_statement w body (signs w a ps))
      (begun c x (at z) (tk ts) (tk rest) h whole.follow) whole
  pour_statement w (g.for {x = x} {y = y} {z = z} {v = close} {ts = ts} {after_test = after_test} {body = body} {rest = rest} {start = start} {a = a} {b = b} {s = inner} e f p q k m v u) c h =
      let whole = join (token c x.token (y.token ∷ tk ts) h) (λ h. join (token (end_of x.token) y.token (tk ts) h) (λ h. let first = pour_start w p (end_of y.token) h in join first.part
      (λ h. let second = pour_optional w q first.end h in join second.part (λ h. join (token second.end z.token (tk after_test) h)
      (λ h. let third = pour_optional w m (end_of z.token) h in join third.part (λ h. join (token third.end close.token (tk body) h)
      (λ h. pour_statement w u (end_of close.token) h))))))) in
      brace w (to (at x) (span_of_statement inner)) c (x.token ∷ y.token ∷ tk ts) (tk rest)
      (λ s. copy ∷ copy ∷ in_for_start w p (in_optional w q (copy ∷ in_optional w m (copy ∷ in_statement w u s))))
      (λ ps. signs_in_start w start (signs_in_optional w a (signs_in_optional w b (signs_in_statement w inner ps))))
      (begun c x (span_of_statement inner) (y.token ∷ tk ts) (tk rest) h whole.follow) whole
  pour_statement w (g.case_label {x = x} {y = y} {ts = ts} {mid = mid} {a = a} e p f q) c h =
      join (token c x.token (tk ts) h) (λ h. join (pour w p (end_of x.token) h) (λ h. join (token (span_of a).end y.token (tk mid) h) (λ h. pour_statement w q (end_of y.token) h)))
  pour_statement w (g.default {x = x} {y = y} {ts = ts} e f p) c h =
      join (token c x.token (y.token ∷ tk ts) h) (λ h. join (token (end_of x.token) y.token (tk ts) h) (λ h. pour_statement w p (end_of y.token) h))
  pour_statement w (g.label {x = x} {y = y} {ts = ts} e f p) c h =
      join (token c x.token (y.token ∷ tk ts) h) (λ h. join (token (end_of x.token) y.token (tk ts) h) (λ h. pour_statement w p (end_of y.token) h))
  pour_statement w (g.goto {x = x} {y = y} {z = z} {rest = rest} e f v) c h =
      let whole = join (token c x.token (y.token ∷ z.token ∷ tk rest) h) (λ h. join (token (end_of x.token) y.token (z.token ∷ tk rest) h) (λ h. token (end_of y.token) z.token (tk rest) h)) in
      brace w (to (at x) (at z)) c (x.token ∷ y.token ∷ z.token ∷ tk rest) (tk rest) (λ s. copy ∷ copy ∷ copy ∷ s) (λ ps. ps)
      (begun c x (at z) (y.token ∷ z.token ∷ tk rest) (tk rest) h whole.follow) whole
  pour_statement w (g.continue {x = x} {y = y} {rest = rest} e f) c h =
      let whole = join (token c x.token (y.token ∷ tk rest) h) (λ h. token (end_of x.token) y.token (tk rest) h) in
      brace w (to (at x) (at y)) c (x.token ∷ y.token ∷ tk rest) (tk rest) (λ s. copy ∷ copy ∷ s) (λ ps. ps) (begun c x (at y) (y.token ∷ tk rest) (tk rest) h whole.follow) whole
  pour_statement w (g.break {x = x} {y = y} {rest = rest} e f) c h =
      let whole = join (token c x.token (y.token ∷ tk rest) h) (λ h. token (end_of x.token) y.token (tk rest) h) in
      brace w (to (at x) (at y)) c (x.token ∷ y.token ∷ tk rest) (tk rest) (λ s. copy ∷ copy ∷ s) (λ ps. ps) (begun c x (at y) (y.token ∷ tk rest) (tk rest) h whole.follow) whole
  pour_statement w (g.return {x = x} {y = y} {ts = ts} {rest = rest} {a = a} e p f) c h =
      let whole = join (token c x.token (tk ts) h) (λ h. let value = pour_optional w p (end_of x.token) h in join value.part (λ h. token value.end y.token (tk rest) h)) in
      brace w (to (at x) (at y)) c (x.token ∷ tk ts) (tk rest) (λ s. copy ∷ in_optional w p (copy ∷ s)) (signs_in_optional w a) (begun c x (at y) (tk ts) (tk rest) h whole.follow) whole

  pour_compound : {d : Dialect} (w : Brackets) {span : Span} {ts rest : List Lexeme} {b : BlockItems} (p : ReadsCompound d ts b span rest) (c : ℕ) → FollowFrom c (tk ts) → Part c span.end (tk ts) (tk rest) (in_compound w p) (signs_in_block w b)
  pour_compound w (g.block {x = x} {y = y} {ts = ts} {rest = rest} e p f) c h =
      join (token c x.token (tk ts) h) (λ h. let items = pour_block w p (end_of x.token) h in join items.part (λ h. token items.end y.token (tk rest) h))

  pour_block : {d : Dialect} (w : Brackets) {ts rest : List Lexeme} {b : BlockItems} (p : ReadsBlockItems d ts b rest) (c : ℕ) → FollowFrom c (tk ts) → Goes c (tk ts) (tk rest) (in_block_items w p) (signs_in_block w b)
  pour_block w (g.block_end {ts = ts} e) c h = some (nothing c (tk ts) h)
  pour_block w (g.local e p q) c h = chain (pour_declaration w p c h) (λ e h. pour_block w q e h)
  pour_block w (g.statement e f p q) c h = chain (some (pour_statement w p c h)) (λ e h. pour_block w q e h)

-- ---- items

pour_item : {d : Dialect} (w : Brackets) {ts rest : List Lexeme} {a : Item} (p : ReadsItem d ts a rest) (c : ℕ) → FollowFrom c (tk ts) → Goes c (tk ts) (tk rest) (in_item w p) (signs_in_item w a)
pour_item w (i.declared p) c h = pour_declaration w p c h
pour_item w (i.defined {z = z} {mid = mid} p e q f v u) c h =
    chain (pour_specifiers w p c h) (λ e h. chain (stars_pour q e h) (λ e h. chain (one e z.token (tk mid) h) (λ e h. chain (pour_parameters w v e h) (λ e h. some (pour_compound w u e h)))))

pour_unit : {d : Dialect} (w : Brackets) {ts : List Lexeme} {unit : List Item} (p : ReadsUnit d ts unit) (c : ℕ) → FollowFrom c (tk ts) → Late c (signs_in_unit w unit) × (run_tokens (in_unit w p) (tk ts) ≡ poured (signs_in_unit w unit) (tk ts))
pour_unit w i.no_items c h = (tt, refl)
pour_unit w (i.item {all = all} p q) c h =
    let first = pour_item w p c h in
    let others = pour_unit w q first.end first.part.follow in
    first.part.woven.goes (in_unit w q) (signs_in_unit w all) others.0 others.1

-- ---- whole texts

poured_tokens : {d : Dialect} (w : Brackets) (tokens : List Tok) {unit : List Item} (p : IsTree d tokens unit) → FollowFrom 0 tokens → run_tokens (in_unit w p) tokens ≡ poured (signs_in_unit w unit) tokens
poured_tokens w tokens {unit = unit} p h =
    subst (λ us. run_tokens (in_unit w p) us ≡ poured (signs_in_unit w unit) us) (same_tokens tokens) (pour_unit w p 0 (subst (FollowFrom 0) (sym (same_tokens tokens)) h)).1

pub poured_lexemes : {d : Dialect} (w : Brackets) (tokens : List Tok) {unit : List Item} (p : IsTree d tokens unit) → FollowFrom 0 tokens → run (in_unit w p) (lexemes_of tokens) ≡ lexemes_of (poured (signs_in_unit w unit) tokens)
poured_lexemes w tokens p h = run_lexemes (in_unit w p) tokens ∙ ap lexemes_of (poured_tokens w tokens p h)

pub poured_tree : (d u : Dialect) (w : Brackets) (tokens : List Tok) (unit : List Item) → AreAfterTokens w → FollowFrom 0 tokens → IsTree d tokens unit → IsTree u (poured (signs_in_unit w unit) tokens) (bracketed_unit w unit)
poured_tree d u w tokens unit l h p = subst (λ us. ReadsUnit u us (bracketed_unit w unit)) (poured_lexemes w tokens p h) (weave_unit u w l p)
