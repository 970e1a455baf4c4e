-- What is read of an initializer, a declaration, a statement and an item is read of the moved
-- tokens: one case for each alternative of a production.
use Rattle.std.proofs.Common.{◌≡◌, ℕ, Bool, true, false, ◌&&◌, List, [], ◌∷◌, Option, refl, sym, ap, subst, ◌∙◌, codes}
use Rattle.std.specs.Str.{bytes_eq}
use Rattle.mc_lex.specs.declared.token.Dialect.{Dialect}
use Rattle.mc_lex.specs.Tokens.{Tok}
use Rattle.mc_span.specs.declared.span.Span.{Span}
use Rattle.mc_tree.specs.Tree.{Expression, Specifiers, Declarator, Initializer, Initializers, InitDeclarator, Declaration, ForStart, Statement, BlockItems, Item}
use Rattle.mc_tree.specs.Tree as t
use Rattle.mc_grammar.specs.Words.{Lexeme, is_identifier_kind, sees, retag, retagged, lexeme_of, lexemes_of}
use Rattle.mc_grammar.specs.Statements.{ReadsOptional, ReadsTest, ReadsInitializer, ReadsInitializers, ReadsInitDeclarator, ReadsInitDeclarators, ReadsDeclaration, ReadsForStart, ReadsStatement, ReadsCompound, ReadsBlockItems, after}
use Rattle.mc_grammar.specs.Statements as s
use Rattle.mc_grammar.specs.Items.{ReadsItem, ReadsUnit, IsTree}
use Rattle.mc_grammar.specs.Items as i
use Rattle.mc_grammar.proofs.Ends.{stars_ends, expression_ends, specifiers_ends, parameters_ends, declarator_ends, initializer_ends, initializers_ends}
use Rattle.reread_law_texts.specs.alike.Moves.{Move, AllFit, moved_span, moved_tokens, moved_lexeme, moved_lexemes}
use Rattle.reread_law_texts.specs.alike.Trees.{moved, moved_specifiers, moved_declarator, moved_initializer, moved_initializers, moved_init_declarator, moved_init_declarators, moved_declaration, moved_optional, moved_start, moved_statement, moved_block, moved_item, moved_unit}
use Rattle.reread_law_texts.proofs.Alike.Left.{left_fits, init_declarator_left, init_declarators_left, declaration_left, optional_left, test_left, for_start_left, statement_left, block_items_left, item_left}
use Rattle.reread_law_texts.proofs.Alike.Fitting.{Fit, end_fits}
use Rattle.reread_law_texts.proofs.Alike.Tests.{seen, keyword_seen, specifiers_seen, label_seen}
use Rattle.reread_law_texts.proofs.Alike.Spans.{start_kept, at_kept, parameters_end_kept, statement_end_kept, for_type_kept, for_local_kept, for_function_kept, item_of_kept}
use Rattle.reread_law_texts.proofs.Alike.MovedExpressions.{moves, stars_from, stars_move, specifiers_move, declarator_moves, parameters_move}
use Rattle.reread_law_texts.proofs.Tokens.{marked, after_tokens}

-- ---- typedef names

same_mark : (m : Move) (b : Bool) (x : Lexeme) → marked b (moved_lexeme m x) ≡ moved_lexeme m (marked b x)
same_mark m true x = refl
same_mark m false x = refl

retag_kept : (m : Move) (name : List ℕ) (ts : List Lexeme) → retag name (moved_lexemes m ts) ≡ moved_lexemes m (retag name ts)
unfolding retag
retag_kept m name [] = refl
retag_kept m name (x ∷ ts) =
    ap (λ y. y ∷ retag name (moved_lexemes m ts)) (same_mark m (is_identifier_kind x.token.kind && bytes_eq x.token.text name) x)
    ∙ ap (λ us. moved_lexeme m (retagged name x) ∷ us) (retag_kept m name ts)

after_kept : (m : Move) (typedef : Bool) (d : Declarator) (ts : List Lexeme) → after typedef (moved_declarator m d) (moved_lexemes m ts) ≡ moved_lexemes m (after typedef d ts)
after_kept m true (t.object stars name all span) ts = retag_kept m name.text ts
after_kept m true (t.function stars name all span) ts = retag_kept m name.text ts
after_kept m false d ts = refl

-- ---- tokens that are left fit

-- what stands after a declarator and its `=`
value_fits : (m : Move) (typedef : Bool) (one : Declarator) (mid : List Lexeme) {x : Lexeme} {value : List Lexeme} → after typedef one mid ≡ x ∷ value → Fit m mid → Fit m value
value_fits m typedef one mid g h = (subst (λ us. Fit m us) g (subst (λ all. AllFit m all) (sym (after_tokens typedef one mid)) h)).1

init_declarator_fits : {d : Dialect} (m : Move) {typedef : Bool} {ts rest : List Lexeme} {one : InitDeclarator} → ReadsInitDeclarator d typedef ts one rest → Fit m ts → Fit m rest
init_declarator_fits m p h = left_fits m (init_declarator_left p) h

init_declarators_fit : {d : Dialect} (m : Move) {typedef : Bool} {ts rest : List Lexeme} {all : List InitDeclarator} → ReadsInitDeclarators d typedef ts all rest → Fit m ts → Fit m rest
init_declarators_fit m p h = left_fits m (init_declarators_left p) h

declaration_fits : {d : Dialect} (m : Move) {typedef : Bool} {allowed : Specifiers → Bool} {ts rest : List Lexeme} {one : Declaration} → ReadsDeclaration d typedef allowed ts one rest → Fit m ts → Fit m rest
declaration_fits m p h = left_fits m (declaration_left p) h

optional_fits : {d : Dialect} (m : Move) {stop : List ℕ} {ts rest : List Lexeme} {a : Option Expression} → ReadsOptional d stop ts a rest → Fit m ts → Fit m rest
optional_fits m p h = left_fits m (optional_left p) h

test_fits : {d : Dialect} (m : Move) {ts rest : List Lexeme} {a : Expression} → ReadsTest d ts a rest → Fit m ts → Fit m rest
test_fits m p h = left_fits m (test_left p) h

for_start_fits : {d : Dialect} (m : Move) {ts rest : List Lexeme} {start : ForStart} → ReadsForStart d ts start rest → Fit m ts → Fit m rest
for_start_fits m p h = left_fits m (for_start_left p) h

statement_fits : {d : Dialect} (m : Move) {ts rest : List Lexeme} {one : Statement} → ReadsStatement d ts one rest → Fit m ts → Fit m rest
statement_fits m p h = left_fits m (statement_left p) h

block_items_fit : {d : Dialect} (m : Move) {ts rest : List Lexeme} {all : BlockItems} → ReadsBlockItems d ts all rest → Fit m ts → Fit m rest
block_items_fit m p h = left_fits m (block_items_left p) h

item_fits : {d : Dialect} (m : Move) {ts rest : List Lexeme} {one : Item} → ReadsItem d ts one rest → Fit m ts → Fit m rest
item_fits m p h = left_fits m (item_left p) h

-- ---- declarations

mutual
  pub initializer_moves : {d : Dialect} (to : Dialect) (m : Move) {ts rest : List Lexeme} {one : Initializer} → ReadsInitializer d ts one rest → Fit m ts
      → ReadsInitializer to (moved_lexemes m ts) (moved_initializer m one) (moved_lexemes m rest)
  initializer_moves to m (s.single {ts = ts} e p) h = s.single (seen m (codes "{") ts e) (moves to m p h)
  initializer_moves to m (s.braced e p f) h =
      let h2 = end_fits m (initializers_ends p) h.1 in
      rw h2.0 (s.braced e (initializers_move to m p h.1) f)

  pub initializers_move : {d : Dialect} (to : Dialect) (m : Move) {ts rest : List Lexeme} {all : Initializers} → ReadsInitializers d ts all rest → Fit m ts
      → ReadsInitializers to (moved_lexemes m ts) (moved_initializers m all) (moved_lexemes m rest)
  initializers_move to m (s.last_initializer {rest = rest} p e) h = s.last_initializer (initializer_moves to m p h) (seen m (codes ",") rest e)
  initializers_move to m (s.last_initializer_comma {rest = rest} p e f) h = s.last_initializer_comma (initializer_moves to m p h) e (seen m (codes "}") rest f)
  initializers_move to m (s.more_initializers {mid = mid} p e f q) h =
      s.more_initializers (initializer_moves to m p h) e (seen m (codes "}") mid f) (initializers_move to m q (end_fits m (initializer_ends p) h).1)

pub init_declarator_moves : {d : Dialect} (to : Dialect) (m : Move) {typedef : Bool} {ts rest : List Lexeme} {one : InitDeclarator} → ReadsInitDeclarator d typedef ts one rest → Fit m ts
    → ReadsInitDeclarator to typedef (moved_lexemes m ts) (moved_init_declarator m one) (moved_lexemes m rest)
init_declarator_moves to m {typedef = typedef} {ts = ts} (s.bare {mid = mid} {d = one} p e) h =
    subst (λ us. ReadsInitDeclarator to typedef (moved_lexemes m ts) (t.bare (moved_declarator m one)) us) (after_kept m typedef one mid)
    (s.bare (declarator_moves to m p h) (ap (sees (codes "=")) (after_kept m typedef one mid) ∙ seen m (codes "=") (after typedef one mid) e))
init_declarator_moves to m {typedef = typedef} (s.initialized {mid = mid} {d = one} p g e q) h =
    s.initialized (declarator_moves to m p h) (after_kept m typedef one mid ∙ ap (moved_lexemes m) g) e
    (initializer_moves to m q (value_fits m typedef one mid g (end_fits m (declarator_ends p) h)))

pub init_declarators_move : {d : Dialect} (to : Dialect) (m : Move) {typedef : Bool} {ts rest : List Lexeme} {all : List InitDeclarator} → ReadsInitDeclarators d typedef ts all rest → Fit m ts
    → ReadsInitDeclarators to typedef (moved_lexemes m ts) (moved_init_declarators m all) (moved_lexemes m rest)
init_declarators_move to m (s.no_init_declarator {ts = ts} e) h = s.no_init_declarator (seen m (codes ";") ts e)
init_declarators_move to m (s.last_init_declarator {rest = rest} p e) h = s.last_init_declarator (init_declarator_moves to m p h) (seen m (codes ",") rest e)
init_declarators_move to m (s.more_init_declarators {mid = mid} p e f q) h =
    s.more_init_declarators (init_declarator_moves to m p h) e (seen m (codes ";") mid f) (init_declarators_move to m q (init_declarator_fits m p h).1)

pub declaration_moves : {d : Dialect} (to : Dialect) (m : Move) {typedef : Bool} {allowed : Specifiers → Bool} {ts rest : List Lexeme} {one : Declaration}
    → ((words : Specifiers) → allowed (moved_specifiers m words) ≡ allowed words) → ReadsDeclaration d typedef allowed ts one rest → Fit m ts
    → ReadsDeclaration to typedef allowed (moved_lexemes m ts) (moved_declaration m one) (moved_lexemes m rest)
declaration_moves to m kept (s.declaration {s = words} e p f q g) h =
    let h2 = end_fits m (specifiers_ends p) h in
    let h3 = init_declarators_fit m q h2 in
    rw h3.0 (s.declaration e (specifiers_move to m p h) (kept words ∙ f) (init_declarators_move to m q h2) g)

-- ---- statements

pub optional_moves : {d : Dialect} (to : Dialect) (m : Move) {stop : List ℕ} {ts rest : List Lexeme} {a : Option Expression} → ReadsOptional d stop ts a rest → Fit m ts
    → ReadsOptional to stop (moved_lexemes m ts) (moved_optional m a) (moved_lexemes m rest)
optional_moves to m {stop = stop} (s.no_expression {ts = ts} e) h = s.no_expression (seen m stop ts e)
optional_moves to m {stop = stop} (s.an_expression {ts = ts} e p) h = s.an_expression (seen m stop ts e) (moves to m p h)

pub test_moves : {d : Dialect} (to : Dialect) (m : Move) {ts rest : List Lexeme} {a : Expression} → ReadsTest d ts a rest → Fit m ts
    → ReadsTest to (moved_lexemes m ts) (moved m a) (moved_lexemes m rest)
test_moves to m (s.test e p f) h = s.test e (moves to m p h.1) f

pub for_start_moves : {d : Dialect} (to : Dialect) (m : Move) {ts rest : List Lexeme} {start : ForStart} → ReadsForStart d ts start rest → Fit m ts
    → ReadsForStart to (moved_lexemes m ts) (moved_start m start) (moved_lexemes m rest)
for_start_moves to m (s.starts_local p) h = s.starts_local (declaration_moves to m (for_type_kept m) p h)
for_start_moves to m (s.starts_expression {ts = ts} e p f) h = s.starts_expression (specifiers_seen m ts e) (optional_moves to m p h) f

mutual
  pub statement_moves : {d : Dialect} (to : Dialect) (m : Move) {ts rest : List Lexeme} {one : Statement} → ReadsStatement d ts one rest → Fit m ts
      → ReadsStatement to (moved_lexemes m ts) (moved_statement m one) (moved_lexemes m rest)
  statement_moves to m (s.compound p) h = s.compound (compound_moves to m p h)
  statement_moves to m (s.null e) h = rw h.0 (s.null e)
  statement_moves to m (s.expression_statement {ts = ts} {a = a} e f p g) h =
      let h2 = end_fits m (expression_ends p) h in
      rw (start_kept m a, h2.0) (s.expression_statement (specifiers_seen m ts e) (label_seen m ts f) (moves to m p h) g)
  statement_moves to m (s.if_only {rest = rest} {s = one} e p q f) h =
      rw (statement_end_kept m one)
      (s.if_only e (test_moves to m p h.1) (statement_moves to m q (test_fits m p h.1)) (keyword_seen m (codes "else") rest f))
  statement_moves to m (s.if_else {u = other} e p q f v) h =
      let h2 = test_fits m p h.1 in
      rw (statement_end_kept m other)
      (s.if_else e (test_moves to m p h.1) (statement_moves to m q h2) f (statement_moves to m v (statement_fits m q h2).1))
  statement_moves to m (s.switch {s = one} e p q) h =
      rw (statement_end_kept m one) (s.switch e (test_moves to m p h.1) (statement_moves to m q (test_fits m p h.1)))
  statement_moves to m (s.while {s = one} e p q) h =
      rw (statement_end_kept m one) (s.while e (test_moves to m p h.1) (statement_moves to m q (test_fits m p h.1)))
  statement_moves to m (s.do_while e p f q g) h =
      let h2 = statement_fits m p h.1 in
      let h3 = test_fits m q h2.1 in
      rw h3.0 (s.do_while e (statement_moves to m p h.1) f (test_moves to m q h2.1) g)
  statement_moves to m (s.for {s = one} e f p q g v k w) h =
      let h2 = for_start_fits m p h.1.1 in
      let h3 = (optional_fits m q h2).1 in
      rw (statement_end_kept m one)
      (s.for e f (for_start_moves to m p h.1.1) (optional_moves to m q h2) g (optional_moves to m v h3) k (statement_moves to m w (optional_fits m v h3).1))
  statement_moves to m (s.case_label {s = one} e p f q) h =
      let h2 = end_fits m (expression_ends p) h.1 in
      rw (h2.0, statement_end_kept m one) (s.case_label e (moves to m p h.1) f (statement_moves to m q h2.1))
  statement_moves to m (s.default {s = one} e f p) h = rw (h.1.0, statement_end_kept m one) (s.default e f (statement_moves to m p h.1.1))
  statement_moves to m (s.label {s = one} e f p) h = rw (h.0, statement_end_kept m one) (s.label e f (statement_moves to m p h.1.1))
  statement_moves to m (s.goto e f g) h = rw (h.1.0, h.1.1.0) (s.goto e f g)
  statement_moves to m (s.continue e f) h = rw h.1.0 (s.continue e f)
  statement_moves to m (s.break e f) h = rw h.1.0 (s.break e f)
  statement_moves to m (s.return e p f) h = rw (optional_fits m p h.1).0 (s.return e (optional_moves to m p h.1) f)

  pub compound_moves : {d : Dialect} (to : Dialect) (m : Move) {span : Span} {ts rest : List Lexeme} {all : BlockItems} → ReadsCompound d ts all span rest → Fit m ts
      → ReadsCompound to (moved_lexemes m ts) (moved_block m all) (moved_span m span) (moved_lexemes m rest)
  compound_moves to m (s.block e p f) h = rw (block_items_fit m p h.1).0 (s.block e (block_items_move to m p h.1) f)

  pub block_items_move : {d : Dialect} (to : Dialect) (m : Move) {ts rest : List Lexeme} {all : BlockItems} → ReadsBlockItems d ts all rest → Fit m ts
      → ReadsBlockItems to (moved_lexemes m ts) (moved_block m all) (moved_lexemes m rest)
  block_items_move to m (s.block_end {ts = ts} e) h = s.block_end (seen m (codes "}") ts e)
  block_items_move to m (s.local {ts = ts} e p q) h =
      s.local (specifiers_seen m ts e) (declaration_moves to m (for_local_kept m) p h) (block_items_move to m q (declaration_fits m p h))
  block_items_move to m (s.statement {ts = ts} e f p q) h =
      s.statement (seen m (codes "}") ts e) (specifiers_seen m ts f) (statement_moves to m p h) (block_items_move to m q (statement_fits m p h))

-- ---- items

pub item_moves : {d : Dialect} (to : Dialect) (m : Move) {ts rest : List Lexeme} {one : Item} → ReadsItem d ts one rest → Fit m ts
    → ReadsItem to (moved_lexemes m ts) (moved_item m one) (moved_lexemes m rest)
item_moves to m (i.declared {typedef = typedef} p) h = i.declared (declaration_moves to m (item_of_kept m typedef) p h)
item_moves to m (i.defined {y = y} {s = words} {ps = all} p e q f v w) h =
    let h2 = end_fits m (specifiers_ends p) h in
    let h3 = end_fits m (stars_ends q) h2 in
    rw (h3.0, parameters_end_kept m all)
    (i.defined (specifiers_move to m p h) (for_function_kept m words ∙ e) (stars_from (at_kept m y h2.0) (stars_move m q h2)) f
    (parameters_move to m v h3.1) (compound_moves to m w (end_fits m (parameters_ends v) h3.1)))

pub unit_moves : {d : Dialect} (to : Dialect) (m : Move) {ts : List Lexeme} {unit : List Item} → ReadsUnit d ts unit → Fit m ts
    → ReadsUnit to (moved_lexemes m ts) (moved_unit m unit)
unit_moves to m i.no_items h = i.no_items
unit_moves to m (i.item p q) h = i.item (item_moves to m p h) (unit_moves to m q (item_fits m p h))

-- ---- whole sources

all_fit : (m : Move) (tokens : List Tok) → AllFit m tokens → Fit m (lexemes_of tokens)
all_fit m [] h = h
all_fit m (x ∷ tokens) h = (h.0, all_fit m tokens h.1)

same_lexemes : (m : Move) (tokens : List Tok) → moved_lexemes m (lexemes_of tokens) ≡ lexemes_of (moved_tokens m tokens)
same_lexemes m [] = refl
same_lexemes m (x ∷ tokens) = ap (λ us. moved_lexeme m (lexeme_of x) ∷ us) (same_lexemes m tokens)

pub tree_moves : (d to : Dialect) (m : Move) (tokens : List Tok) (unit : List Item) → AllFit m tokens → IsTree d tokens unit → IsTree to (moved_tokens m tokens) (moved_unit m unit)
tree_moves d to m tokens unit h p = subst (λ us. ReadsUnit to us (moved_unit m unit)) (same_lexemes m tokens) (unit_moves to m p (all_fit m tokens h))
