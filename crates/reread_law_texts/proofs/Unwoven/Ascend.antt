-- Tokens that start one after the other, and those of them that are left.
use Rattle.std.proofs.Common.{◌≡◌, ◌<◌, ℕ, Bool, true, false, ◌&&◌, List, [], ◌∷◌, Option, refl, sym, subst, arith}
use Rattle.std.specs.Str.{bytes_eq}
use Rattle.mc_span.specs.declared.span.Span.{Span}
use Rattle.mc_lex.specs.declared.token.Dialect.{Dialect}
use Rattle.mc_tree.specs.Tree.{Expression, Specifiers, Declarator, InitDeclarator, Declaration, ForStart, Statement, BlockItems, Item, name_of}
use Rattle.mc_grammar.specs.Words.{Lexeme, is_identifier_kind, retag, lexemes_of}
use Rattle.mc_grammar.specs.Extent.{IsPlace, places}
use Rattle.mc_grammar.specs.Extent as extent
use Rattle.mc_grammar.specs.Statements.{ReadsOptional, ReadsTest, ReadsInitDeclarator, ReadsInitDeclarators, ReadsDeclaration, ReadsForStart, ReadsStatement, ReadsCompound, ReadsBlockItems, after}
use Rattle.mc_grammar.specs.Statements as g
use Rattle.mc_grammar.specs.Items.{ReadsItem}
use Rattle.mc_grammar.specs.Items as i
use Rattle.mc_grammar.proofs.Ends.{IsEnd, whole, later, stars_ends, expression_ends, specifiers_ends, parameters_ends, declarator_ends, initializer_ends}
use Rattle.mc_lex.specs.Tokens.{Tok}
use Rattle.reread_law_texts.specs.alike.Moves.{FollowFrom, end_of}
use Rattle.reread_law_texts.proofs.Tokens.{marked}

-- none of these starts at this byte or before
abbrev pub Later : ℕ → List Lexeme → Type 0
Later n [] = Unit {0}
Later n (x ∷ ts) = n < x.token.start

abbrev pub Ascend : List Lexeme → Type 0
Ascend [] = Unit {0}
Ascend (x ∷ ts) = Later x.token.start ts × Ascend ts

pub left : {ts rest : List Lexeme} → IsEnd rest ts → Ascend ts → Ascend rest
left whole h = h
left (later p) h = left p h.1

follow_later : (place : ℕ) (n : ℕ) (tokens : List Tok) → FollowFrom place tokens → n < place → Later n (lexemes_of tokens)
follow_later place n [] h lt = tt
follow_later place n (x ∷ tokens) h lt = omega (arith, h.0, lt)

pub follow_ascend : (place : ℕ) (tokens : List Tok) → FollowFrom place tokens → Ascend (lexemes_of tokens)
follow_ascend place [] h = tt
follow_ascend place (x ∷ tokens) h = (follow_later (end_of x) x.start tokens h.2 (omega (arith, h.1)), follow_ascend (end_of x) tokens h.2)

-- ---- where what is read of them starts

abbrev LaterPlace : ℕ → List Span → Type 0
LaterPlace n [] = Unit {0}
LaterPlace n (place ∷ all) = n < place.start

same_later : (n : ℕ) (ts : List Lexeme) → Later n ts → LaterPlace n (places ts)
same_later n [] h = tt
same_later n (x ∷ ts) h = h

place_later : (n : ℕ) {span : Span} {all rest : List Span} → IsPlace span all rest → LaterPlace n all → n < span.start
place_later n extent.single h = h
place_later n (extent.longer p) h = h

pub starts_later : (n : ℕ) (span : Span) (ts rest : List Lexeme) → IsPlace span (places ts) (places rest) → Later n ts → n < span.start
starts_later n span ts rest p h = place_later n p (same_later n ts h)

-- ---- typedef names

same_start : (b : Bool) (x : Lexeme) → (marked b x).token.start ≡ x.token.start
same_start true x = refl
same_start false x = refl

retag_later : (name : List ℕ) (n : ℕ) (ts : List Lexeme) → Later n ts → Later n (retag name ts)
unfolding retag
retag_later name n [] h = h
retag_later name n (x ∷ ts) h = subst (λ s. n < s) (sym (same_start (is_identifier_kind x.token.kind && bytes_eq x.token.text name) x)) h

retag_ascend : (name : List ℕ) (ts : List Lexeme) → Ascend ts → Ascend (retag name ts)
unfolding retag
retag_ascend name [] h = h
retag_ascend name (x ∷ ts) h =
    (subst (λ n. Later n (retag name ts)) (sym (same_start (is_identifier_kind x.token.kind && bytes_eq x.token.text name) x)) (retag_later name x.token.start ts h.0), retag_ascend name ts h.1)

pub after_ascend : (typedef : Bool) (d : Declarator) (ts : List Lexeme) → Ascend ts → Ascend (after typedef d ts)
after_ascend true d ts h = retag_ascend (name_of d).text ts h
after_ascend false d ts h = h

-- ---- what is left of parts with a declaration in them

pub init_declarator_left : {d : Dialect} {typedef : Bool} {ts rest : List Lexeme} {one : InitDeclarator} → ReadsInitDeclarator d typedef ts one rest → Ascend ts → Ascend rest
init_declarator_left {typedef = typedef} (g.bare {mid = mid} {d = one} p e) h = after_ascend typedef one mid (left (declarator_ends p) h)
init_declarator_left {typedef = typedef} (g.initialized {mid = mid} {d = one} p k e q) h =
    left (initializer_ends q) (subst (λ us. Ascend us) k (after_ascend typedef one mid (left (declarator_ends p) h))).1

pub init_declarators_left : {d : Dialect} {typedef : Bool} {ts rest : List Lexeme} {all : List InitDeclarator} → ReadsInitDeclarators d typedef ts all rest → Ascend ts → Ascend rest
init_declarators_left (g.no_init_declarator e) h = h
init_declarators_left (g.last_init_declarator p e) h = init_declarator_left p h
init_declarators_left (g.more_init_declarators p e f q) h = init_declarators_left q (init_declarator_left p h).1

pub declaration_left : {d : Dialect} {typedef : Bool} {allowed : Specifiers → Bool} {ts rest : List Lexeme} {one : Declaration} → ReadsDeclaration d typedef allowed ts one rest → Ascend ts → Ascend rest
declaration_left (g.declaration e p f q v) h = (init_declarators_left q (left (specifiers_ends p) h)).1

pub optional_left : {d : Dialect} {stop : List ℕ} {ts rest : List Lexeme} {a : Option Expression} → ReadsOptional d stop ts a rest → Ascend ts → Ascend rest
optional_left (g.no_expression e) h = h
optional_left (g.an_expression e p) h = left (expression_ends p) h

pub test_left : {d : Dialect} {ts rest : List Lexeme} {a : Expression} → ReadsTest d ts a rest → Ascend ts → Ascend rest
test_left (g.test e p f) h = (left (expression_ends p) h.1).1

pub for_start_left : {d : Dialect} {ts rest : List Lexeme} {start : ForStart} → ReadsForStart d ts start rest → Ascend ts → Ascend rest
for_start_left (g.starts_local p) h = declaration_left p h
for_start_left (g.starts_expression e p f) h = (optional_left p h).1

mutual
  pub statement_left : {d : Dialect} {ts rest : List Lexeme} {one : Statement} → ReadsStatement d ts one rest → Ascend ts → Ascend rest
  statement_left (g.compound p) h = compound_left p h
  statement_left (g.null e) h = h.1
  statement_left (g.expression_statement e f p v) h = (left (expression_ends p) h).1
  statement_left (g.if_only e p q f) h = statement_left q (test_left p h.1)
  statement_left (g.if_else e p q f v) h = statement_left v (statement_left q (test_left p h.1)).1
  statement_left (g.switch e p q) h = statement_left q (test_left p h.1)
  statement_left (g.while e p q) h = statement_left q (test_left p h.1)
  statement_left (g.do_while e p f q v) h = (test_left q (statement_left p h.1).1).1
  statement_left (g.for e f p q v m k c) h = statement_left c (optional_left m (optional_left q (for_start_left p h.1.1)).1).1
  statement_left (g.case_label e p f q) h = statement_left q (left (expression_ends p) h.1).1
  statement_left (g.default e f p) h = statement_left p h.1.1
  statement_left (g.label e f p) h = statement_left p h.1.1
  statement_left (g.goto e f v) h = h.1.1.1
  statement_left (g.continue e f) h = h.1.1
  statement_left (g.break e f) h = h.1.1
  statement_left (g.return e p f) h = (optional_left p h.1).1

  pub compound_left : {d : Dialect} {span : Span} {ts rest : List Lexeme} {all : BlockItems} → ReadsCompound d ts all span rest → Ascend ts → Ascend rest
  compound_left (g.block e p f) h = (block_items_left p h.1).1

  pub block_items_left : {d : Dialect} {ts rest : List Lexeme} {all : BlockItems} → ReadsBlockItems d ts all rest → Ascend ts → Ascend rest
  block_items_left (g.block_end e) h = h
  block_items_left (g.local e p q) h = block_items_left q (declaration_left p h)
  block_items_left (g.statement e f p q) h = block_items_left q (statement_left p h)

pub item_left : {d : Dialect} {ts rest : List Lexeme} {one : Item} → ReadsItem d ts one rest → Ascend ts → Ascend rest
item_left (i.declared p) h = declaration_left p h
item_left (i.defined p e q f v c) h = compound_left c (left (parameters_ends v) (left (stars_ends q) (left (specifiers_ends p) h)).1)
