-- The tokens that are left are the last of those that were given. What is marked as a typedef name
-- stays the token that it is.
use Rattle.std.proofs.Common.{ℕ, Bool, List, Option, sym, ap, subst, ◌∙◌}
use Rattle.mc_lex.specs.declared.token.Dialect.{Dialect}
use Rattle.mc_lex.specs.Tokens.{Tok}
use Rattle.mc_span.specs.declared.span.Span.{Span}
use Rattle.mc_tree.specs.Tree.{Expression, Specifiers, InitDeclarator, Declaration, ForStart, Statement, BlockItems, Item}
use Rattle.mc_grammar.specs.Words.{Lexeme}
use Rattle.mc_grammar.specs.Statements.{ReadsOptional, ReadsTest, ReadsInitDeclarator, ReadsInitDeclarators, ReadsDeclaration, ReadsForStart, ReadsStatement, ReadsCompound, ReadsBlockItems}
use Rattle.mc_grammar.specs.Statements as s
use Rattle.mc_grammar.specs.Items.{ReadsItem}
use Rattle.mc_grammar.specs.Items as i
use Rattle.mc_grammar.proofs.Ends.{IsEnd, whole, later, join, stars_ends, expression_ends, specifiers_ends, parameters_ends, declarator_ends, initializer_ends}
use Rattle.reread_law_texts.specs.alike.Moves.{Move, AllFit, tokens_of}
use Rattle.reread_law_texts.proofs.Tokens.{after_tokens}

pub tokens_end : {ts rest : List Lexeme} → IsEnd rest ts → IsEnd (tokens_of rest) (tokens_of ts)
tokens_end whole = whole
tokens_end (later p) = later (tokens_end p)

-- where each token fits, so does each of those that are left
pub left_fits : (m : Move) {all left : List Tok} → IsEnd left all → AllFit m all → AllFit m left
left_fits m whole h = h
left_fits m (later p) h = left_fits m p h.1

-- ---- what is left

pub init_declarator_left : {d : Dialect} {typedef : Bool} {ts rest : List Lexeme} {one : InitDeclarator} → ReadsInitDeclarator d typedef ts one rest → IsEnd (tokens_of rest) (tokens_of ts)
init_declarator_left {typedef = typedef} {ts = ts} (s.bare {mid = mid} {d = one} p e) =
    subst (λ all. IsEnd all (tokens_of ts)) (sym (after_tokens typedef one mid)) (tokens_end (declarator_ends p))
init_declarator_left {typedef = typedef} {rest = rest} (s.initialized {x = x} {mid = mid} {d = one} p g e q) =
    join (tokens_end (declarator_ends p))
    (subst (λ all. IsEnd (tokens_of rest) all) (ap tokens_of (sym g) ∙ after_tokens typedef one mid) (later {x = x.token} (tokens_end (initializer_ends q))))

pub init_declarators_left : {d : Dialect} {typedef : Bool} {ts rest : List Lexeme} {all : List InitDeclarator} → ReadsInitDeclarators d typedef ts all rest → IsEnd (tokens_of rest) (tokens_of ts)
init_declarators_left (s.no_init_declarator e) = whole
init_declarators_left (s.last_init_declarator p e) = init_declarator_left p
init_declarators_left (s.more_init_declarators p e f q) = join (init_declarator_left p) (later (init_declarators_left q))

pub declaration_left : {d : Dialect} {typedef : Bool} {allowed : Specifiers → Bool} {ts rest : List Lexeme} {one : Declaration} → ReadsDeclaration d typedef allowed ts one rest → IsEnd (tokens_of rest) (tokens_of ts)
declaration_left (s.declaration e p f q g) = join (tokens_end (specifiers_ends p)) (join (init_declarators_left q) (later whole))

pub optional_left : {d : Dialect} {stop : List ℕ} {ts rest : List Lexeme} {a : Option Expression} → ReadsOptional d stop ts a rest → IsEnd (tokens_of rest) (tokens_of ts)
optional_left (s.no_expression e) = whole
optional_left (s.an_expression e p) = tokens_end (expression_ends p)

pub test_left : {d : Dialect} {ts rest : List Lexeme} {a : Expression} → ReadsTest d ts a rest → IsEnd (tokens_of rest) (tokens_of ts)
test_left (s.test e p f) = later (join (tokens_end (expression_ends p)) (later whole))

pub for_start_left : {d : Dialect} {ts rest : List Lexeme} {start : ForStart} → ReadsForStart d ts start rest → IsEnd (tokens_of rest) (tokens_of ts)
for_start_left (s.starts_local p) = declaration_left p
for_start_left (s.starts_expression e p f) = join (optional_left p) (later whole)

mutual
  pub statement_left : {d : Dialect} {ts rest : List Lexeme} {one : Statement} → ReadsStatement d ts one rest → IsEnd (tokens_of rest) (tokens_of ts)
  statement_left (s.compound p) = compound_left p
  statement_left (s.null e) = later whole
  statement_left (s.expression_statement e f p g) = join (tokens_end (expression_ends p)) (later whole)
  statement_left (s.if_only e p q f) = later (join (test_left p) (statement_left q))
  statement_left (s.if_else e p q f v) = later (join (test_left p) (join (statement_left q) (later (statement_left v))))
  statement_left (s.switch e p q) = later (join (test_left p) (statement_left q))
  statement_left (s.while e p q) = later (join (test_left p) (statement_left q))
  statement_left (s.do_while e p f q g) = later (join (statement_left p) (later (join (test_left q) (later whole))))
  statement_left (s.for e f p q g v k w) = later (later (join (for_start_left p) (join (optional_left q) (later (join (optional_left v) (later (statement_left w)))))))
  statement_left (s.case_label e p f q) = later (join (tokens_end (expression_ends p)) (later (statement_left q)))
  statement_left (s.default e f p) = later (later (statement_left p))
  statement_left (s.label e f p) = later (later (statement_left p))
  statement_left (s.goto e f g) = later (later (later whole))
  statement_left (s.continue e f) = later (later whole)
  statement_left (s.break e f) = later (later whole)
  statement_left (s.return e p f) = later (join (optional_left p) (later whole))

  pub compound_left : {d : Dialect} {span : Span} {ts rest : List Lexeme} {all : BlockItems} → ReadsCompound d ts all span rest → IsEnd (tokens_of rest) (tokens_of ts)
  compound_left (s.block e p f) = later (join (block_items_left p) (later whole))

  pub block_items_left : {d : Dialect} {ts rest : List Lexeme} {all : BlockItems} → ReadsBlockItems d ts all rest → IsEnd (tokens_of rest) (tokens_of ts)
  block_items_left (s.block_end e) = whole
  block_items_left (s.local e p q) = join (declaration_left p) (block_items_left q)
  block_items_left (s.statement e f p q) = join (statement_left p) (block_items_left q)

pub item_left : {d : Dialect} {ts rest : List Lexeme} {one : Item} → ReadsItem d ts one rest → IsEnd (tokens_of rest) (tokens_of ts)
item_left (i.declared p) = declaration_left p
item_left (i.defined p e q f v w) = join (tokens_end (specifiers_ends p)) (join (tokens_end (stars_ends q)) (later (join (tokens_end (parameters_ends v)) (compound_left w))))
