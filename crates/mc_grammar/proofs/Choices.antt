-- What stands next decides what is read.
use Rattle.std.proofs.Common.{◌≡◌, ℕ, Bool, true, false, ◌&&◌, List, [], ◌∷◌, map, refl, sym, ◌∙◌, codes}
use Rattle.std.specs.Str.{bytes_eq}
use Rattle.std.specs.List.{list_any}
use Rattle.mc_lex.specs.declared.token.Dialect.{Dialect}
use Rattle.mc_lex.specs.declared.token.TokenKind.TheVariants as kind
use Rattle.mc_span.specs.declared.span.Span.{Span}
use Rattle.mc_tree.specs.Tree.{Expression, Declarator, TypeName, Statement, Declaration, BlockItems, name_of}
use Rattle.mc_tree.specs.Tree as t
use Rattle.mc_grammar.specs.Words.{Lexeme, is_tag, is_identifier_kind, begins_specifiers, sees_keyword, sees_cast, retag, retagged}
use Rattle.mc_grammar.specs.Nonterminal as n
use Rattle.mc_grammar.specs.Meaning.{is_cast, is_name_of}
use Rattle.mc_grammar.specs.Expressions.{Reads, ReadsDeclarator}
use Rattle.mc_grammar.specs.Expressions as r
use Rattle.mc_grammar.specs.Statements.{ReadsInitDeclarator, ReadsStatement, ReadsBlockItems}
use Rattle.mc_grammar.specs.Statements as s

-- an `if` that has no `else` stands before none
pub nearest_if : {d : Dialect} {ts rest : List Lexeme} {a : Expression} {one : Statement} {span : Span} → ReadsStatement d ts (t.If a one span) rest → sees_keyword (codes "else") rest ≡ false
nearest_if (s.if_only e p q f) = f

suffixes_no_cast : {d : Dialect} {ts rest : List Lexeme} {a b : Expression} → Reads d (n.suffixes a) ts b rest → is_cast a ≡ false → is_cast b ≡ false
suffixes_no_cast (r.index e p f q) u = suffixes_no_cast q refl
suffixes_no_cast (r.member e f q) u = suffixes_no_cast q refl
suffixes_no_cast (r.postfix_step e q) u = suffixes_no_cast q refl
suffixes_no_cast (r.suffixes_end e) u = u

primary_no_cast : {d : Dialect} {ts rest : List Lexeme} {a : Expression} → Reads d n.primary ts a rest → is_cast a ≡ false
primary_no_cast (r.named e f) = refl
primary_no_cast (r.constant e) = refl
primary_no_cast (r.character e) = refl
primary_no_cast (r.parenthesized e f p g) = refl
primary_no_cast (r.call_empty e f g) = refl
primary_no_cast (r.call e f g p h) = refl

postfix_no_cast : {d : Dialect} {ts rest : List Lexeme} {a : Expression} → Reads d n.postfix ts a rest → is_cast a ≡ false
postfix_no_cast (r.postfix p q) = suffixes_no_cast q (primary_no_cast p)

pub unary_no_cast : {d : Dialect} {ts rest : List Lexeme} {a : Expression} → Reads d n.unary ts a rest → is_cast a ≡ false
unary_no_cast (r.unary_postfix e p) = postfix_no_cast p
unary_no_cast (r.prefix_step e p) = refl
unary_no_cast (r.unary e p) = refl

-- a cast is read exactly at a `(` before a specifier word or a typedef name
pub cast_exactly : {d : Dialect} {ts rest : List Lexeme} {a : Expression} → Reads d n.cast ts a rest → is_cast a ≡ sees_cast ts
cast_exactly (r.cast_unary e p) = unary_no_cast p ∙ sym e
cast_exactly (r.cast e f p g q) = rw (e, f) refl

-- a local is read exactly at a specifier word or a typedef name
pub local_begins : {d : Dialect} {x : Lexeme} {ts rest : List Lexeme} {one : Declaration} {b : BlockItems} → ReadsBlockItems d (x ∷ ts) (t.local one b) rest → begins_specifiers x ≡ true
local_begins (s.local e p q) = e

pub statement_begins : {d : Dialect} {x : Lexeme} {ts rest : List Lexeme} {one : Statement} {b : BlockItems} → ReadsBlockItems d (x ∷ ts) (t.statement one b) rest → begins_specifiers x ≡ false
statement_begins (s.statement e f p q) = f

identifier_begins : (x : Lexeme) → x.token.kind ≡ kind.Identifier → begins_specifiers x ≡ x.names_type
identifier_begins x e = rw e refl

pub local_name : {d : Dialect} {x : Lexeme} {ts rest : List Lexeme} {one : Declaration} {b : BlockItems} → x.token.kind ≡ kind.Identifier → ReadsBlockItems d (x ∷ ts) (t.local one b) rest → x.names_type ≡ true
local_name {x = x} e p = sym (identifier_begins x e) ∙ local_begins p

pub statement_name : {d : Dialect} {x : Lexeme} {ts rest : List Lexeme} {one : Statement} {b : BlockItems} → x.token.kind ≡ kind.Identifier → ReadsBlockItems d (x ∷ ts) (t.statement one b) rest → x.names_type ≡ false
statement_name {x = x} e p = sym (identifier_begins x e) ∙ statement_begins p

-- a token that is retagged is no identifier of that text
retagged_by : (name : List ℕ) (x : Lexeme) (a b c : Bool) → is_identifier_kind x.token.kind ≡ a → bytes_eq x.token.text name ≡ b → x.names_type ≡ c → is_name_of name (retagged name x) ≡ false
retagged_by name x true true c e f g = rw (e, f) (rw e refl)
retagged_by name x true false true e f g = rw (e, f) (rw (e, g) refl)
retagged_by name x true false false e f g = rw (e, f) (rw (e, f, g) refl)
retagged_by name x false b c e f g = rw e (rw e refl)

pub no_name_follows : (name : List ℕ) (ts : List Lexeme) → list_any (is_name_of name) (retag name ts) ≡ false
unfolding retag
no_name_follows name [] = refl
no_name_follows name (x ∷ ts) = rw (retagged_by name x (is_identifier_kind x.token.kind) (bytes_eq x.token.text name) x.names_type refl refl refl, no_name_follows name ts) refl

same_tag : (name : List ℕ) (x : Lexeme) (a : Bool) → (is_identifier_kind x.token.kind && bytes_eq x.token.text name) ≡ a → is_tag (retagged name x) ≡ is_tag x
same_tag name x true e = rw e refl
same_tag name x false e = rw e refl

pub tags_stay : (name : List ℕ) (ts : List Lexeme) → map is_tag (retag name ts) ≡ map is_tag ts
unfolding retag
tags_stay name [] = refl
tags_stay name (x ∷ ts) = rw (same_tag name x (is_identifier_kind x.token.kind && bytes_eq x.token.text name) refl, tags_stay name ts) refl

-- after a typedef's declarator its name is no identifier
pub typedef_retags : {d : Dialect} {ts : List Lexeme} {one : Declarator} {rest : List Lexeme} → ReadsInitDeclarator d true ts (t.bare one) rest → list_any (is_name_of (name_of one).text) rest ≡ false
typedef_retags (s.bare {mid = mid} {d = one} p e) = no_name_follows (name_of one).text mid

-- where the declaration is no typedef, a declarator without a value leaves what the declarator itself leaves
pub others_keep : {d : Dialect} {ts : List Lexeme} {one : Declarator} {rest : List Lexeme} → ReadsInitDeclarator d false ts (t.bare one) rest → ReadsDeclarator d ts one rest
others_keep (s.bare p e) = p
