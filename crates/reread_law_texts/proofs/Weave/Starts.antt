-- With which token a statement begins, and with which none does.
use Rattle.std.proofs.Common.{◌≡◌, ℕ, Bool, true, false, List, [], ◌∷◌, Option, refl, sym, ap, ◌∙◌, subst, codes, true≢false}
use Rattle.std.specs.Str.{bytes_eq}
use Rattle.std.proofs.lemmas.Slice.Eq.{bytes_eq-Decides}
use Rattle.mc_lex.specs.declared.token.Dialect.{Dialect}
use Rattle.mc_lex.specs.declared.token.TokenKind.{TokenKind}
use Rattle.mc_lex.specs.declared.token.TokenKind.TheVariants as kind
use Rattle.mc_tree.specs.Tree.{Expression, Initializer, Initializers, Statement, BlockItems}
use Rattle.mc_grammar.specs.Words.{Lexeme, is_keyword_kind, is_punctuator, is_keyword, begins_specifiers, next_is, sees, sees_keyword, sees_specifiers}
use Rattle.mc_grammar.specs.Statements.{ReadsOptional, ReadsInitializer, ReadsInitializers, ReadsStatement, ReadsCompound, ReadsBlockItems}
use Rattle.mc_grammar.specs.Statements as g
use Rattle.reread_law_texts.proofs.Weave.Next.{signed, of_sign}
use Rattle.reread_law_texts.proofs.Weave.First.{NoStart, both, no_start, no_specifiers, specifiers_no_start, keyword_no_start, close_brace_no_start}

-- ---- a token that is some keyword

abbrev keyworded : List ℕ → ℕ → Bool → Lexeme
keyworded text start mark = record { token = record { kind = kind.Keyword; text = text; start = start }; names_type = mark }

keyword_kind : (k : TokenKind) → is_keyword_kind k ≡ true → k ≡ kind.Keyword
keyword_kind kind.Keyword e = refl
keyword_kind kind.Identifier e = absurd (true≢false (sym e))
keyword_kind kind.Punctuator e = absurd (true≢false (sym e))
keyword_kind (kind.Constant value decimal unsigned longs) e = absurd (true≢false (sym e))
keyword_kind (kind.Character value) e = absurd (true≢false (sym e))

spells : (text : List ℕ) (x : Lexeme) → is_keyword text x ≡ true → x ≡ keyworded text x.token.start x.names_type
spells text x e =
    let h = both (is_keyword_kind x.token.kind) (bytes_eq x.token.text text) e in
    ap (λ k. record { token = record { kind = k; text = x.token.text; start = x.token.start }; names_type = x.names_type }) (keyword_kind x.token.kind h.0)
    ∙ ap (λ bytes. keyworded bytes x.token.start x.names_type) ((bytes_eq-Decides x.token.text text).0 h.1)

of_keyword : (P : Lexeme → Type 0) (text : List ℕ) (x : Lexeme) → is_keyword text x ≡ true → ((start : ℕ) (mark : Bool) → P (keyworded text start mark)) → P x
of_keyword P text x e h = subst P (sym (spells text x e)) (h x.token.start x.names_type)

-- ---- statements

-- a test that no token meets with which a statement begins
record NoStatement (test : Lexeme → Bool) : Type 0 where
  expression : NoStart test
  brace : (start : ℕ) (mark : Bool) → test (signed (codes "{") start mark) ≡ false
  semicolon : (start : ℕ) (mark : Bool) → test (signed (codes ";") start mark) ≡ false
  if_word : (start : ℕ) (mark : Bool) → test (keyworded (codes "if") start mark) ≡ false
  switch_word : (start : ℕ) (mark : Bool) → test (keyworded (codes "switch") start mark) ≡ false
  while_word : (start : ℕ) (mark : Bool) → test (keyworded (codes "while") start mark) ≡ false
  do_word : (start : ℕ) (mark : Bool) → test (keyworded (codes "do") start mark) ≡ false
  for_word : (start : ℕ) (mark : Bool) → test (keyworded (codes "for") start mark) ≡ false
  case_word : (start : ℕ) (mark : Bool) → test (keyworded (codes "case") start mark) ≡ false
  default_word : (start : ℕ) (mark : Bool) → test (keyworded (codes "default") start mark) ≡ false
  goto_word : (start : ℕ) (mark : Bool) → test (keyworded (codes "goto") start mark) ≡ false
  continue_word : (start : ℕ) (mark : Bool) → test (keyworded (codes "continue") start mark) ≡ false
  break_word : (start : ℕ) (mark : Bool) → test (keyworded (codes "break") start mark) ≡ false
  return_word : (start : ℕ) (mark : Bool) → test (keyworded (codes "return") start mark) ≡ false

abbrev Fails : (Lexeme → Bool) → Lexeme → Type 0
Fails test x = test x ≡ false

compound_starts : (test : Lexeme → Bool) → NoStatement test → {d : Dialect} {ts rest : List Lexeme} {b : BlockItems} {span : _} → ReadsCompound d ts b span rest → next_is test ts ≡ false
compound_starts test h (g.block {x = x} e p f) = of_sign (Fails test) (codes "{") x e h.brace

statement_starts : (test : Lexeme → Bool) → NoStatement test → {d : Dialect} {ts rest : List Lexeme} {one : Statement} → ReadsStatement d ts one rest → next_is test ts ≡ false
statement_starts test h (g.compound p) = compound_starts test h p
statement_starts test h (g.null {y = y} e) = of_sign (Fails test) (codes ";") y e h.semicolon
statement_starts test h (g.expression_statement e f p v) = no_start test h.expression refl p
statement_starts test h (g.if_only {x = x} e p q f) = of_keyword (Fails test) (codes "if") x e h.if_word
statement_starts test h (g.if_else {x = x} e p q f v) = of_keyword (Fails test) (codes "if") x e h.if_word
statement_starts test h (g.switch {x = x} e p q) = of_keyword (Fails test) (codes "switch") x e h.switch_word
statement_starts test h (g.while {x = x} e p q) = of_keyword (Fails test) (codes "while") x e h.while_word
statement_starts test h (g.do_while {x = x} e p f q v) = of_keyword (Fails test) (codes "do") x e h.do_word
statement_starts test h (g.for {x = x} e f p q v u k m) = of_keyword (Fails test) (codes "for") x e h.for_word
statement_starts test h (g.case_label {x = x} e p f q) = of_keyword (Fails test) (codes "case") x e h.case_word
statement_starts test h (g.default {x = x} e f p) = of_keyword (Fails test) (codes "default") x e h.default_word
statement_starts test h (g.label {x = x} e f p) = h.expression.word x e
statement_starts test h (g.goto {x = x} e f v) = of_keyword (Fails test) (codes "goto") x e h.goto_word
statement_starts test h (g.continue {x = x} e f) = of_keyword (Fails test) (codes "continue") x e h.continue_word
statement_starts test h (g.break {x = x} e f) = of_keyword (Fails test) (codes "break") x e h.break_word
statement_starts test h (g.return {x = x} e p f) = of_keyword (Fails test) (codes "return") x e h.return_word

brace_none : NoStatement (is_punctuator (codes "}"))
brace_none = record {
  expression = close_brace_no_start;
  brace = λ start mark. refl;
  semicolon = λ start mark. refl;
  if_word = λ start mark. refl;
  switch_word = λ start mark. refl;
  while_word = λ start mark. refl;
  do_word = λ start mark. refl;
  for_word = λ start mark. refl;
  case_word = λ start mark. refl;
  default_word = λ start mark. refl;
  goto_word = λ start mark. refl;
  continue_word = λ start mark. refl;
  break_word = λ start mark. refl;
  return_word = λ start mark. refl;
}

specifiers_none : NoStatement begins_specifiers
specifiers_none = record {
  expression = specifiers_no_start;
  brace = λ start mark. refl;
  semicolon = λ start mark. refl;
  if_word = λ start mark. refl;
  switch_word = λ start mark. refl;
  while_word = λ start mark. refl;
  do_word = λ start mark. refl;
  for_word = λ start mark. refl;
  case_word = λ start mark. refl;
  default_word = λ start mark. refl;
  goto_word = λ start mark. refl;
  continue_word = λ start mark. refl;
  break_word = λ start mark. refl;
  return_word = λ start mark. refl;
}

else_none : NoStatement (is_keyword (codes "else"))
else_none = record {
  expression = keyword_no_start (codes "else");
  brace = λ start mark. refl;
  semicolon = λ start mark. refl;
  if_word = λ start mark. refl;
  switch_word = λ start mark. refl;
  while_word = λ start mark. refl;
  do_word = λ start mark. refl;
  for_word = λ start mark. refl;
  case_word = λ start mark. refl;
  default_word = λ start mark. refl;
  goto_word = λ start mark. refl;
  continue_word = λ start mark. refl;
  break_word = λ start mark. refl;
  return_word = λ start mark. refl;
}

pub statement_no_brace : {d : Dialect} {ts rest : List Lexeme} {one : Statement} → ReadsStatement d ts one rest → sees (codes "}") ts ≡ false
statement_no_brace p = statement_starts (is_punctuator (codes "}")) brace_none p

pub statement_no_specifiers : {d : Dialect} {ts rest : List Lexeme} {one : Statement} → ReadsStatement d ts one rest → sees_specifiers ts ≡ false
statement_no_specifiers p = statement_starts begins_specifiers specifiers_none p

-- ---- what follows a statement in a block

brace_no_else : (ts : List Lexeme) → sees (codes "}") ts ≡ true → sees_keyword (codes "else") ts ≡ false
brace_no_else [] e = refl
brace_no_else (x ∷ ts) e = of_sign (Fails (is_keyword (codes "else"))) (codes "}") x e (λ start mark. refl)

first_not_else : (b : Bool) (x : Lexeme) → is_keyword (codes "else") x ≡ b → begins_specifiers x ≡ true → is_keyword (codes "else") x ≡ false
first_not_else true x e h = absurd (true≢false (sym h ∙ of_keyword (Fails begins_specifiers) (codes "else") x e (λ start mark. refl)))
first_not_else false x e h = e

specifiers_no_else : (ts : List Lexeme) → sees_specifiers ts ≡ true → sees_keyword (codes "else") ts ≡ false
specifiers_no_else [] e = refl
specifiers_no_else (x ∷ ts) e = first_not_else (is_keyword (codes "else") x) x refl e

pub block_no_else : {d : Dialect} {ts rest : List Lexeme} {b : BlockItems} → ReadsBlockItems d ts b rest → sees_keyword (codes "else") ts ≡ false
block_no_else (g.block_end {ts = ts} e) = brace_no_else ts e
block_no_else (g.local {ts = ts} e p q) = specifiers_no_else ts e
block_no_else (g.statement e f p q) = statement_starts (is_keyword (codes "else")) else_none p

-- ---- initializers, and the first part of a `for`

initializer_no_brace : {d : Dialect} {ts rest : List Lexeme} {one : Initializer} → ReadsInitializer d ts one rest → sees (codes "}") ts ≡ false
initializer_no_brace (g.single e p) = no_start (is_punctuator (codes "}")) close_brace_no_start refl p
initializer_no_brace (g.braced {x = x} e p f) = of_sign (Fails (is_punctuator (codes "}"))) (codes "{") x e (λ start mark. refl)

pub initializers_no_brace : {d : Dialect} {ts rest : List Lexeme} {all : Initializers} → ReadsInitializers d ts all rest → sees (codes "}") ts ≡ false
initializers_no_brace (g.last_initializer p e) = initializer_no_brace p
initializers_no_brace (g.last_initializer_comma p e f) = initializer_no_brace p
initializers_no_brace (g.more_initializers p e f q) = initializer_no_brace p

semicolon_no_specifiers : (ts : List Lexeme) → sees (codes ";") ts ≡ true → sees_specifiers ts ≡ false
semicolon_no_specifiers [] e = refl
semicolon_no_specifiers (x ∷ ts) e = of_sign (Fails begins_specifiers) (codes ";") x e (λ start mark. refl)

pub optional_no_specifiers : {d : Dialect} {ts rest : List Lexeme} {a : Option Expression} → ReadsOptional d (codes ";") ts a rest → sees_specifiers ts ≡ false
optional_no_specifiers (g.no_expression {ts = ts} e) = semicolon_no_specifiers ts e
optional_no_specifiers (g.an_expression e p) = no_specifiers refl p
