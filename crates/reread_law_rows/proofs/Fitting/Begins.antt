-- What begins like a declaration: a declaration does, and no statement.
use Rattle.std.proofs.Common.{◌≡◌, ℕ, Bool, true, false, not, ◌&&◌, ◌||◌, List, [], ◌∷◌, refl, sym, ap, ◌∙◌, codes, true≢false}
use Rattle.std.specs.List.{list_any}
use Rattle.std.specs.Str.{bytes_eq}
use Rattle.mc_span.specs.declared.span.Span.{Span}
use Rattle.mc_lex.specs.declared.token.Dialect.{Dialect}
use Rattle.mc_lex.specs.declared.token.TokenKind.{TokenKind}
use Rattle.mc_lex.specs.declared.token.TokenKind.TheVariants as kind
use Rattle.mc_lex.specs.Tokens.{Tok}
use Rattle.mc_tree.specs.declared.declarations.specifier_word.SpecifierWord.{SpecifierWord}
use Rattle.mc_tree.specs.Tree.{Expression, Specifiers, Declarator, InitDeclarator}
use Rattle.mc_grammar.specs.Words.{Lexeme, is_identifier_kind, is_keyword_kind, is_punctuator, is_keyword, is_name, is_type_name, begins_specifiers}
use Rattle.mc_grammar.specs.Operators.{IsSpecifierWord}
use Rattle.mc_grammar.specs.Operators as o
use Rattle.mc_grammar.specs.Nonterminal.{Nonterminal, Level, operand}
use Rattle.mc_grammar.specs.Nonterminal as n
use Rattle.mc_grammar.specs.Expressions.{Reads, ReadsSpecifiers, ReadsStars, ReadsDeclarator}
use Rattle.mc_grammar.specs.Expressions as r
use Rattle.mc_grammar.specs.Statements.{ReadsInitDeclarator, ReadsInitDeclarators}
use Rattle.mc_grammar.specs.Statements as g
use Rattle.reread_law_texts.proofs.Weave.Next.{of_sign}
use Rattle.mc_lex.proofs.Texts.{passes, is_false}
use Rattle.mc_lex.specs.Words.{one_of}
use Rattle.reread_pieces.specs.Words.{is_identifier_kind as identifies, is_identifier, is_one_of, specifiers, begins_declaration}
use Rattle.reread_law_rows.proofs.Fitting.Words.{Clear, AreClear}
use Rattle.reread_law_rows.proofs.Fitting.Sections.{Mild, comma_mild, question_mild, member_mild, operator_mild, assignment_mild, step_mild, unary_mild, left_of, keyword_text}
use Rattle.reread_law_rows.proofs.Fitting.Profile.{stars_of, declarator_of}
use Rattle.reread_law_texts.proofs.Tokens.{tk}

-- ---- what does not begin so

-- no second word of a declaration is next
abbrev pub Wordless : List Tok → Type 0
Wordless [] = Unit {0}
Wordless (u ∷ us) = (is_identifier u ≡ false) × (is_one_of specifiers u ≡ false)

pub quiet_first : (t : Tok) (us : List Tok) → is_one_of specifiers t ≡ false → is_identifier t ≡ false → begins_declaration (t ∷ us) ≡ false
quiet_first t [] a b = a
quiet_first t (u ∷ us) a b = rw (a, b) refl

and_false : (b : Bool) → (b && false) ≡ false
and_false true = refl
and_false false = refl

quiet_second : (t : Tok) (us : List Tok) → is_one_of specifiers t ≡ false → Wordless us → begins_declaration (t ∷ us) ≡ false
quiet_second t [] a w = a
quiet_second t (u ∷ us) a w = rw (a, w.0, w.1) (and_false (is_identifier t))

mild_wordless : (t : Tok) (us : List Tok) → Mild t → Wordless (t ∷ us)
mild_wordless t us m = (m.identifier, m.specifier)

mild_first : (t : Tok) (us : List Tok) → Mild t → begins_declaration (t ∷ us) ≡ false
mild_first t us m = quiet_first t us m.specifier m.identifier

-- signs that are no operators
abbrev Wordless_ : Lexeme → Type 0
Wordless_ x = (is_identifier x.token ≡ false) × (is_one_of specifiers x.token ≡ false)

pub round_wordless : (x : Lexeme) → is_punctuator (codes "(") x ≡ true → Wordless_ x
unfolding specifiers
round_wordless x e = of_sign Wordless_ (codes "(") x e (λ start mark. (refl, refl))

pub square_wordless : (x : Lexeme) → is_punctuator (codes "[") x ≡ true → Wordless_ x
unfolding specifiers
square_wordless x e = of_sign Wordless_ (codes "[") x e (λ start mark. (refl, refl))

pub semicolon_wordless : (x : Lexeme) → is_punctuator (codes ";") x ≡ true → Wordless_ x
unfolding specifiers
semicolon_wordless x e = of_sign Wordless_ (codes ";") x e (λ start mark. (refl, refl))

identifier_no_keyword : (k : TokenKind) → is_identifier_kind k ≡ true → is_keyword_kind k ≡ false
identifier_no_keyword kind.Identifier e = refl
identifier_no_keyword kind.Keyword e = absurd (true≢false (sym e))
identifier_no_keyword kind.Punctuator e = refl
identifier_no_keyword (kind.Constant value decimal unsigned longs) e = refl
identifier_no_keyword (kind.Character value) e = refl

name_specifier : (x : Lexeme) → is_name x ≡ true → Clear x.token → is_one_of specifiers x.token ≡ false
name_specifier x e c = c.specifier (identifier_no_keyword x.token.kind (left_of (is_identifier_kind x.token.kind) (not x.names_type) e))

-- an expression before no second word of a declaration
abbrev Calm : Nonterminal → List Lexeme → List Lexeme → Type 0
Calm (n.operations k a) ts rest = Wordless (tk rest) → Wordless (tk ts)
Calm (n.suffixes a) ts rest = Wordless (tk rest) → Wordless (tk ts)
Calm k ts rest = AreClear (tk ts) → Wordless (tk rest) → begins_declaration (tk ts) ≡ false

operand_calm : (k : Level) (ts rest : List Lexeme) → Calm (operand k) ts rest → AreClear (tk ts) → Wordless (tk rest) → begins_declaration (tk ts) ≡ false
operand_calm n.product ts rest h = h
operand_calm n.sum ts rest h = h
operand_calm n.shift ts rest h = h
operand_calm n.relation ts rest h = h
operand_calm n.equality ts rest h = h
operand_calm n.bit_and ts rest h = h
operand_calm n.bit_xor ts rest h = h
operand_calm n.bit_or ts rest h = h
operand_calm n.land ts rest h = h
operand_calm n.lor ts rest h = h

pub calm : {d : Dialect} {k : Nonterminal} {ts rest : List Lexeme} {a : Expression} → Reads d k ts a rest → Calm k ts rest
calm (r.comma_one p e) = λ h w. calm p h w
calm (r.comma {x = x} {mid = mid} p e q) = λ h w. calm p h (mild_wordless x.token (tk mid) (comma_mild x e))
calm (r.assign_cond p e) = λ h w. calm p h w
calm (r.assign {x = x} {mid = mid} p e q) = λ h w. calm p h (mild_wordless x.token (tk mid) (assignment_mild x e))
calm (r.cond_level p e) = λ h w. calm p h w
calm (r.cond {x = x} {mid = mid} p e q f v) = λ h w. calm p h (mild_wordless x.token (tk mid) (question_mild x e))
calm (r.level {k = k} {ts = ts} {mid = mid} p q) = λ h w. operand_calm k ts mid (calm p) h (calm q w)
calm (r.operation {k = k} {x = x} {ts = ts} e p q) = λ w. mild_wordless x.token (tk ts) (operator_mild k x e)
calm (r.operations_end e) = λ w. w
calm (r.cast_unary e p) = λ h w. calm p h w
calm (r.cast {x = x} {ts = ts} e f p v q) = λ h w. let words = round_wordless x e in quiet_first x.token (tk ts) words.1 words.0
calm (r.unary_postfix e p) = λ h w. calm p h w
calm (r.prefix_step {x = x} {ts = ts} e p) = λ h w. mild_first x.token (tk ts) (step_mild x e)
calm (r.unary {x = x} {ts = ts} e p) = λ h w. mild_first x.token (tk ts) (unary_mild x e)
calm (r.postfix p q) = λ h w. calm p h (calm q w)
calm (r.index {x = x} e p f q) = λ w. square_wordless x e
calm (r.member {x = x} {y = y} {ts = ts} e f q) = λ w. mild_wordless x.token (y.token ∷ tk ts) (member_mild x e)
calm (r.postfix_step {x = x} {ts = ts} e q) = λ w. mild_wordless x.token (tk ts) (step_mild x e)
calm (r.suffixes_end e) = λ w. w
calm (r.named {x = x} {ts = ts} e f) = λ h w. quiet_second x.token (tk ts) (name_specifier x e h.0) w
calm (r.constant {x = x} {ts = ts} e) = λ h w. quiet_first x.token (tk ts) (h.0.specifier (rw e refl)) (rw e refl)
calm (r.character {x = x} {ts = ts} e) = λ h w. quiet_first x.token (tk ts) (h.0.specifier (rw e refl)) (rw e refl)
calm (r.parenthesized {x = x} {ts = ts} e f p v) = λ h w. let words = round_wordless x e in quiet_first x.token (tk ts) words.1 words.0
calm (r.call_empty {x = x} {y = y} {z = z} {rest = rest} e f v) = λ h w. quiet_second x.token (y.token ∷ z.token ∷ tk rest) (name_specifier x e h.0) (round_wordless y f)
calm (r.call {x = x} {y = y} {ts = ts} e f v p u) = λ h w. quiet_second x.token (y.token ∷ tk ts) (name_specifier x e h.0) (round_wordless y f)

-- ---- statements

abbrev pub statement_words : List (List ℕ)
statement_words =
    codes "if" ∷ codes "switch" ∷ codes "while" ∷ codes "do" ∷ codes "for" ∷ codes "goto" ∷ codes "continue" ∷ codes "break" ∷ codes "return" ∷ []

abbrev is_no_specifier : List ℕ → Bool
is_no_specifier text = not (list_any (bytes_eq text) specifiers)

no_specifier : (text : List ℕ) → one_of statement_words text ≡ true → list_any (bytes_eq text) specifiers ≡ false
unfolding specifiers
no_specifier text e = is_false (list_any (bytes_eq text) specifiers) (passes is_no_specifier statement_words text refl e)

keyword_no_identifier : (k : TokenKind) → is_keyword_kind k ≡ true → is_identifier_kind k ≡ false
keyword_no_identifier kind.Keyword e = refl
keyword_no_identifier kind.Identifier e = absurd (true≢false (sym e))
keyword_no_identifier kind.Punctuator e = refl
keyword_no_identifier (kind.Constant value decimal unsigned longs) e = refl
keyword_no_identifier (kind.Character value) e = refl

same_identifier : (k : TokenKind) → is_identifier_kind k ≡ false → identifies k ≡ false
same_identifier kind.Identifier e = absurd (true≢false e)
same_identifier kind.Keyword e = refl
same_identifier kind.Punctuator e = refl
same_identifier (kind.Constant value decimal unsigned longs) e = refl
same_identifier (kind.Character value) e = refl

pub keyword_first : (text : List ℕ) (x : Lexeme) (us : List Tok) → is_keyword text x ≡ true → one_of statement_words text ≡ true → begins_declaration (x.token ∷ us) ≡ false
keyword_first text x us e f =
    quiet_first x.token us (ap (λ t. list_any (bytes_eq t) specifiers) (keyword_text text x e) ∙ no_specifier text f)
    (same_identifier x.token.kind (keyword_no_identifier x.token.kind (left_of (is_keyword_kind x.token.kind) (bytes_eq x.token.text text) e)))

-- ---- declarations

-- a second word of a declaration is next
abbrev Wordy : List Tok → Type 0
Wordy [] = ⊥
Wordy (u ∷ us) = (is_identifier u || is_one_of specifiers u) ≡ true

loud_first : (t : Tok) (us : List Tok) → is_one_of specifiers t ≡ true → begins_declaration (t ∷ us) ≡ true
loud_first t [] a = a
loud_first t (u ∷ us) a = rw a refl

or_true : (b : Bool) → (b || true) ≡ true
or_true true = refl
or_true false = refl

loud_second : (t : Tok) (us : List Tok) → is_identifier t ≡ true → Wordy us → begins_declaration (t ∷ us) ≡ true
loud_second t [] a w = absurd w
loud_second t (u ∷ us) a w = rw (a, w) (or_true (is_one_of specifiers t))

wordy_name : (t : Tok) → is_identifier t ≡ true → (is_identifier t || is_one_of specifiers t) ≡ true
wordy_name t e = rw e refl

wordy_word : (t : Tok) → is_one_of specifiers t ≡ true → (is_identifier t || is_one_of specifiers t) ≡ true
wordy_word t e = rw e (or_true (is_identifier t))

same_name : (k : TokenKind) → is_identifier_kind k ≡ true → identifies k ≡ true
same_name kind.Identifier e = refl
same_name kind.Keyword e = absurd (true≢false (sym e))
same_name kind.Punctuator e = absurd (true≢false (sym e))
same_name (kind.Constant value decimal unsigned longs) e = absurd (true≢false (sym e))
same_name (kind.Character value) e = absurd (true≢false (sym e))

in_table : (text : List ℕ) (x : Lexeme) → is_keyword text x ≡ true → list_any (bytes_eq text) specifiers ≡ true → is_one_of specifiers x.token ≡ true
in_table text x e f = ap (λ t. list_any (bytes_eq t) specifiers) (keyword_text text x e) ∙ f

word_in : {w : SpecifierWord} (x : Lexeme) → IsSpecifierWord x w → is_one_of specifiers x.token ≡ true
unfolding specifiers
word_in x (o.typedef e) = in_table (codes "typedef") x e refl
word_in x (o.static e) = in_table (codes "static") x e refl
word_in x (o.extern e) = in_table (codes "extern") x e refl
word_in x (o.const e) = in_table (codes "const") x e refl
word_in x (o.void e) = in_table (codes "void") x e refl
word_in x (o.bool e) = in_table (codes "_Bool") x e refl
word_in x (o.char e) = in_table (codes "char") x e refl
word_in x (o.short e) = in_table (codes "short") x e refl
word_in x (o.int e) = in_table (codes "int") x e refl
word_in x (o.long e) = in_table (codes "long") x e refl
word_in x (o.signed e) = in_table (codes "signed") x e refl
word_in x (o.unsigned e) = in_table (codes "unsigned") x e refl

structure_in : (x : Lexeme) → is_keyword (codes "struct") x ≡ true → is_one_of specifiers x.token ≡ true
unfolding specifiers
structure_in x e = in_table (codes "struct") x e refl

enumeration_in : (x : Lexeme) → is_keyword (codes "enum") x ≡ true → is_one_of specifiers x.token ≡ true
unfolding specifiers
enumeration_in x e = in_table (codes "enum") x e refl

type_name_identifier : (x : Lexeme) → is_type_name x ≡ true → is_identifier x.token ≡ true
type_name_identifier x e = same_name x.token.kind (left_of (is_identifier_kind x.token.kind) x.names_type e)

name_identifier : (x : Lexeme) → is_name x ≡ true → is_identifier x.token ≡ true
name_identifier x e = same_name x.token.kind (left_of (is_identifier_kind x.token.kind) (not x.names_type) e)

second_wordy : {d : Dialect} {has : Bool} {ts rest : List Lexeme} {s : Specifiers} → ReadsSpecifiers d has ts s rest → Wordy (tk rest) → Wordy (tk ts)
second_wordy (r.specifiers_end e) w = w
second_wordy (r.word {x = x} e p) w = wordy_word x.token (word_in x e)
second_wordy (r.typedef_name {x = x} e p) w = wordy_name x.token (type_name_identifier x e)
second_wordy (r.structure_tag {x = x} e f v p) w = wordy_word x.token (structure_in x e)
second_wordy (r.structure {x = x} e f k p v q) w = wordy_word x.token (structure_in x e)
second_wordy (r.untagged_structure {x = x} e k p v q) w = wordy_word x.token (structure_in x e)
second_wordy (r.enumeration_tag {x = x} e f v p) w = wordy_word x.token (enumeration_in x e)
second_wordy (r.enumeration {x = x} e f k p v q) w = wordy_word x.token (enumeration_in x e)
second_wordy (r.untagged_enumeration {x = x} e k p v q) w = wordy_word x.token (enumeration_in x e)

pub declaration_first : {d : Dialect} {x : Lexeme} {ts rest : List Lexeme} {s : Specifiers} → begins_specifiers x ≡ true → ReadsSpecifiers d false (x ∷ ts) s rest → Wordy (tk rest)
    → begins_declaration (x.token ∷ tk ts) ≡ true
declaration_first b (r.specifiers_end e) w = absurd (true≢false (sym b ∙ e))
declaration_first b (r.word {x = x} {ts = ts} e p) w = loud_first x.token (tk ts) (word_in x e)
declaration_first b (r.typedef_name {x = x} {ts = ts} e p) w = loud_second x.token (tk ts) (type_name_identifier x e) (second_wordy p w)
declaration_first b (r.structure_tag {x = x} {y = y} {ts = ts} e f v p) w = loud_first x.token (y.token ∷ tk ts) (structure_in x e)
declaration_first b (r.structure {x = x} {y = y} {z = z} {ts = ts} e f k p v q) w = loud_first x.token (y.token ∷ z.token ∷ tk ts) (structure_in x e)
declaration_first b (r.untagged_structure {x = x} {z = z} {ts = ts} e k p v q) w = loud_first x.token (z.token ∷ tk ts) (structure_in x e)
declaration_first b (r.enumeration_tag {x = x} {y = y} {ts = ts} e f v p) w = loud_first x.token (y.token ∷ tk ts) (enumeration_in x e)
declaration_first b (r.enumeration {x = x} {y = y} {z = z} {ts = ts} e f k p v q) w = loud_first x.token (y.token ∷ z.token ∷ tk ts) (enumeration_in x e)
declaration_first b (r.untagged_enumeration {x = x} {z = z} {ts = ts} e k p v q) w = loud_first x.token (z.token ∷ tk ts) (enumeration_in x e)

-- a name without `*` before it
name_wordy : {before last : Span} {y : Lexeme} {ts mid : List Lexeme} {stars : ℕ} → ReadsStars before ts stars last (y ∷ mid) → is_name y ≡ true → stars ≡ 0 → Wordy (tk ts)
name_wordy (r.star e p) f z = absurd (cc)
name_wordy {y = y} (r.no_star e) f z = wordy_name y.token (name_identifier y f)

declarator_wordy : {d : Dialect} {ts rest : List Lexeme} {one : Declarator} → ReadsDeclarator d ts one rest → stars_of one ≡ 0 → Wordy (tk ts)
declarator_wordy (r.object p e f q) z = name_wordy p e z
declarator_wordy (r.function p e q) z = name_wordy p e z

init_wordy : {d : Dialect} {typedef : Bool} {ts rest : List Lexeme} {one : InitDeclarator} → ReadsInitDeclarator d typedef ts one rest → stars_of (declarator_of one) ≡ 0 → Wordy (tk ts)
init_wordy (g.bare p e) z = declarator_wordy p z
init_wordy (g.initialized p k e q) z = declarator_wordy p z

pub inits_wordy : {d : Dialect} {typedef : Bool} {ts rest : List Lexeme} {one : InitDeclarator} {others : List InitDeclarator} → ReadsInitDeclarators d typedef ts (one ∷ others) rest → stars_of (declarator_of one) ≡ 0 → Wordy (tk ts)
inits_wordy (g.last_init_declarator p e) z = init_wordy p z
inits_wordy (g.more_init_declarators p e f q) z = init_wordy p z
