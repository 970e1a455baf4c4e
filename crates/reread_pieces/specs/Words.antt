-- What a token is for the shapes of an instrumented text, by its text.
use denote.Ref.{Bor}
use Rattle.std.specs.Prelude.{ℕ, Bool, true, false, ◌&&◌, ◌||◌, List, [], ◌∷◌, map, codes}
use Rattle.std.specs.Prelude.{if◌then◌else◌}
use Rattle.std.specs.List.{list_any}
use Rattle.std.specs.Str.{bytes_eq}
use Rattle.mc_lex.specs.declared.token.TokenKind.{TokenKind}
use Rattle.mc_lex.specs.declared.token.TokenKind.TheVariants as kind
use Rattle.mc_lex.specs.Tokens.{Tok}
use Rattle.reread_pieces.specs.declared.word.Word.{Word}
use Rattle.reread_pieces.specs.declared.word.Word.TheVariants as word
use Rattle.reread_pieces.specs.declared.site.Before.{Before}
use Rattle.reread_pieces.specs.declared.site.Before.TheVariants as before

-- the texts of a table of the program
abbrev pub texts : List (Bor (List ℕ)) → List (List ℕ)
texts table = map (λ t. t.now) table

abbrev pub is : List ℕ → Tok → Bool
is text t = bytes_eq t.text text

-- the names of the probes
abbrev pub probe_word : Tok → Word
probe_word t =
    if is (codes "MCDC_H") t then word.Hit
    else (if is (codes "MCDC_L") t then word.Label
    else (if is (codes "MCDC_D") t then word.Decision
    else (if is (codes "MCDC_C") t then word.Condition
    else (if is (codes "MCDC_W") t then word.Switch
    else (if is (codes "mcdc_r") t || is (codes "mcdc_v") t then word.Inner
    else word.Other)))))

abbrev pub word_of : Tok → Word
word_of t =
    if is (codes "(") t then word.OpenParenthesis
    else (if is (codes ")") t then word.CloseParenthesis
    else (if is (codes "[") t then word.OpenSquare
    else (if is (codes "]") t then word.CloseSquare
    else (if is (codes "{") t then word.OpenBrace
    else (if is (codes "}") t then word.CloseBrace
    else (if is (codes ";") t then word.Semicolon
    else probe_word t))))))

abbrev pub is_identifier_kind : TokenKind → Bool
is_identifier_kind kind.Identifier = true
is_identifier_kind _ = false

abbrev pub is_identifier : Tok → Bool
is_identifier t = is_identifier_kind t.kind

-- A `(` after it is that of a call, of parameters or of a test: no `primary` begins there.
abbrev pub is_name : Tok → Bool
is_name t =
    is_identifier t || is (codes "if") t || is (codes "switch") t || is (codes "while") t
    || is (codes "for") t

abbrev pub before_of : Tok → Before
before_of t =
    if is (codes ":") t then before.Colon
    else (if is (codes ")") t then before.Parenthesis
    else (if is_name t then before.Name
    else before.Other))

-- the words with which specifiers begin (C17 6.7)
unfoldable pub specifiers : List (List ℕ)
specifiers =
    codes "typedef" ∷ codes "static" ∷ codes "extern" ∷ codes "const" ∷ codes "void" ∷ codes "_Bool"
    ∷ codes "char" ∷ codes "short" ∷ codes "int" ∷ codes "long" ∷ codes "signed" ∷ codes "unsigned"
    ∷ codes "struct" ∷ codes "enum" ∷ []

abbrev pub is_one_of : List (List ℕ) → Tok → Bool
is_one_of table t = list_any (bytes_eq t.text) table

-- A declaration begins with a word of specifiers, or with a typedef name, after which such a word
-- or another identifier stands. No expression begins so.
abbrev pub begins_declaration : List Tok → Bool
begins_declaration [] = false
begins_declaration (t ∷ []) = is_one_of specifiers t
begins_declaration (t ∷ u ∷ ts) =
    is_one_of specifiers t || (is_identifier t && (is_identifier u || is_one_of specifiers u))

-- A typedef name and `*` begin one too (C17 6.7.8), but so does a product: only a tree tells which.
abbrev pub begins_product : List Tok → Bool
begins_product (t ∷ u ∷ ts) = is_identifier t && is (codes "*") u
begins_product _ = false

abbrev pub may_begin_declaration : List Tok → Bool
may_begin_declaration ts = begins_declaration ts || begins_product ts
