-- Tokens as the grammar sees them: a token, and whether it is the name of a typedef that is in
-- force. The lexer cannot know the latter, so at the start of a source no token is one.
use Rattle.std.specs.Prelude.{ℕ, Bool, true, false, not, ◌&&◌, ◌||◌, List, [], ◌∷◌, map, codes, if◌then◌else◌}
use Rattle.std.specs.Str.{bytes_eq}
use Rattle.mc_lex.specs.declared.token.TokenKind.{TokenKind}
use Rattle.mc_lex.specs.declared.token.TokenKind.TheVariants as kind
use Rattle.mc_lex.specs.Tokens.{Tok}

pub record Lexeme : Type 0 where
  pub token : Tok
  pub names_type : Bool

-- a token of the source, before any typedef is in force
abbrev pub lexeme_of : Tok → Lexeme
lexeme_of token = record { token = token; names_type = false }

abbrev pub lexemes_of : List Tok → List Lexeme
lexemes_of tokens = map lexeme_of tokens

abbrev pub is_punctuator_kind : TokenKind → Bool
is_punctuator_kind kind.Punctuator = true
is_punctuator_kind _ = false

abbrev pub is_keyword_kind : TokenKind → Bool
is_keyword_kind kind.Keyword = true
is_keyword_kind _ = false

abbrev pub is_identifier_kind : TokenKind → Bool
is_identifier_kind kind.Identifier = true
is_identifier_kind _ = false

-- this punctuator (C17 6.4.6)
abbrev pub is_punctuator : List ℕ → Lexeme → Bool
is_punctuator text x = is_punctuator_kind x.token.kind && bytes_eq x.token.text text

-- this keyword (C17 6.4.1)
abbrev pub is_keyword : List ℕ → Lexeme → Bool
is_keyword text x = is_keyword_kind x.token.kind && bytes_eq x.token.text text

-- an identifier that is not a typedef name (C17 6.4.2, 6.7.8)
abbrev pub is_name : Lexeme → Bool
is_name x = is_identifier_kind x.token.kind && not x.names_type

-- a typedef name (C17 6.7.8)
abbrev pub is_type_name : Lexeme → Bool
is_type_name x = is_identifier_kind x.token.kind && x.names_type

-- a tag has a name space of its own, so a typedef name may be one (C17 6.2.3)
abbrev pub is_tag : Lexeme → Bool
is_tag x = is_identifier_kind x.token.kind

-- a keyword that is a whole specifier (C17 6.7.1 to 6.7.3)
abbrev pub is_plain_specifier : Lexeme → Bool
is_plain_specifier x =
    is_keyword (codes "typedef") x || is_keyword (codes "static") x || is_keyword (codes "extern") x
    || is_keyword (codes "const") x || is_keyword (codes "void") x || is_keyword (codes "_Bool") x
    || is_keyword (codes "char") x || is_keyword (codes "short") x || is_keyword (codes "int") x
    || is_keyword (codes "long") x || is_keyword (codes "signed") x
    || is_keyword (codes "unsigned") x

-- a specifier word
abbrev pub is_specifier_word : Lexeme → Bool
is_specifier_word x =
    is_plain_specifier x || is_keyword (codes "struct") x || is_keyword (codes "enum") x

-- a specifier word or a typedef name
abbrev pub begins_specifiers : Lexeme → Bool
begins_specifiers x = is_specifier_word x || is_type_name x

-- what the next token is; no token is nothing
abbrev pub next_is : (Lexeme → Bool) → List Lexeme → Bool
next_is test [] = false
next_is test (x ∷ ts) = test x

abbrev pub sees : List ℕ → List Lexeme → Bool
sees text ts = next_is (is_punctuator text) ts

abbrev pub sees_keyword : List ℕ → List Lexeme → Bool
sees_keyword text ts = next_is (is_keyword text) ts

-- the next token begins specifiers
abbrev pub sees_specifiers : List Lexeme → Bool
sees_specifiers ts = next_is begins_specifiers ts

-- a `(` before a specifier word or a typedef name
abbrev pub sees_cast : List Lexeme → Bool
sees_cast [] = false
sees_cast (x ∷ ts) = is_punctuator (codes "(") x && sees_specifiers ts

-- an identifier before `:`
abbrev pub sees_label : List Lexeme → Bool
sees_label [] = false
sees_label (x ∷ ts) = is_name x && sees (codes ":") ts

-- `void` alone, up to the closing parenthesis
abbrev pub sees_void_alone : List Lexeme → Bool
sees_void_alone [] = false
sees_void_alone (x ∷ ts) = is_keyword (codes "void") x && sees (codes ")") ts

-- Specifiers go on at a specifier word, and at a typedef name exactly where they have no type yet.
abbrev pub go_on : Bool → List Lexeme → Bool
go_on has_type ts = next_is is_specifier_word ts || (not has_type && next_is is_type_name ts)

-- an identifier of this text becomes a typedef name
abbrev pub retagged : List ℕ → Lexeme → Lexeme
retagged name x =
    if is_identifier_kind x.token.kind && bytes_eq x.token.text name
    then record { token = x.token; names_type = true } else x

-- From the end of its declarator a typedef's name is a typedef name in all following text.
unfoldable pub retag : List ℕ → List Lexeme → List Lexeme
retag name [] = []
retag name (x ∷ ts) = retagged name x ∷ retag name ts
