-- The words of a printed text, and the places at which they stand in it.
use Rattle.std.specs.Prelude.{◌≡◌, ◌≤◌, ◌+◌, ◌==◌, ℕ, true, false, not, List, [], ◌∷◌, ◌++◌, length, map, Ok, if◌then◌else◌, codes, decimal}
use Rattle.std.specs.Str.{bytes_eq}
use Rattle.std.specs.Str.Parse.{digits_value}
use Rattle.mc_lex.specs.declared.token.Dialect.{Dialect}
use Rattle.mc_lex.specs.declared.token.TokenKind.{TokenKind}
use Rattle.mc_lex.specs.declared.token.TokenKind.TheVariants.{Keyword, Punctuator, Constant}
use Rattle.mc_lex.specs.Tokens.{Tok}
use Rattle.mc_lex.specs.Words.{one_of, probe_names}
use Rattle.mc_lex.specs.Scans.{Means}

-- the text by itself is a token of this kind
abbrev pub IsToken : Dialect → Tok → Type 0
IsToken dialect t = Means dialect t.text (Ok t.kind)

-- the tokens from a byte on, with one byte between them
abbrev pub laid : ℕ → List Tok → List Tok
laid at [] = []
laid at (t ∷ ts) =
    record { kind = t.kind; text = t.text; start = at } ∷ laid (at + length t.text + 1) ts

-- ---- what the table inserts

-- the names of the probes, and two keywords
unfoldable pub inserted_words : List (List ℕ)
inserted_words = probe_names ++ codes "unsigned" ∷ codes "return" ∷ []

unfoldable pub inserted_punctuators : List (List ℕ)
inserted_punctuators =
    codes "(" ∷ codes ")" ∷ codes "[" ∷ codes "]" ∷ codes "{" ∷ codes "}" ∷ codes "," ∷ codes ";"
    ∷ codes "=" ∷ []

-- A number in decimal, without a suffix; 0 is an octal constant (C17 6.4.4.1).
abbrev pub number : ℕ → TokenKind
number n = Constant n (not (n == 0)) false 0

-- a text that the table inserts, and its kind
pub data IsInserted : List ℕ → TokenKind → Type 0 where
  word : (text : List ℕ) → one_of inserted_words text ≡ true → IsInserted text Keyword
  punctuator : (text : List ℕ) → one_of inserted_punctuators text ≡ true
      → IsInserted text Punctuator
  numeral : (n : ℕ) → n ≤ 4294967295 → IsInserted (decimal n) (number n)

-- ---- the kinds of printed words

abbrev pub inserted_kind : List ℕ → TokenKind
inserted_kind text =
    if one_of inserted_words text then Keyword
    else (if one_of inserted_punctuators text then Punctuator else number (digits_value 10 text))

-- the kind of a token of the source with this text, and without such a token that of an insertion
abbrev pub kind_in : List Tok → List ℕ → TokenKind
kind_in [] text = inserted_kind text
kind_in (t ∷ ts) text = if bytes_eq t.text text then t.kind else kind_in ts text

-- the token of a printed word, without its place
abbrev pub token_in : List Tok → List ℕ → Tok
token_in source text = record { kind = kind_in source text; text = text; start = 0 }

abbrev pub tokens_in : List Tok → List (List ℕ) → List Tok
tokens_in source texts = map (token_in source) texts
