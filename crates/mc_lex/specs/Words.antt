-- Words: identifiers, keywords, and the words that are left out (C17 6.4.1, 6.4.2).
use Rattle.std.specs.Prelude.{ℕ, Bool, false, ◌&&◌, List, [], ◌∷◌, Result, Ok, Err, if◌then◌else◌, codes}
use Rattle.std.specs.List.{list_all, list_any}
use Rattle.std.specs.Str.{bytes_eq}
use Rattle.mc_lex.specs.Bytes.{is_letter, is_word_byte}
use Rattle.mc_lex.specs.declared.token.Dialect.{Dialect}
use Rattle.mc_lex.specs.declared.token.Dialect.TheVariants.{Plain, Instrumented}
use Rattle.mc_lex.specs.declared.token.TokenKind.{TokenKind}
use Rattle.mc_lex.specs.declared.token.TokenKind.TheVariants.{Identifier, Keyword}
use Rattle.mc_lex.specs.declared.fault_kind.FaultKind.{FaultKind}
use Rattle.mc_lex.specs.declared.fault_kind.FaultKind.TheVariants.{OutsideWord}

-- the text is one of the table
abbrev pub one_of : List (List ℕ) → List ℕ → Bool
one_of table text = list_any (bytes_eq text) table

-- a letter or `_`, then letters, digits and `_` (C17 6.4.2.1)
abbrev pub is_word : List ℕ → Bool
is_word [] = false
is_word (b ∷ bs) = is_letter b && list_all is_word_byte bs

-- the keywords that are kept (C17 6.4.1)
unfoldable pub keywords : List (List ℕ)
keywords =
    codes "break" ∷ codes "case" ∷ codes "char" ∷ codes "const" ∷ codes "continue"
    ∷ codes "default" ∷ codes "do" ∷ codes "else" ∷ codes "enum" ∷ codes "extern" ∷ codes "for"
    ∷ codes "goto" ∷ codes "if" ∷ codes "int" ∷ codes "long" ∷ codes "return" ∷ codes "short"
    ∷ codes "signed" ∷ codes "static" ∷ codes "struct" ∷ codes "switch" ∷ codes "typedef"
    ∷ codes "unsigned" ∷ codes "void" ∷ codes "while" ∷ codes "_Bool" ∷ []

-- the keywords that are left out
unfoldable pub outside_keywords : List (List ℕ)
outside_keywords =
    codes "auto" ∷ codes "double" ∷ codes "float" ∷ codes "inline" ∷ codes "register"
    ∷ codes "restrict" ∷ codes "sizeof" ∷ codes "union" ∷ codes "volatile" ∷ codes "_Alignas"
    ∷ codes "_Alignof" ∷ codes "_Atomic" ∷ codes "_Complex" ∷ codes "_Generic"
    ∷ codes "_Imaginary" ∷ codes "_Noreturn" ∷ codes "_Static_assert" ∷ codes "_Thread_local" ∷ []

-- the names of the probes
unfoldable pub probe_names : List (List ℕ)
probe_names =
    codes "MCDC_H" ∷ codes "MCDC_L" ∷ codes "MCDC_W" ∷ codes "MCDC_D" ∷ codes "MCDC_C"
    ∷ codes "mcdc_r" ∷ codes "mcdc_v" ∷ []

-- the words of a dialect that are no words of C: the names of the probes, where the text has probes
abbrev pub own_words : Dialect → List (List ℕ)
own_words Plain = []
own_words Instrumented = probe_names

-- the words that a dialect reserves: the user may not write the names of the probes
abbrev pub reserved : Dialect → List (List ℕ)
reserved Plain = probe_names
reserved Instrumented = []

-- what a word is, by its text alone
abbrev pub word_kind : Dialect → List ℕ → Result TokenKind FaultKind
word_kind dialect text =
    if one_of keywords text then Ok Keyword
    else (if one_of (own_words dialect) text then Ok Keyword
    else (if one_of outside_keywords text then Err OutsideWord
    else (if one_of (reserved dialect) text then Err OutsideWord
    else Ok Identifier)))
