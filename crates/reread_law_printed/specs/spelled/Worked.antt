-- A worked text: the words `{ MCDC_H ( 2 ) ; b = ' ' ; }`, with a blank in a character constant.
use Rattle.std.specs.Prelude.{ℕ, List, [], ◌∷◌, pos, codes}
use Rattle.mc_lex.specs.declared.token.TokenKind.{TokenKind}
use Rattle.mc_lex.specs.declared.token.TokenKind.TheVariants.{Identifier, Keyword, Punctuator, Character}
use Rattle.mc_lex.specs.Tokens.{Tok}
use Rattle.reread_law_printed.specs.spelled.Words.{number}

abbrev pub token : TokenKind → List ℕ → ℕ → Tok
token kind text start = record { kind = kind; text = text; start = start }

-- of the source `{b=' ';}`
abbrev pub source : List Tok
source =
    token Punctuator (codes "{") 0 ∷ token Identifier (codes "b") 1
    ∷ token Punctuator (codes "=") 2 ∷ token (Character (pos 32)) (codes "' '") 3
    ∷ token Punctuator (codes ";") 6 ∷ token Punctuator (codes "}") 7 ∷ []

-- as they were printed, without places
abbrev pub words : List Tok
words =
    token Punctuator (codes "{") 0 ∷ token Keyword (codes "MCDC_H") 0
    ∷ token Punctuator (codes "(") 0 ∷ token (number 2) (codes "2") 0
    ∷ token Punctuator (codes ")") 0 ∷ token Punctuator (codes ";") 0
    ∷ token Identifier (codes "b") 0 ∷ token Punctuator (codes "=") 0
    ∷ token (Character (pos 32)) (codes "' '") 0 ∷ token Punctuator (codes ";") 0
    ∷ token Punctuator (codes "}") 0 ∷ []

abbrev pub text : List ℕ
text = codes "{\nMCDC_H ( 2 ) ;\nb = ' ' ;\n}\n"

-- as they are read
abbrev pub tokens : List Tok
tokens =
    token Punctuator (codes "{") 0 ∷ token Keyword (codes "MCDC_H") 2
    ∷ token Punctuator (codes "(") 9 ∷ token (number 2) (codes "2") 11
    ∷ token Punctuator (codes ")") 13 ∷ token Punctuator (codes ";") 15
    ∷ token Identifier (codes "b") 17 ∷ token Punctuator (codes "=") 19
    ∷ token (Character (pos 32)) (codes "' '") 21 ∷ token Punctuator (codes ";") 25
    ∷ token Punctuator (codes "}") 27 ∷ []
