-- Worked texts: a function with all its probes, a product whose factor is grouped by a probe, and
-- an event's probe where none can stand.
use Rattle.std.specs.Prelude.{◌≡◌, ℕ, zero, ◌+◌, true, false, List, [], ◌∷◌, ◌++◌, length, map}
use Rattle.std.specs.Prelude.{codes}
use Rattle.mc_lex.specs.declared.token.TokenKind.{TokenKind}
use Rattle.mc_lex.specs.declared.token.TokenKind.TheVariants as kind
use Rattle.mc_lex.specs.Tokens.{Tok}
use Rattle.reread_pieces.specs.declared.bracket.Bracket.TheVariants as bracket
use Rattle.reread_pieces.specs.declared.piece.What.{What}
use Rattle.reread_pieces.specs.declared.piece.What.TheVariants as what
use Rattle.reread_pieces.specs.Pieces.{Mark, ArePieces}
use Rattle.reread_pieces.specs.Plain.{plain_of}

-- ---- texts

-- a token, apart from its place
pub record Written : Type 0 where
  pub kind : TokenKind
  pub text : List ℕ

abbrev pub key : List ℕ → Written
key text = record { kind = kind.Keyword; text = text }

abbrev pub name : List ℕ → Written
name text = record { kind = kind.Identifier; text = text }

abbrev pub mark : List ℕ → Written
mark text = record { kind = kind.Punctuator; text = text }

-- a constant; a lone `0` is octal
abbrev pub number : ℕ → List ℕ → Written
number zero text = record { kind = kind.Constant 0 false false 0; text = text }
number n text = record { kind = kind.Constant n true false 0; text = text }

-- the tokens of a text, one blank after each
abbrev pub spread : ℕ → List Written → List Tok
spread at [] = []
spread at (w ∷ ws) =
    record { kind = w.kind; text = w.text; start = at } ∷ spread (at + length w.text + 1) ws

-- ---- what is said of them

-- The text has these pieces, and these tokens without its probes.
abbrev pub Reads : List Tok → List What → List (List ℕ) → Type 0
Reads ts rows texts =
    (ps : List Mark) × ArePieces ts ps × (map (λ p. p.row) ps ≡ rows)
    × (map (λ t. t.text) (plain_of ps) ≡ texts)

-- It has none.
abbrev pub HasNone : List Tok → Type 0
HasNone ts = (ps : List Mark) → ArePieces ts ps → ⊥

-- `MCDC_H ( b ) ;` after its word
abbrev hit : Written → List Written
hit b = key (codes "MCDC_H") ∷ mark (codes "(") ∷ b ∷ mark (codes ")") ∷ mark (codes ";") ∷ []

abbrev probe : List ℕ → List Written → List Written
probe word numbers = key word ∷ mark (codes "(") ∷ numbers

abbrev comma : Written
comma = mark (codes ",")

-- ---- `int f ( int a , int b ) { return a && b ; }` with its probes

abbrev nought : Written
nought = number 0 (codes "0")

abbrev one : Written
one = number 1 (codes "1")

abbrev pub function : List Written
function =
    key (codes "int") ∷ name (codes "f") ∷ mark (codes "(") ∷ key (codes "int") ∷ name (codes "a")
    ∷ comma ∷ key (codes "int") ∷ name (codes "b") ∷ mark (codes ")") ∷ mark (codes "{")
    ∷ key (codes "unsigned") ∷ key (codes "mcdc_r") ∷ mark (codes "[") ∷ one ∷ mark (codes "]")
    ∷ mark (codes ";") ∷ hit nought
    ++ mark (codes "{") ∷ hit (number 2 (codes "2"))
    ++ mark (codes "{") ∷ key (codes "int") ∷ key (codes "mcdc_v") ∷ mark (codes "=")
    ∷ probe (codes "MCDC_D") (nought ∷ comma ∷ number 3 (codes "3") ∷ comma ∷ [])
    ++ probe (codes "MCDC_C")
    (nought ∷ comma ∷ nought ∷ comma ∷ number 2 (codes "2") ∷ comma ∷ [])
    ++ name (codes "a") ∷ mark (codes ")") ∷ mark (codes "&&")
    ∷ probe (codes "MCDC_C") (nought ∷ comma ∷ nought ∷ comma ∷ one ∷ comma ∷ [])
    ++ name (codes "b") ∷ mark (codes ")") ∷ mark (codes ")") ∷ mark (codes ";") ∷ hit one
    ++ key (codes "return") ∷ key (codes "mcdc_v") ∷ mark (codes ";") ∷ mark (codes "}")
    ∷ mark (codes "}") ∷ mark (codes "}") ∷ []

abbrev opening : What
opening = what.Opening bracket.Parenthesis

abbrev pub TheFunction : Type 0
TheFunction =
    Reads (spread 0 function)
    (what.Source ∷ what.Source ∷ opening ∷ what.Source ∷ what.Source ∷ what.Source ∷ what.Source
    ∷ what.Source ∷ what.Closing ∷ what.Opening bracket.Body ∷ what.Registers 1 ∷ what.Entry 0
    ∷ what.Statement 2 ∷ what.Value ∷ what.Decision 0 3 ∷ what.Condition 0 0 2 ∷ what.Source
    ∷ what.OperandEnd ∷ what.Source ∷ what.Condition 0 0 1 ∷ what.Source ∷ what.OperandEnd
    ∷ what.OperandEnd ∷ what.ValueEnd 1 ∷ what.StatementEnd ∷ what.Closing ∷ [])
    (codes "int" ∷ codes "f" ∷ codes "(" ∷ codes "int" ∷ codes "a" ∷ codes "," ∷ codes "int"
    ∷ codes "b" ∷ codes ")" ∷ codes "{" ∷ codes "{" ∷ codes "return" ∷ codes "(" ∷ codes "("
    ∷ codes "a" ∷ codes ")" ∷ codes "&&" ∷ codes "(" ∷ codes "b" ∷ codes ")" ∷ codes ")"
    ∷ codes ";" ∷ codes "}" ∷ codes "}" ∷ [])

-- ---- `x * MCDC_D ( 0 , 1 , a < b ) ;`: the factor is the whole comparison

abbrev pub product : List Written
product =
    name (codes "x") ∷ mark (codes "*")
    ∷ probe (codes "MCDC_D") (nought ∷ comma ∷ one ∷ comma ∷ [])
    ++ name (codes "a") ∷ mark (codes "<") ∷ name (codes "b") ∷ mark (codes ")") ∷ mark (codes ";")
    ∷ []

abbrev pub TheProduct : Type 0
TheProduct =
    Reads (spread 0 product)
    (what.Source ∷ what.Source ∷ what.Decision 0 1 ∷ what.Source ∷ what.Source ∷ what.Source
    ∷ what.OperandEnd ∷ what.Source ∷ [])
    (codes "x" ∷ codes "*" ∷ codes "(" ∷ codes "a" ∷ codes "<" ∷ codes "b" ∷ codes ")"
    ∷ codes ";" ∷ [])

-- ---- `int f ( void ) { a = 1 ; MCDC_H ( 0 ) ; return a ; }`: neither an entry nor an exit, and no
-- declaration follows

abbrev pub misplaced : List Written
misplaced =
    key (codes "int") ∷ name (codes "f") ∷ mark (codes "(") ∷ key (codes "void") ∷ mark (codes ")")
    ∷ mark (codes "{") ∷ name (codes "a") ∷ mark (codes "=") ∷ one ∷ mark (codes ";") ∷ hit nought
    ++ key (codes "return") ∷ name (codes "a") ∷ mark (codes ";") ∷ mark (codes "}") ∷ []

abbrev pub TheMisplaced : Type 0
TheMisplaced = HasNone (spread 0 misplaced)
