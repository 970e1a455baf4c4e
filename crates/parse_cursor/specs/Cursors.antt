-- What a cursor leaves to read: its tokens, with those marked that are names of typedefs in force.
use Rattle.std.specs.Prelude.{◌≡◌, ℕ, Bool, ◌&&◌, List, [], ◌∷◌, map, Option, Some, None, Result, Ok, Err}
use Rattle.std.specs.List.{list_any}
use Rattle.std.specs.Str.{bytes_eq}
use Rattle.mc_lex.specs.declared.token.TokenKind.{TokenKind}
use Rattle.mc_lex.specs.Tokens.{Tok, toks_of}
use Rattle.mc_grammar.specs.Words.{Lexeme, is_identifier_kind}
use Rattle.name_table.specs.Tables.{Named}
use Rattle.parse_cursor.specs.declared.cursor.Cursor.{Cursor}
use Rattle.parse_cursor.specs.declared.fault.Fault.{Fault}
use Rattle.parse_cursor.specs.declared.fault.Fault.TheVariants.{Syntax, OutOfMemory}

-- the names of typedefs in force
abbrev pub Names : Type 0
Names = List (Named (Unit {0}))

-- whether this text is one of the names
abbrev pub has_name : Names → List ℕ → Bool
has_name names text = list_any (λ n. bytes_eq n.name text) names

-- a token, where these are the names of typedefs in force
abbrev pub marked : Names → Tok → Lexeme
marked names token =
    record {
      token = token;
      names_type = is_identifier_kind token.kind && has_name names token.text;
    }

unfoldable pub marked_all : Names → List Tok → List Lexeme
marked_all names tokens = map (marked names) tokens

-- what is left to read
abbrev pub left_of : Cursor → List Lexeme
left_of tokens = marked_all tokens.names (toks_of tokens.rest.now)

-- nothing is read where the fault is one of syntax
abbrev pub Refuses : {Y : Type 0} → Option (Y × List Lexeme) → Fault → Type 0
Refuses read Syntax = read ≡ None
Refuses read OutOfMemory = Unit {0}

-- a function returned what a reader gives, and left what it leaves
abbrev pub Gives : {X Y : Type 0} → (X → Y) → Option (Y × List Lexeme) → Result X Fault
    → List Lexeme
    → Type 0
Gives view read (Ok x) rest = read ≡ Some (view x, rest)
Gives view read (Err fault) rest = Refuses read fault

-- the kind of the next token
abbrev pub kind_next : List Lexeme → Option TokenKind
kind_next [] = None
kind_next (x ∷ ts) = Some x.token.kind

-- a node that was made on the heap: nothing else can go wrong than memory
abbrev pub NotMade : Fault → Type 0
NotMade Syntax = ⊥
NotMade OutOfMemory = Unit {0}
