-- The token list of a source, or the first place where no token stands.
use Rattle.std.specs.Prelude.{◌≡◌, ◌≤◌, ℕ, true, false, ◌==◌, List, [], ◌∷◌, ◌++◌, length, Option, Some, None, Result, Ok, Err}
use Rattle.mc_lex.specs.declared.token.Dialect.{Dialect}
use Rattle.mc_lex.specs.declared.token.TokenKind.{TokenKind}
use Rattle.mc_lex.specs.declared.token.TokenKind.TheVariants.{Punctuator, Character}
use Rattle.mc_lex.specs.declared.fault_kind.FaultKind.{FaultKind}
use Rattle.mc_lex.specs.declared.fault_kind.FaultKind.TheVariants as fault_kind
use Rattle.mc_lex.specs.declared.fault.LexFault.{LexFault}
use Rattle.mc_lex.specs.declared.fault.LexFault.TheVariants as fault
use Rattle.mc_lex.specs.Bytes.{is_white_space}
use Rattle.mc_lex.specs.Words.{one_of, is_word, word_kind}
use Rattle.mc_lex.specs.Numbers.{is_number, NumberMeans}
use Rattle.mc_lex.specs.Characters.{IsCharacter, signed_char}
use Rattle.mc_lex.specs.Punctuators.{punctuators, outside_punctuators, literal_openings}
use Rattle.mc_lex.specs.Gaps.{IsGap, begins_comment}
use Rattle.mc_lex.specs.Tokens.{Tok}

-- What a text is, by itself: a token of a kind, or why it is not a token here.
pub data Means (dialect : Dialect) : List ℕ → Result TokenKind FaultKind → Type 0 where
  word : (text : List ℕ) → is_word text ≡ true → Means dialect text (word_kind dialect text)
  number : (text : List ℕ) (what : Result TokenKind FaultKind) → is_number text ≡ true
      → NumberMeans text what → Means dialect text what
  character : (text : List ℕ) (byte : ℕ) → IsCharacter text byte
      → Means dialect text (Ok (Character (signed_char byte)))
  punctuator : (text : List ℕ) → one_of punctuators text ≡ true
      → Means dialect text (Ok Punctuator)
  outside_punctuator : (text : List ℕ) → one_of outside_punctuators text ≡ true
      → Means dialect text (Err fault_kind.OutsideWord)
  literal_opening : (text : List ℕ) → one_of literal_openings text ≡ true
      → Means dialect text (Err fault_kind.OutsideWord)

-- The bytes are this text and the others, and no longer text at their start means anything
-- (C17 6.4, the longest sequence).
pub record IsLongest (dialect : Dialect) (text after bs : List ℕ)
    (what : Result TokenKind FaultKind) : Type 0 where
  pub whole : bs ≡ text ++ after
  pub means : Means dialect text what
  pub longest : (other rest : List ℕ) (something : Result TokenKind FaultKind)
      → bs ≡ other ++ rest → Means dialect other something → length other ≤ length text

-- nothing at the start of the bytes means anything
abbrev pub MeansNothing : Dialect → List ℕ → Type 0
MeansNothing dialect bs =
    (text after : List ℕ) (what : Result TokenKind FaultKind)
    → bs ≡ text ++ after → Means dialect text what → ⊥

-- After the bytes before it, no token and no gap stands at the start of these bytes,
-- and this is why.
pub data Stops (dialect : Dialect) (before : List ℕ) : List ℕ → FaultKind → Type 0 where
  -- the longest text is not a token
  not_a_token : (text after bs : List ℕ) (why : FaultKind) → begins_comment bs ≡ false
      → IsLongest dialect text after bs (Err why) → Stops dialect before bs why
  -- a comment is not closed
  open_comment : (bs : List ℕ) → ((inside after : List ℕ) → bs ≡ inside ++ (42 ∷ 47 ∷ after) → ⊥)
      → Stops dialect before (47 ∷ 42 ∷ bs) fault_kind.Token
  -- a `#` does not begin a line marker
  directive : (bs : List ℕ)
      → ((text after : List ℕ) → (35 ∷ bs) ≡ text ++ after → IsGap before text after → ⊥)
      → Stops dialect before (35 ∷ bs) fault_kind.Directive
  -- a `'` does not begin a character constant
  open_quote : (bs : List ℕ) → MeansNothing dialect (39 ∷ bs)
      → Stops dialect before (39 ∷ bs) fault_kind.Token
  -- a byte begins nothing
  begins_nothing : (b : ℕ) (bs : List ℕ) → is_white_space b ≡ false → (b == 35) ≡ false
      → (b == 39) ≡ false → begins_comment (b ∷ bs) ≡ false → MeansNothing dialect (b ∷ bs)
      → Stops dialect before (b ∷ bs) fault_kind.Byte

-- the fault of a kind at a place
abbrev pub fault_at : FaultKind → ℕ → LexFault
fault_at fault_kind.Byte at = fault.Byte at
fault_at fault_kind.Token at = fault.Token at
fault_at fault_kind.Directive at = fault.Directive at
fault_at fault_kind.OutsideWord at = fault.OutsideWord at
fault_at fault_kind.Limit at = fault.Limit at

-- After the bytes before them, the bytes have these tokens with gaps between them, up to their end,
-- or up to the first place where neither stands, with its fault. A token's start is the number of
-- bytes before it.
pub data Scans (dialect : Dialect)
    : (before bs : List ℕ) → List Tok → Option LexFault → Type 0 where
  ends : (before : List ℕ) → Scans dialect before [] [] None
  gap : (before text after bs : List ℕ) (ts : List Tok) (stop : Option LexFault)
      → bs ≡ text ++ after → IsGap before text after
      → Scans dialect (before ++ text) after ts stop → Scans dialect before bs ts stop
  token : (before text after bs : List ℕ) (kind : TokenKind) (ts : List Tok)
      (stop : Option LexFault) → begins_comment bs ≡ false
      → IsLongest dialect text after bs (Ok kind) → Scans dialect (before ++ text) after ts stop
      → Scans dialect before bs
      (record { kind = kind; text = text; start = length before } ∷ ts) stop
  stops : (before bs : List ℕ) (why : FaultKind) → Stops dialect before bs why
      → Scans dialect before bs [] (Some (fault_at why (length before)))
