-- Where rows of the table may stand in the tokens of a source.
use Rattle.std.specs.Prelude.{◌≡◌, ℕ, Bool, true, false, ◌&&◌, ◌||◌, List, [], ◌∷◌, ◌++◌, All}
use Rattle.std.specs.Prelude.{codes}
use Rattle.std.specs.List.{list_any}
use Rattle.mc_span.specs.declared.span.Span.{Span}
use Rattle.mc_lex.specs.Tokens.{Tok}
use Rattle.reread_pieces.specs.declared.bracket.Bracket.{Bracket}
use Rattle.reread_pieces.specs.declared.bracket.Bracket.TheVariants as bracket
use Rattle.reread_pieces.specs.declared.piece.What.{What}
use Rattle.reread_pieces.specs.declared.piece.What.TheVariants as what
use Rattle.reread_pieces.specs.Words.{is, is_name, begins_declaration}
use Rattle.reread_law_texts.specs.alike.Moves.{end_of}
use Rattle.reread_law_rows.specs.inserted.Rows.{Row}

-- ---- brackets of a source

abbrev pub is_bracket : Tok → Bool
is_bracket t =
    is (codes "(") t || is (codes ")") t || is (codes "[") t || is (codes "]") t
    || is (codes "{") t || is (codes "}") t

-- two brackets that belong together
abbrev pub is_pair : Tok → Tok → Bool
is_pair a b =
    is (codes "(") a && is (codes ")") b
    || is (codes "[") a && is (codes "]") b
    || is (codes "{") a && is (codes "}") b

-- Each bracket among the tokens belongs to another one of them.
pub data IsBalanced : List Tok → Type 0 where
  nothing : IsBalanced []
  other : {t : Tok} {ts : List Tok} → is_bracket t ≡ false → IsBalanced ts → IsBalanced (t ∷ ts)
  pair : (a b : Tok) (inside ts : List Tok)
      → is_pair a b ≡ true → IsBalanced inside → IsBalanced ts
      → IsBalanced (a ∷ inside ++ b ∷ ts)

-- ---- tokens at a place

-- The first of these tokens starts at this byte.
abbrev pub StartsAt : ℕ → List Tok → Type 0
StartsAt at [] = ⊥
StartsAt at (t ∷ ts) = t.start ≡ at

-- The last of these tokens ends at this byte.
abbrev pub EndsAt : ℕ → List Tok → Type 0
EndsAt at [] = ⊥
EndsAt at (t ∷ []) = end_of t ≡ at
EndsAt at (t ∷ u ∷ ts) = EndsAt at (u ∷ ts)

-- some tokens before a place, those at the place, and some after it
pub record StandsAmong (tokens : List Tok) (span : Span) : Type 0 where
  pub before : List Tok
  pub inside : List Tok
  pub after : List Tok
  pub all : tokens ≡ before ++ inside ++ after
  pub start : StartsAt span.start inside
  pub end : EndsAt span.end inside

-- ---- what stands at the place of a row

-- the last of these tokens passes the test; of no tokens it is false
abbrev pub last_is : (Tok → Bool) → List Tok → Bool
last_is test [] = false
last_is test (t ∷ []) = test t
last_is test (t ∷ u ∷ ts) = last_is test (u ∷ ts)

-- An expression: its brackets are balanced, and no name stands directly before it.
pub record IsOperandAmong (tokens : List Tok) (span : Span) : Type 0 where
  pub place : StandsAmong tokens span
  pub balanced : IsBalanced place.inside
  pub before : last_is is_name place.before ≡ false

-- the first token has this text
abbrev pub first_is : List ℕ → List Tok → Bool
first_is text [] = false
first_is text (t ∷ ts) = is text t

-- A counted statement: it is no compound statement, and no declaration.
pub record IsStatementAmong (tokens : List Tok) (span : Span) : Type 0 where
  pub place : StandsAmong tokens span
  pub balanced : IsBalanced place.inside
  pub brace : first_is (codes "{") place.inside ≡ false
  pub declaration : begins_declaration (place.inside ++ place.after) ≡ false

pub record IsDeclarationAmong (tokens : List Tok) (span : Span) : Type 0 where
  pub place : StandsAmong tokens span
  pub begins : begins_declaration (place.inside ++ place.after) ≡ true

-- a label through its colon
pub record IsLabelAmong (tokens : List Tok) (span : Span) : Type 0 where
  pub place : StandsAmong tokens span
  pub colon : last_is (is (codes ":")) place.inside ≡ true

-- A `switch`: it does not end with a label.
pub record IsSwitchAmong (tokens : List Tok) (span : Span) : Type 0 where
  pub place : StandsAmong tokens span
  pub end : last_is (is (codes ":")) place.inside ≡ false

-- `return`, these tokens, and `;`
pub record IsReturnAmong (tokens : List Tok) (span : Span) (value : List Tok) : Type 0 where
  pub place : StandsAmong tokens span
  pub word : Tok
  pub semicolon : Tok
  pub tokens_are : place.inside ≡ word ∷ value ++ semicolon ∷ []
  pub word_is : is (codes "return") word ≡ true
  pub semicolon_is : is (codes ";") semicolon ≡ true

-- a `return` with a value, in which no `;` stands
pub record ReturnsAmong (tokens : List Tok) (span : Span) : Type 0 where
  pub value : List Tok
  pub stands : IsReturnAmong tokens span value
  pub balanced : IsBalanced value
  pub one : list_any (is (codes ";")) value ≡ false

-- A row stands at an operand, statement, declaration, label, `switch` or `return`, as the table
-- says. Of rows of a whole function, and of ends, nothing is asked.
abbrev pub Fits : List Tok → What → Span → Type 0
Fits tokens (what.Decision r base) span = IsOperandAmong tokens span
Fits tokens (what.Condition r t f) span = IsOperandAmong tokens span
Fits tokens (what.Switch r) span = IsOperandAmong tokens span
Fits tokens (what.Statement b) span = IsStatementAmong tokens span
Fits tokens (what.Default r b) span = IsSwitchAmong tokens span
Fits tokens (what.Declaration b) span = IsDeclarationAmong tokens span
Fits tokens (what.Label r b) span = IsLabelAmong tokens span
Fits tokens what.Value span = ReturnsAmong tokens span
Fits tokens (what.Return b) span = IsReturnAmong tokens span []
Fits tokens w span = Unit {0}

abbrev pub AllFit : List Tok → List Row → Type 0
AllFit tokens rows = All (λ r. Fits tokens r.what r.span) rows
