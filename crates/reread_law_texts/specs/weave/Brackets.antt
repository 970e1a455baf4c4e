-- Brackets that are put round expressions and statements, and the tokens with them.
--
-- A bracket stands where what it encloses begins or ends, so no other place changes.
use Rattle.std.specs.Prelude.{◌<◌, ◌≤◌, ◌≡◌, ℕ, ◌-◌, zero, suc, Bool, true, false, List, [], ◌∷◌, codes}
use Rattle.mc_span.specs.declared.span.Span.{Span}
use Rattle.mc_lex.specs.declared.token.TokenKind.TheVariants as kind
use Rattle.mc_lex.specs.Tokens.{Tok}
use Rattle.mc_grammar.specs.Words.{Lexeme, lexeme_of}

-- how many parentheses are put round the expression that stands at a place, and whether braces are
-- put round the statement that does
pub record Brackets : Type 0 where
  pub parentheses : Span → ℕ
  pub braces : Span → Bool

-- Where there are brackets, the place ends after byte 0, as each place of a token does.
abbrev pub AreAfterTokens : Brackets → Type 0
AreAfterTokens w =
    ((span : Span) → 0 < w.parentheses span → 0 < span.end)
    × ((span : Span) → w.braces span ≡ true → 0 < span.end)

-- at most so many parentheses at each place
abbrev pub AreAtMost : ℕ → Brackets → Type 0
AreAtMost m w = (span : Span) → w.parentheses span ≤ m

-- ---- tokens with brackets

-- the next token of the source, or a punctuator with a place of its own
pub data Step : Type 0 where
  copy : Step
  put : List ℕ → ℕ → Step

abbrev pub sign : List ℕ → ℕ → Tok
sign text start = record { kind = kind.Punctuator; text = text; start = start }

-- the tokens that some steps make of those of the source; what they do not reach stays
abbrev pub run : List Step → List Lexeme → List Lexeme
run [] ts = ts
run (copy ∷ s) [] = []
run (copy ∷ s) (x ∷ ts) = x ∷ run s ts
run (put text start ∷ s) ts = lexeme_of (sign text start) ∷ run s ts

-- so many `(` where a place begins, and then these steps
abbrev pub opening : ℕ → Span → List Step → List Step
opening zero span s = s
opening (suc n) span s = put (codes "(") span.start ∷ opening n span s

-- so many `)` where a place ends, and then these steps
abbrev pub closing : ℕ → Span → List Step → List Step
closing zero span s = s
closing (suc n) span s = closing n span (put (codes ")") (span.end - 1) ∷ s)

-- An expression is what it does with the steps after it: these are its steps, in its parentheses.
abbrev pub in_parentheses : Brackets → Span → (List Step → List Step) → List Step → List Step
in_parentheses w span steps s =
    opening (w.parentheses span) span (steps (closing (w.parentheses span) span s))

-- the same for a statement and its braces
abbrev pub in_braces_by : Bool → Span → (List Step → List Step) → List Step → List Step
in_braces_by false span steps s = steps s
in_braces_by true span steps s =
    put (codes "{") span.start ∷ steps (put (codes "}") (span.end - 1) ∷ s)

abbrev pub in_braces : Brackets → Span → (List Step → List Step) → List Step → List Step
in_braces w span steps s = in_braces_by (w.braces span) span steps s
