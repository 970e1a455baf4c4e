-- A device of the parser's proof, and not a definition: it computes what the relation of mc_grammar
-- says.
--
-- A reader of the front of a list of tokens gives what it read and the tokens that it leaves, or
-- nothing.
use Rattle.std.specs.Prelude.{ℕ, Bool, if◌then◌else◌, List, [], ◌∷◌, Option, Some, None}
use Rattle.mc_span.specs.declared.span.Span.{Span}
use Rattle.mc_grammar.specs.Words.{Lexeme, is_punctuator, is_keyword, next_is, sees}
use Rattle.mc_grammar.specs.Places.{at}

abbrev pub Parser : Type 0 → Type 0
Parser A = List Lexeme → Option (A × List Lexeme)

abbrev pub and_then : {A B : Type 0} → Option (A × List Lexeme) → (A → Parser B)
    → Option (B × List Lexeme)
and_then (Some p) f = f p.0 p.1
and_then None f = None

infixl 10 ◌>>=◌
abbrev pub ◌>>=◌ : {A B : Type 0} → Parser A → (A → Parser B) → Parser B
p >>= f = λ ts. and_then (p ts) f

abbrev pub pure : {A : Type 0} → A → Parser A
pure a = λ ts. Some (a, ts)

abbrev pub refuse : {A : Type 0} → Parser A
refuse = λ ts. None

abbrev pub same : {A : Type 0} → A → A
same a = a

-- asks something of what is left
abbrev pub ask : {A : Type 0} → (List Lexeme → A) → Parser A
ask question = λ ts. Some (question ts, ts)

-- whether the next token is this punctuator
abbrev pub see : List ℕ → Parser Bool
see text = ask (sees text)

-- takes the next token
abbrev pub take : Parser Lexeme
take [] = None
take (x ∷ ts) = Some (x, ts)

-- takes the next token, which has to pass a test
unfoldable pub accept : (Lexeme → Bool) → Parser Lexeme
accept test = λ ts. if next_is test ts then take ts else None

abbrev pub expect : List ℕ → Parser Lexeme
expect text = accept (is_punctuator text)

abbrev pub expect_keyword : List ℕ → Parser Lexeme
expect_keyword text = accept (is_keyword text)

-- where the next token stands
abbrev pub first : Parser Span
first [] = None
first (x ∷ ts) = Some (at x, x ∷ ts)

-- goes on only where a test holds
abbrev pub only : {A : Type 0} → Bool → Parser A → Parser A
only test p = λ ts. if test then p ts else None
