-- The same tokens at other places: two texts that differ in blanks and comments alone.
use Rattle.std.specs.Prelude.{◌≡◌, ◌≤◌, ◌<◌, ◌+◌, ◌==◌, ℕ, List, [], ◌∷◌, length, map, if◌then◌else◌}
use Rattle.mc_span.specs.declared.span.Span.{Span}
use Rattle.mc_lex.specs.Tokens.{Tok}
use Rattle.mc_grammar.specs.Words.{Lexeme}

-- Where the bytes of one text lie in another, at which its tokens start and after which they end.
-- Two functions, since a token may end where the next one starts in one text and not in the other.
pub record Move : Type 0 where
  pub start : ℕ → ℕ
  pub end : ℕ → ℕ

abbrev pub moved_span : Move → Span → Span
moved_span m span = record { start = m.start span.start; end = m.end span.end }

-- a token of the same kind and text, at its place in the other text
abbrev pub moved_token : Move → Tok → Tok
moved_token m x = record { kind = x.kind; text = x.text; start = m.start x.start }

abbrev pub moved_tokens : Move → List Tok → List Tok
moved_tokens m tokens = map (moved_token m) tokens

abbrev pub moved_lexeme : Move → Lexeme → Lexeme
moved_lexeme m x = record { token = moved_token m x.token; names_type = x.names_type }

abbrev pub moved_lexemes : Move → List Lexeme → List Lexeme
moved_lexemes m ts = map (moved_lexeme m) ts

-- the byte after the last of a token
abbrev pub end_of : Tok → ℕ
end_of x = x.start + length x.text

-- where the token ends is moved to where the moved token ends
abbrev pub Fits : Move → Tok → Type 0
Fits m x = m.end (end_of x) ≡ end_of (moved_token m x)

-- so for each token
abbrev pub AllFit : Move → List Tok → Type 0
AllFit m [] = Unit {0}
AllFit m (x ∷ tokens) = Fits m x × AllFit m tokens

-- the tokens of lexemes
abbrev pub tokens_of : List Lexeme → List Tok
tokens_of ts = map (λ x. x.token) ts

-- ---- two lists of tokens

abbrev pub without_place : Tok → Tok
without_place x = record { kind = x.kind; text = x.text; start = 0 }

-- The tokens of the two lists have the same kinds and texts, one after the other.
abbrev pub AreAlike : List Tok → List Tok → Type 0
AreAlike tokens others = map without_place tokens ≡ map without_place others

-- From this byte on each token has a text, and starts where the one before it ends or later.
abbrev pub FollowFrom : ℕ → List Tok → Type 0
FollowFrom place [] = Unit {0}
FollowFrom place (x ∷ tokens) =
    (place ≤ x.start) × (0 < length x.text) × FollowFrom (end_of x) tokens

-- the place in the second list of the token that starts here in the first
abbrev pub start_in : List Tok → List Tok → ℕ → ℕ
start_in (x ∷ tokens) (y ∷ others) at =
    if x.start == at then y.start else start_in tokens others at
start_in _ _ at = at

-- and of the token that ends here
abbrev pub end_in : List Tok → List Tok → ℕ → ℕ
end_in (x ∷ tokens) (y ∷ others) at =
    if end_of x == at then end_of y else end_in tokens others at
end_in _ _ at = at

-- from the tokens of the first list to those of the second
abbrev pub between : List Tok → List Tok → Move
between tokens others = record { start = start_in tokens others; end = end_in tokens others }
