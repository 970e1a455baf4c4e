-- The tokens of a part of a source.
use Rattle.std.specs.Prelude.{Bool, true, false, ◌&&◌, nat_le, nat_lt, List, [], ◌∷◌, filter}
use Rattle.std.specs.List.{list_any}
use Rattle.std.specs.Str.{bytes_eq}
use Rattle.mc_span.specs.declared.span.Span.{Span}
use Rattle.mc_lex.specs.declared.token.TokenKind.{TokenKind}
use Rattle.mc_lex.specs.declared.token.TokenKind.TheVariants.{Identifier}
use Rattle.mc_lex.specs.Tokens.{Tok}

abbrev pub begins_in : Span → Tok → Bool
begins_in span t = nat_le span.start t.start && nat_lt t.start span.«end»

-- those that begin at the place of the part
abbrev pub tokens_in : List Tok → Span → List Tok
tokens_in tokens span = filter (begins_in span) tokens

-- the texts of the tokens are the same, one by one
abbrev pub are_same : List Tok → List Tok → Bool
are_same [] [] = true
are_same (t ∷ ts) (u ∷ us) = bytes_eq t.text u.text && are_same ts us
are_same _ _ = false

abbrev pub is_name : TokenKind → Bool
is_name Identifier = true
is_name kind = false

-- some token is an identifier (C17 6.4.2)
abbrev pub has_name : List Tok → Bool
has_name tokens = list_any (λ t. is_name t.kind) tokens
