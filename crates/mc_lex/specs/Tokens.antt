-- A token, apart from where its text lies in memory.
use Rattle.std.specs.Prelude.{ℕ, List, map}
use Rattle.mc_lex.specs.declared.token.Token.{Token}
use Rattle.mc_lex.specs.declared.token.TokenKind.{TokenKind}

-- its kind, its bytes, and the place of the first of them
pub record Tok : Type 0 where
  pub kind : TokenKind
  pub text : List ℕ
  pub start : ℕ

-- what a token of the program stands for
abbrev pub tok_of : Token → Tok
tok_of t = record { kind = t.kind; text = t.text.now; start = t.start }

abbrev pub toks_of : List Token → List Tok
toks_of ts = map tok_of ts
