-- Tokens whose places can be counted.
use Rattle.std.specs.Prelude.{◌<◌, ◌^◌, ◌+◌, length}
use Rattle.mc_lex.specs.declared.token.Token.{Token}

-- a token that ends before 2^31 bytes
abbrev pub IsShort : Token → Type 0
IsShort token = token.start + length token.text.now < 2 ^ 31
