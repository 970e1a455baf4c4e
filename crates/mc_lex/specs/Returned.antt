-- What `lex` returned, beside the token list of the source.
use Rattle.std.specs.Prelude.{◌≡◌, ◌≤◌, ℕ, ◌+◌, List, length, take, drop, Option, Some, None, Result, Ok, Err, Vec}
use Rattle.std.specs.Global.{Global}
use Rattle.mc_lex.specs.declared.token.Token.{Token}
use Rattle.mc_lex.specs.declared.fault.LexFault.{LexFault}
use Rattle.mc_lex.specs.declared.fault.LexFault.TheVariants as fault
use Rattle.mc_lex.specs.Tokens.{Tok, toks_of}

-- the fault, unless memory ran out
abbrev pub GivesFault : List Tok × Option LexFault → LexFault → Type 0
GivesFault found fault.OutOfMemory = Unit {0}
GivesFault found e = found.1 ≡ Some e

-- the tokens or the fault, unless memory ran out
abbrev pub Gives : List Tok × Option LexFault → Result (Vec Token Global) LexFault → Type 0
Gives found (Ok v) = found ≡ (toks_of v.items, None)
Gives found (Err e) = GivesFault found e

-- the text of each token is the slice of the source at its start
abbrev pub IsSlice : List ℕ → Tok → Type 0
IsSlice source t =
    (t.text ≡ take (length t.text) (drop t.start source))
    × (t.start + length t.text ≤ length source)
