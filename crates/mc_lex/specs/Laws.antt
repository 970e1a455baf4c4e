-- Laws of the token list.
use Rattle.std.specs.Prelude.{◌≡◌, ◌<◌, ℕ, List, [], length, Option, Some}
use Rattle.mc_lex.specs.declared.token.Dialect.{Dialect}
use Rattle.mc_lex.specs.declared.fault.LexFault.{LexFault}
use Rattle.mc_lex.specs.Faults.{fault_place}
use Rattle.mc_lex.specs.Scans.{Scans}
use Rattle.mc_lex.specs.Tokens.{Tok}

-- a source has at most one token list, or first place without a token
abbrev pub OneScan : Type 0
OneScan =
    (d : Dialect) (bs : List ℕ) (ts us : List Tok) (stop other : Option LexFault)
    → Scans d [] bs ts stop → Scans d [] bs us other → (ts ≡ us) × (stop ≡ other)

-- a source has a token list, or a first place without a token, with the tokens before it
abbrev pub EachSourceHasAScan : Type 0
EachSourceHasAScan =
    (d : Dialect) (bs : List ℕ) → (ts : List Tok) × (stop : Option LexFault) × Scans d [] bs ts stop

-- the first place without a token is that of a byte
abbrev pub FaultsAreInside : Type 0
FaultsAreInside =
    (d : Dialect) (bs : List ℕ) (ts : List Tok) (e : LexFault) (at : ℕ)
    → Scans d [] bs ts (Some e) → fault_place e ≡ Some at → at < length bs
