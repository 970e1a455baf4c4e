-- What the parser asks of tokens.
use Rattle.std.specs.Prelude.{◌<◌, ◌+◌, ◌^◌, List, [], ◌∷◌, length, Result, Ok, Err}
use Rattle.mc_lex.specs.declared.token.Dialect.TheVariants.{Instrumented}
use Rattle.mc_lex.specs.Tokens.{Tok}
use Rattle.mc_tree.specs.Tree.{Item}
use Rattle.mc_grammar.specs.Items.{IsSyntaxOf}
use Rattle.reread_program.specs.declared.fault.RereadFault.{RereadFault}
use Rattle.reread_program.specs.Reading.{IsOnSyntax}

-- a token ends where a place may
abbrev pub IsShort : Tok → Type 0
IsShort t = t.start + length t.text < 2 ^ 31

abbrev pub AreShort : List Tok → Type 0
AreShort [] = Unit {0}
AreShort (t ∷ ts) = IsShort t × AreShort ts

-- the tree of tokens, or that they have none
abbrev pub ParsesTokens : List Tok → Result (List Item) RereadFault → Type 0
ParsesTokens tokens (Ok unit) = IsSyntaxOf Instrumented tokens unit
ParsesTokens tokens (Err f) =
    ((unit : List Item) → IsSyntaxOf Instrumented tokens unit → ⊥) × IsOnSyntax (length tokens) f
