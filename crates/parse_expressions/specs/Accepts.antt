-- Tokens that are taken if they are next.
use Rattle.std.specs.Prelude.{◌≡◌, Bool, true, false, List, Option, Some, None}
use Rattle.mc_grammar.specs.Words.{Lexeme}

-- the next token was taken where a test of what was left held, and nothing where it did not
abbrev pub Accepts : {X Y : Type 0} → (X → Y) → Bool → Option (Y × List Lexeme) → Option X
    → List Lexeme → List Lexeme → Type 0
Accepts view test read (Some x) before rest = (test ≡ true) × (read ≡ Some (view x, rest))
Accepts view test read None before rest = (test ≡ false) × (rest ≡ before)
