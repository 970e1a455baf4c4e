-- Laws of the pieces of a text.
use Rattle.std.specs.Prelude.{◌≡◌, ℕ, List, []}
use Rattle.adapt_tokens.specs.Cuts.{Part, Cuts}

-- each text, whatever bytes it has, has pieces
abbrev pub EachTextHasPieces : Type 0
EachTextHasPieces = (bs : List ℕ) → (ps : List Part) × Cuts [] bs ps

-- and only one list of them
abbrev pub OnePieceList : Type 0
OnePieceList = (bs : List ℕ) (ps qs : List Part) → Cuts [] bs ps → Cuts [] bs qs → ps ≡ qs
