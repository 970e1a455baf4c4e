-- Bits that are hit, and the units that are spent for them.
use Rattle.std.specs.Prelude.{◌≡◌, ℕ, suc, nat_lt, Bool, true, false, if◌then◌else◌, List, [], ◌∷◌, Option, Some, None}

-- a bit that is none of so many is not hit
abbrev pub hits_of : ℕ → ℕ → List ℕ
hits_of bits bit = if nat_lt bit bits then bit ∷ [] else []

abbrev pub hits_of_some : ℕ → Option ℕ → List ℕ
hits_of_some bits None = []
hits_of_some bits (Some bit) = hits_of bits bit

-- a unit was spent, or none was left
abbrev pub IsSpent : Bool → ℕ → ℕ → Type 0
IsSpent true old new = old ≡ suc new
IsSpent false old new = (old ≡ 0) × (new ≡ 0)

-- what is hit after what came out, or for a unit that was spent
abbrev pub hits_after : Bool → ℕ → Option ℕ → List ℕ
hits_after true bits bit = hits_of_some bits bit
hits_after false bits bit = []
