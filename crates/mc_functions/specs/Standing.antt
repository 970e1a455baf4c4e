-- In which function an obligation stands.
use Rattle.std.specs.Prelude.{◌≡◌, ℕ, ◌+◌, ◌<◌, ◌≤◌, ◌⊎◌, Bool, true, false, nat_le, if◌then◌else◌, List, [], ◌∷◌, length, slice_index_or}
use Rattle.mc_oblige.specs.declared.obligation.ObligationId.{ObligationId}
use Rattle.mc_oblige.specs.declared.obligation.ObligationId.TheVariants.{Entry}
use Rattle.mc_oblige.specs.declared.obligation.Obligation.{Obligation}

abbrev pub is_entry : ObligationId → Bool
is_entry (Entry k) = true
is_entry _ = false

-- the places of the functions' names, in the order of the text: those of the entries
abbrev pub name_places : List Obligation → List ℕ
name_places [] = []
name_places (o ∷ os) = if is_entry o.id then o.span.start ∷ name_places os else name_places os

-- The place stands in function k: that function's name does not stand after it, and the names of
-- all later functions do. What stands before all names stands in the first function.
pub record StandsIn (names : List ℕ) (k at : ℕ) : Type 0 where
  pub there : k < length names
  pub begun : (slice_index_or names k 0 ≤ at) ⊎ (k ≡ 0)
  pub last : (later : ℕ) → k < later → later < length names → at < slice_index_or names later 0

-- the number of this function, by a walk through the names from the first one on
abbrev pub function_from : (found k at : ℕ) → List ℕ → ℕ
function_from found k at [] = found
function_from found k at (name ∷ names) =
    function_from (if nat_le name at then k else found) (k + 1) at names

abbrev pub function_of : List ℕ → ℕ → ℕ
function_of names at = function_from 0 0 at names
