-- Structures by their numbers.
use Rattle.std.proofs.Common.{◌≡◌, ℕ, List, map, slice_get, option_map}
use Rattle.std.proofs.lemmas.Option.{slice_get-map}
use Rattle.types_scopes.specs.Views.{structure_of}
use Rattle.types_scopes.specs.declared.members.Structure.{Structure}

-- what stands at a number
pub structure_at : (xs : List Structure) (k : ℕ)
    → slice_get (map structure_of xs) k ≡ option_map structure_of (slice_get xs k)
structure_at xs k = slice_get-map structure_of xs k
