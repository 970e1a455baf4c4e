-- What is left of a text to be read.
use Rattle.std.specs.Prelude.{ℕ, List, [], Option, Some, None}
use Rattle.plan_fields.specs.Numbers.{pieces_of}

-- the pieces of what stands after a space, where one stands
abbrev pub pieces_after : Option (List ℕ) → List (List ℕ)
pieces_after None = []
pieces_after (Some later) = pieces_of later
