-- What the register of a decision or a `switch` holds while it is evaluated.
use Rattle.std.specs.Prelude.{ℕ, ◌+◌, ◌%◌, ◌^◌, Bool, true, false, List, [], slice_get, slice_set, unwrap_or, Option, Some, None}
use Rattle.mc_stack.specs.Rooms.{Room, with_values}
use Rattle.interp_steps.specs.Hits.{hits_of}

abbrev pub value_at : List ℕ → ℕ → ℕ
value_at row k = unwrap_or (slice_get row k) 0

-- sums wrap
abbrev pub wrapped_sum : ℕ → ℕ → ℕ
wrapped_sum a b = (a + b) % 2 ^ 32

-- where a label's register was set it is set back
abbrev pub with_taken : Bool → Room ℕ → ℕ → Room ℕ
with_taken true room k = with_values room (slice_set room.items k 0)
with_taken false room k = room

-- The path of a decision has its bit. A decision in which the run stopped has no path.
abbrev pub path_hits : Option Bool → ℕ → ℕ → ℕ → List ℕ
path_hits None bits base sum = []
path_hits (Some b) bits base sum = hits_of bits (wrapped_sum base sum)
