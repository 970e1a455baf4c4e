-- Limits of this profile: cells, parameters, and types inside one another.
use Rattle.std.specs.Prelude.{ℕ, ◌+◌, nat_lt, nat_le, Bool, false, ◌&&◌, ◌||◌, List, [], ◌∷◌, Option, Some, None}
use Rattle.mc_limits.specs.Limits.{most_frame_cells, most_nesting, most_parameters, most_static_cells}
use Rattle.mc_value.specs.ObjectTypes.{most_cells}
use Rattle.mc_typed.specs.Layout.{ObjectType, cells, nesting}
use Rattle.types_faults.specs.declared.fault.Fault.{Fault}
use Rattle.types_faults.specs.declared.fault.FaultKind.TheVariants.{Limit}
use Rattle.types_faults.specs.Faults.{fault_if}
use Rattle.types_rules.specs.Profile.{most_counted, most_numbered}
use Rattle.types_rules.specs.Types.{CType, Structure, is_complete, layout_of}

-- an array has at most so many elements as an object has cells, whatever they are
abbrev pub is_long : List ℕ → Bool
is_long [] = false
is_long (n ∷ ns) = nat_lt most_cells n || is_long ns

abbrev pub is_large : ObjectType → Bool
is_large u = nat_lt most_cells (cells u) || nat_lt most_nesting (nesting u)

-- an object of this type, or an element of an array parameter
abbrev pub is_too_large : List Structure → CType → Bool
is_too_large all u = is_long u.lengths || is_large (layout_of all u)

abbrev pub object_limit_faults : List Structure → Option CType → ℕ → List Fault
object_limit_faults all None at = []
object_limit_faults all (Some u) at =
    fault_if (is_complete all u.base && is_too_large all u) Limit at

-- with so many more the sum passes the limit
abbrev pub is_passed_with : ℕ → ℕ → ℕ → Bool
is_passed_with most before more = nat_le before most && nat_lt most (before + more)

-- the first member with which the cells of its structure pass the limit, one that makes it nest too
-- deep, and a long array
abbrev pub is_large_member : ℕ → ObjectType → Bool
is_large_member before u =
    is_passed_with most_cells before (cells u) || nat_lt most_nesting (nesting u + 1)

-- a member after members with so many cells
abbrev pub member_limit_faults : ℕ → List Structure → Option CType → ℕ → List Fault
member_limit_faults before all None at = []
member_limit_faults before all (Some u) at =
    fault_if (is_long u.lengths || is_large_member before (layout_of all u)) Limit at

-- a member without a number, which a source of 1,048,576 bytes is too short for
abbrev pub member_count_faults : ℕ → ℕ → List Fault
member_count_faults count at = fault_if (nat_le most_counted count) Limit at

-- the first object with which all objects with static storage duration pass the limit, and one that
-- has no number, which a source of 1,048,576 bytes is too short for: this part never decides there
abbrev pub static_limit_faults : ℕ → ℕ → ObjectType → ℕ → List Fault
static_limit_faults before count u at =
    fault_if (is_passed_with most_static_cells before (cells u) || nat_le most_numbered count)
    Limit at

-- the cells of a frame, and its objects where some have no number, for which a source is too short
abbrev pub frame_faults : ℕ → ℕ → ℕ → List Fault
frame_faults frame count at =
    fault_if (nat_lt most_frame_cells frame || nat_lt most_numbered count) Limit at

abbrev pub parameter_count_faults : ℕ → ℕ → List Fault
parameter_count_faults count at = fault_if (nat_lt most_parameters count) Limit at
