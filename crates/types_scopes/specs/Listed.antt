-- What members of the program stand for, and where they begin.
use Rattle.std.specs.Prelude.{◌≡◌, min, ℕ, List, map, slice_get, Option, Some, None, option_map}
use denote.Ref.{Bor}
use Rattle.mc_value.specs.declared.object_type.ObjType.{ObjType}
use Rattle.mc_typed.specs.Layout.{ObjectType, nesting_all, start, object_type_of}
use Rattle.types_rules.specs.Profile.{counted, most_counted}
use Rattle.types_rules.specs.Types.{nothing}
use Rattle.types_rules.specs.Types as types
use Rattle.types_rules.specs.Declarators.{cells_of_members}
use Rattle.types_rules.specs.Expressions.{Selected, layouts_of}
use Rattle.name_table.specs.Tables.{Named}
use Rattle.types_scopes.specs.declared.member.Member.{Member}
use Rattle.types_scopes.specs.Types.{type_of}

abbrev pub layout_of : Option ObjType → ObjectType
layout_of None = nothing
layout_of (Some u) = object_type_of u

abbrev pub listed_of : Named Member → types.Member
listed_of m = record {
  name = m.name;
  member_type = option_map type_of m.meaning.of;
  layout = layout_of m.meaning.layout;
}

-- the member with this name and this number
abbrev pub selected_of : List ℕ → ℕ → Member → Selected
selected_of name k m =
    record { number = k; member = listed_of (record { name = name; meaning = m }) }

-- a member that is found with its number
abbrev pub found_member : ℕ × Bor Member → ℕ × Member
found_member r = (r.0, r.1.now)

abbrev pub member_at : ℕ → Named Member → ℕ × Member
member_at k m = (k, m.meaning)

-- Members with so many cells and so much nesting in all: each has the place where it begins (C17
-- 6.7.2.1p15). All these are counted as far as 32 bits do.
pub record AreLaid (members : List (Named Member)) (total nested : ℕ) : Type 0 where
  pub cells : total ≡ counted (cells_of_members (map listed_of members))
  pub nesting : nested ≡ min (nesting_all (layouts_of (map listed_of members))) most_counted
  pub offsets : (k : ℕ) (m : Named Member) → slice_get members k ≡ Some m
      → m.meaning.offset ≡ counted (start (layouts_of (map listed_of members)) k)
