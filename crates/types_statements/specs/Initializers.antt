-- What is initialized by the program, as what is initialized in the definitions.
use Rattle.std.specs.Prelude.{ℕ, List, [], map, drop, slice_get, Option, Some, None, option_map, option_and_then}
use denote.Ref.{Bor}
use Rattle.types_rules.specs.Types as types
use Rattle.types_rules.specs.Initializers as initializers
use Rattle.types_scopes.specs.declared.member.Member.{Member}
use Rattle.name_table.specs.Tables.{Named}
use Rattle.types_scopes.specs.declared.types.CType.{CType}
use Rattle.types_scopes.specs.Listed.{listed_of}
use Rattle.types_scopes.specs.Types.{base_of, type_of}
use Rattle.types_statements.specs.declared.initializers.parts.PartTypes.{PartTypes}
use Rattle.types_statements.specs.declared.initializers.parts.PartTypes.TheVariants as parts
use Rattle.types_statements.specs.declared.initializers.target.Target.{Target}
use Rattle.types_statements.specs.declared.initializers.target.Target.TheVariants as target

abbrev pub members_in : Option (Bor (List (Named Member))) → List types.Member
members_in None = []
members_in (Some c) = map listed_of c.now

abbrev pub target_of : Target → initializers.Target
target_of target.Missing = initializers.Missing
target_of (target.Scalar u) = initializers.ScalarTarget (type_of u.now)
target_of (target.Array n base is_const lengths) =
    initializers.ArrayTarget n
    (record { base = base_of base; is_const = is_const; lengths = lengths.now })
target_of (target.Structure k members) = initializers.StructureTarget k (members_in members)

-- ---- parts

-- what the items after so many are for
abbrev pub parts_from : ℕ → initializers.Parts → initializers.Parts
parts_from n (initializers.Elements u) = initializers.Elements u
parts_from n (initializers.Members members) = initializers.Members (drop n members)
parts_from n initializers.NoParts = initializers.NoParts

abbrev pub type_at : List (Option types.CType) → ℕ → Option types.CType
type_at us n = option_and_then (λ u. u) (slice_get us n)

abbrev pub optional_type : Option CType → Option types.CType
optional_type u = option_map type_of u

abbrev pub part_at : PartTypes → ℕ → Option types.CType
part_at (parts.Elements u) n = Some (type_of u)
part_at (parts.Members us) n = type_at (map optional_type us.items) n
part_at parts.Missing n = None
