-- An initializer without braces, and what the items of a list are for.
use Rattle.std.specs.Prelude.{◌≡◌, ◌<◌, ℕ, Option, Some, None}
use Rattle.mc_tree.specs.Tree.{Expression, Initializer, Single, Braced}
use Rattle.types_rules.specs.Initializers.{Parts, first_part}
use Rattle.types_statements.specs.declared.initializers.parts.PartTypes.{PartTypes}
use Rattle.types_statements.specs.Initializers.{part_at, parts_from}

abbrev pub single_in : Initializer → Option Expression
single_in (Single e) = Some e
single_in (Braced items span) = None

-- the first items, of this number, are for these parts
abbrev pub AreParts : ℕ → PartTypes → Parts → Type 0
AreParts count found parts = (n : ℕ) → n < count → part_at found n ≡ first_part (parts_from n parts)
