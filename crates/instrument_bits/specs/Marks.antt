-- The probes of labels.
use Rattle.std.specs.Prelude.{ℕ, Bool, true, false, Option, Some, None}
use Rattle.mc_typed.specs.declared.probes.Mark.{Mark}

-- the probe of an absent `default`, with this register and this bit
abbrev pub mark_where : Bool → ℕ → ℕ → Option Mark
mark_where true register bit = None
mark_where false register bit = Some (record { register = register; bit = bit })
