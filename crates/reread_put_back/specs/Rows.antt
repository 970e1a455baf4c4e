-- What the rows of the table of probes name.
use Rattle.std.specs.Prelude.{ℕ, ◌+◌, Option, Some, None}
use Rattle.mc_typed.specs.declared.probes.Mark.{Mark}
use Rattle.reread_pieces.specs.declared.piece.What.{What}
use Rattle.reread_pieces.specs.declared.piece.What.TheVariants as what

-- ---- each by its place

abbrev pub statement_bit : What → Option ℕ
statement_bit (what.Statement bit) = Some bit
statement_bit _ = None

abbrev pub declaration_bit : What → Option ℕ
declaration_bit (what.Declaration bit) = Some bit
declaration_bit _ = None

-- of a `return`, with and without a value
abbrev pub return_bit : What → Option ℕ
return_bit (what.ValueEnd bit) = Some bit
return_bit (what.Return bit) = Some bit
return_bit _ = None

abbrev pub label_mark : What → Option Mark
label_mark (what.Label register bit) = Some (record { register = register; bit = bit })
label_mark _ = None

-- of a `switch` without `default`
abbrev pub default_mark : What → Option Mark
default_mark (what.Default register bit) = Some (record { register = register; bit = bit })
default_mark _ = None

-- of a function: how many registers it has, and the bits of its entry and of its exit
abbrev pub register_count : What → Option ℕ
register_count (what.Registers count) = Some count
register_count _ = None

abbrev pub entry_bit : What → Option ℕ
entry_bit (what.Entry bit) = Some bit
entry_bit _ = None

abbrev pub exit_bit : What → Option ℕ
exit_bit (what.Exit bit) = Some bit
exit_bit _ = None

-- ---- all of them

abbrev pub register_of : What → Option ℕ
register_of (what.Label register bit) = Some register
register_of (what.Default register bit) = Some register
register_of (what.Decision register base) = Some register
register_of (what.Condition register on_true on_false) = Some register
register_of (what.Switch register) = Some register
register_of _ = None

-- one more than the bit that it names; 0 for a probe round an expression, whose bits follow from
-- its paths
abbrev pub end_of : What → ℕ
end_of (what.Entry bit) = bit + 1
end_of (what.Exit bit) = bit + 1
end_of (what.Declaration bit) = bit + 1
end_of (what.Label register bit) = bit + 1
end_of (what.Default register bit) = bit + 1
end_of (what.Statement bit) = bit + 1
end_of (what.ValueEnd bit) = bit + 1
end_of (what.Return bit) = bit + 1
end_of _ = 0
