-- The trail of a run by the bits that it hits.
use Rattle.std.specs.Prelude.{ℕ, ◌-◌, nat_lt, if◌then◌else◌, List, [], ◌∷◌}
use Rattle.mc_probe.specs.Maps.{Map, first_exit, first_statement, first_label}
use Rattle.interp_trail.specs.declared.layout.Layout.{Layout}
use Rattle.interp_trail.specs.Trails.{Trail, entered, exited, began}

-- where the bits of exits, counted statements and labels begin
abbrev pub layout_of : Map → Layout
layout_of m = record {
  first_exit = first_exit m;
  first_statement = first_statement m;
  first_label = first_label m;
}

-- the bits of entries come first, then those of exits and of counted statements
abbrev pub after_bit : Layout → ℕ → Trail → Trail
after_bit l bit t =
    if nat_lt bit l.first_statement
    then (if nat_lt bit l.first_exit then entered bit t else exited (bit - l.first_exit) t)
    else (if nat_lt bit l.first_label then began (bit - l.first_statement) t else t)

abbrev pub after_bits : Layout → List ℕ → Trail → Trail
after_bits l [] t = t
after_bits l (bit ∷ bits) t = after_bits l bits (after_bit l bit t)
