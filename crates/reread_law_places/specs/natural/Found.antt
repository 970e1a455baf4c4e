-- What is found of a node, at other places.
use Rattle.std.specs.Prelude.{option_map}
use Rattle.types_rules.specs.Values.{Value, Number, Stored, Borrowed, Returned, Done, Assigned, Designator, Found}
use Rattle.reread_law_texts.specs.alike.Moves.{Move, moved_span}
use Rattle.reread_law_places.specs.natural.Moved.{moved_faults, moved_place, moved_number, moved_call, moved_effect}
use Rattle.reread_law_places.specs.natural.Settled.{settled_effect}

abbrev pub moved_value : Move → Value → Value
moved_value m (Number e) = Number (moved_number m e)
moved_value m (Stored place u) = Stored (moved_place m place) u
moved_value m (Borrowed array u span) = Borrowed array u (moved_span m span)
moved_value m (Returned c k) = Returned (moved_call m c) k
moved_value m (Done effect) = Done (moved_effect m effect)
moved_value m (Assigned effect) = Assigned (moved_effect m effect)
moved_value m Designator = Designator

-- An assignment or a step may have a place that is cut out of another.
abbrev pub settled_value : Value → Value
settled_value (Assigned effect) = Assigned (settled_effect effect)
settled_value v = v

-- of an expression: its faults and its value are moved, and nothing else changes
abbrev pub moved_found : Move → Found → Found
moved_found m x = record x {
  faults = moved_faults m x.faults;
  value = option_map (moved_value m) x.value;
}

abbrev pub settled_found : Found → Found
settled_found x = record x { value = option_map settled_value x.value }
