use Rattle.std.proofs.Common.{◌≡◌, ◌≤◌, length}
use Rattle.std.specs.Str.Parse.{digits_value, digits_value_after}
use Rattle.mc_places.specs.Markers.{greatest_line}
use Rattle.mc_places.proofs.marker.number_of.Given as goal

abbrev pub invariant-loop-left : goal.invariant-loop-left
invariant-loop-left l = record {
  same : digits_value 10 l.digits ≡ digits_value_after 10 l.value l.left;
  held : l.value ≤ greatest_line;
}

abbrev pub decreases-loop-left : goal.decreases-loop-left
decreases-loop-left l = length l.left
