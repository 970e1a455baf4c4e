use Rattle.std.proofs.Common.{◌≡◌, ◌++◌, length}
use Rattle.std.specs.Prelude.{option_map}
use Rattle.mc_places.specs.Origins.{origins, origins_from}
use Rattle.mc_places.specs.Seen.{markers_left, origin_of, origins_of}
use Rattle.mc_places.proofs.places.origins_of_lines.Given as goal

abbrev pub invariant-loop-marker : goal.invariant-loop-marker
invariant-loop-marker l = origins_of l.found.items ++ origins_from (option_map origin_of l.now) (markers_left l.markers) ≡ origins l.text

abbrev pub decreases-loop-marker : goal.decreases-loop-marker
decreases-loop-marker l = length (markers_left l.markers)
