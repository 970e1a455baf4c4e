use Rattle.std.proofs.Common.{◌≡◌, length}
use Rattle.std.specs.List.{list_any}
use Rattle.mc_places.specs.Origins.{is_named, names_file}
use Rattle.mc_places.specs.Seen.{markers_left}
use Rattle.mc_places.proofs.places.Places.names.Given as goal

abbrev pub invariant-loop-marker : goal.invariant-loop-marker
invariant-loop-marker l = list_any (names_file l.name) (markers_left l.markers) ≡ is_named l.self.text.now l.name

abbrev pub decreases-loop-marker : goal.decreases-loop-marker
decreases-loop-marker l = length (markers_left l.markers)
