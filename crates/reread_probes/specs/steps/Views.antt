-- What a walk of the program stands for.
use Rattle.reread_probes.specs.declared.walk.Walk.{Walk}
use Rattle.reread_probes.specs.Walks as spec

abbrev pub walk_of : Walk → spec.Walk
walk_of w = record { left = w.left.now; placed = w.placed.items; fits = w.fits }
