use Rattle.tests_probe.proofs.PlacedProbes.{probes_placed}
use Rattle.tests_probe.proofs.places.probes_have_places.Goals as goal

pub returns : goal.returns
returns c = probes_placed
