use Rattle.tests_probe.proofs.Mapped.{its_map}
use Rattle.tests_probe.proofs.probes.map_by_hand.Goals as goal

pub returns-clause-map : goal.returns-clause-map
returns-clause-map c = its_map
