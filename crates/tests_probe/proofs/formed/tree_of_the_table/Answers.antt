use Rattle.std.proofs.Common.{refl}
use Rattle.tests_probe.proofs.Mapped.{its_map}
use Rattle.tests_probe.proofs.formed.tree_of_the_table.Goals as goal

pub returns-clause-its : goal.returns-clause-its
returns-clause-its c = record { is_map = its_map; is_tree = refl }
