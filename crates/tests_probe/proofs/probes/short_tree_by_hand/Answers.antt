use Rattle.std.specs.Prelude.{refl}
use Rattle.tests_probe.proofs.probes.short_tree_by_hand.Goals as goal

pub returns-clause-map : goal.returns-clause-map
returns-clause-map c = refl

pub returns-clause-tree : goal.returns-clause-tree
returns-clause-tree c = refl
