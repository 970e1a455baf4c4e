use Rattle.std.specs.Prelude.{refl}
use Rattle.tests_probe.proofs.probes.full_operators_by_hand.Goals as goal

pub returns-clause-map : goal.returns-clause-map
returns-clause-map c = refl

pub returns-clause-tree : goal.returns-clause-tree
returns-clause-tree c = refl

pub returns-clause-and_bits : goal.returns-clause-and_bits
returns-clause-and_bits c = refl

pub returns-clause-or_bits : goal.returns-clause-or_bits
returns-clause-or_bits c = refl

pub returns-clause-xor_bits : goal.returns-clause-xor_bits
returns-clause-xor_bits c = refl

pub returns-clause-mixed_bits : goal.returns-clause-mixed_bits
returns-clause-mixed_bits c = refl
