-- The map of the program that counts.
use Rattle.std.proofs.Common.{refl, map, arith}
use Rattle.decide_rules.proofs.Told.{told_as}
use Rattle.tests_probe.specs.Counting.{counting, counting_map, IsItsMap}

pub its_map : IsItsMap
its_map = record {
  kept = record {
    placed = (record { numbered = record { in_order = refl; few = omega arith }; places = refl }, tt);
    based = (refl, refl);
    few = omega arith;
  };
  entries = refl;
  exits = refl;
  statements = refl;
  labels = refl;
  decisions = told_as counting.functions (map (λ d. d.decision) counting_map.decisions) refl;
}
