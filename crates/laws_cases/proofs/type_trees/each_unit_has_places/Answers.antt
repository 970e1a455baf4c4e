use Rattle.laws_cases.proofs.Units.{each_unit_has_places}
use Rattle.laws_cases.proofs.type_trees.each_unit_has_places.Goals as goal

pub returns : goal.returns
returns c = each_unit_has_places
